use Rattle.std.proofs.Common.{◌≡◌, ◌∙◌, [], IfOk, Option, Some, not, sym, ap, refl, subst}
use Rattle.model.specs.declared.step.Outcome.TheVariants as outcome
use Rattle.model.specs.declared.step.Step.{Step}
use Rattle.script.specs.declared.line.Line.{Line}
use Rattle.script.specs.declared.line.Line.TheVariants as line
use Rattle.script.specs.Grammar.{line_of, plain, words_of}
use Rattle.commands.specs.Freed.{KeepsSums, freed_in, freed_with}
use Rattle.commands.specs.Script.{PrintsReply, ShowsHeld, TakesLine}
use Rattle.commands.specs.declared.simulation.Reply.TheVariants as reply
use Rattle.commands.proofs.Replies.{awaited_shows, denied_shows, outcome_shows, printed_as, prints_refused, prints_taken, read_none, read_some, step_refused}
use Rattle.commands.proofs.simulation.run_line.Given as given
use Rattle.commands.proofs.simulation.run_line.Goals as goal
use Rattle.commands.proofs.simulation.run_line.Goals.{Else-is_none}

read : (g : given.Over) (c : Else-is_none g)
    → Some (plain c.read.new.self) ≡ line_of (words_of c.args.text.now)
read g c =
    read_some c.read.result c.read.new.self _ c.read.ensures.reads
    (c.is_none.ensures ∙ ap not c.if-is_none.false)

-- the line says a step
step_read : (g : given.Over) (c : Else-is_none g) {s : Step} → c.read.new.self ≡ line.Step s
    → line_of (words_of c.args.text.now) ≡ Some (line.Step s)
step_read g c is = sym (read g c) ∙ ap (λ (l : Line). Some (plain l)) is

-- the line is outside the grammar
pub returns-then-is_none : goal.returns-then-is_none
returns-then-is_none g c =
    rw (← read_none c.read.result c.read.new.self (line_of (words_of c.args.text.now))
    c.read.ensures.reads (c.is_none.ensures ∙ ap not c.if-is_none.true))
    (printed_as c.print_no_command.result c.print_no_command.ensures.text
    c.print_no_command.ensures.status
    (λ text status two. record {
      reply = reply.NoCommand;
      answers = λ h shown. (h, (refl, refl), shown);
      prints = text;
      is = two;
    }))

pub returns-in-Unopened : goal.returns-in-Unopened
returns-in-Unopened g c =
    rw (step_read g (goal.at.returns-in-Unopened g c).Else-is_none c.in-Step.is, c.in-Unopened.is)
    (printed_as c.print_no_command-in-Unopened.result c.print_no_command-in-Unopened.ensures.text
    c.print_no_command-in-Unopened.ensures.status
    (λ text status two. record {
      reply = reply.NoCommand;
      answers = λ h shown. awaited_shows h c.in-Step.step shown;
      prints = text;
      is = two;
    }))

pub returns-in-Refused : goal.returns-in-Refused
returns-in-Refused g c =
    let e = c.in-Refused.refusal in
    rw (step_read g (goal.at.returns-in-Refused g c).Else-is_none c.in-Step.is)
    (printed_as c.print_refusal.result c.print_refusal.ensures.text c.print_refusal.ensures.status
    (λ text status one. record {
      reply = reply.Refused e;
      answers = λ h shown. denied_shows h c.in-Step.step e
          (subst (λ s. ShowsHeld s h) c.in-Refused.is shown);
      prints = text;
      is = one;
    }))

-- an event, which was answered
pub returns-in-Ok : goal.returns-in-Ok
returns-in-Ok g c =
    let o = outcome.Answer c.in-Ok.answer in
    rw (
      step_read g (goal.at.returns-in-Ok g c).Else-is_none c.in-Step.is,
      c.in-Open.is,
      c.in-Act.is,
    )
    (printed_as c.print_line.result c.print_line.ensures.text c.print_line.ensures.status
    (λ text status zero. prints_taken
    (record {
      outcome = o;
      answers = λ h shown. outcome_shows h c.in-Open.freed _ shown
          (rw c.in-Ok.is at c.act.ensures.stepped)
          (λ w sums there kept. subst (λ s. KeepsSums c.note.new.freed.sums
          (freed_with w s (freed_in o) sums)) c.sweeper-swept.ensures
          (subst (λ k. KeepsSums c.note.new.freed.sums
          (freed_with w c.sweeper-swept.result k sums)) c.freed_by.ensures
          (c.note.ensures w sums there kept)));
      text = c.put_answer.ensures;
    })
    text zero c.args.number))

pub returns-in-Err : goal.returns-in-Err
returns-in-Err g c =
    let refused =
    step_refused {line = []} (rw c.in-Err.is at c.act.ensures.stepped) c.in-Open.freed in
    rw (
      step_read g (goal.at.returns-in-Err g c).Else-is_none c.in-Step.is,
      c.in-Open.is,
      c.in-Act.is,
    )
    (printed_as c.print_refusal-in-Err.result c.print_refusal-in-Err.ensures.text
    c.print_refusal-in-Err.ensures.status
    (λ text status one. prints_refused refused.refused text one c.args.number))

-- another step
pub returns-in_default-step : goal.returns-in_default-step
returns-in_default-step g c =
    rw (step_read g (goal.at.returns-in_default-step g c).Else-is_none c.in-Step.is, c.in-Open.is)
    (c.run_move.ensures c.args.number c.in-Open.freed)

-- what isn't a step
pub returns-in_default : goal.returns-in_default
returns-in_default g c =
    subst (λ (l : Option Line). IfOk c.run_other.result (PrintsReply
    (λ h r later. TakesLine h l r later) c.args.number
    c.args.state.now c.run_other.new.state
    (g.W.Write.contents c.args.out.now) (g.W.Write.contents c.run_other.new.out)))
    (read g (goal.at.returns-in_default g c).Else-is_none) c.run_other.ensures
