use Rattle.std.proofs.Common.{◌≡◌, Bool, true, IsTrue, Ok, Err, Result, cond, refl, sym, ap, ◌∙◌, subst}
use Rattle.std.proofs.Math.Logic.{∥∥₁_map}
use Rattle.std.proofs.lemmas.Result.{err_from_is_err_and}
use Rattle.ids.specs.declared.refusal.Refusal.{Refusal}
use Rattle.model.specs.declared.event.Answer.{Answer}
use Rattle.model.specs.declared.event.Event.{Event}
use Rattle.model.specs.State.{NodeState}
use Rattle.model.specs.Steps.{act, is_memory_free}
use Rattle.model.specs.View.{NodeView}
use Rattle.node.specs.Keeping.{met}
use Rattle.wire.specs.Entering.{known_after, state_of}
use Rattle.model.specs.Effects.{is_change}
use Rattle.wire.specs.Plays.{Happens}
use Rattle.wire.specs.Views.{Known, Pair}
use Rattle.wire.specs.Readers.{known}
use Rattle.cell.specs.Desks.{AreTaken, IsSavedNode, IsUnsaved, StandsAt}
use Rattle.cell.specs.Events.{Given, MayAct}
use Rattle.cell.proofs.Entered.{pair-after, taken-then, unsaved-after}
use Rattle.cell.proofs.Seats.{facts}
use Rattle.cell.proofs.Standing.{behind-acted, stands-moved}
use Rattle.cell.proofs.Waiting.{acted-taken, taken-after}
use Rattle.cell.proofs.desk.Desk.perform.Goals as goal

pub invariant_of-self-inside : goal.invariant_of-self-inside
invariant_of-self-inside g c =
    let desk = c.self.inside in
    facts desk.at
    (subst (λ (m : NodeView). StandsAt desk.own desk.nodes (known desk.seat).pair m)
    (sym c.in_err-answer.ensures.acted.acts.unchanged) desk.stands)
    desk.was desk.ended_is desk.unsaved
    (subst (AreTaken (known desk.seat).taken) (sym c.in_err-answer.ensures.acted.acts.early)
    (taken-after (known desk.seat).taken desk.logged.node.core.local desk.logged.node.early
    c.args.event.now _ desk.taken (rw (← c.self.view_is) at c.requires.1.1.0)))
    (∥∥₁_map desk.led (c.in_err-answer.ensures.logged desk.saved.value))

pub invariant_of-self-inside-2 : goal.invariant_of-self-inside-2
invariant_of-self-inside-2 g c =
    let desk = c.self.inside in
    let v = known desk.seat in
    let a = c.in_ok-answer.answer in
    let e = met desk.logged.node.early c.args.event.now in
    let found = c.in_ok-answer.ensures.acted.acts.states v.pair.current desk.stands.shows in
    let known_is : known c.enter-counts.new.seat ≡ known_after e g.was.0 (Ok a) v =
    c.enter-counts.ensures.known
    ∙ ap (λ (m : Event). known_after m g.was.0 (Ok a) v)
    (rw (← c.self.view_is) at c.requires.1.0) in
    let may = subst (λ (m : Event). MayAct v m g.was.0)
    (rw (← c.self.view_is) at c.requires.1.0) (rw (← c.self.view_is) at c.requires.1.1.1.0) in
    let pair_is =
    ap (λ (w : Known). w.pair) known_is
    ∙ pair-after e g.was.0 a v found.0 found.1 (may.quiet found.0 a found.1) in
    let after = (known c.enter-counts.new.seat).pair in
    facts {B = StandsAt desk.own desk.nodes after c.act.new.self.node.core}
    (record {
      own = c.enter-counts.ensures.same.2 ∙ desk.at.own;
      nodes = c.enter-counts.ensures.same.3 ∙ desk.at.nodes;
    })
    (subst (λ (p : Pair). StandsAt desk.own desk.nodes p c.act.new.self.node.core) (sym pair_is)
    (stands-moved found.0 desk.stands c.in_ok-answer.ensures.acted.acts.leaves found.2
    (behind-acted v.pair.saved v.pair.current e found.0 a desk.stands.behind found.1)))
    (subst (λ (p : Pair). IsSavedNode desk.own desk.nodes p.saved desk.saved.value) (sym pair_is)
    desk.was)
    (desk.ended_is ∙ sym (ap (λ (p : Pair). p.saved.local.phases.ended) pair_is))
    (subst (IsUnsaved c.is_unsaved_after-self-inside.result) (sym pair_is)
    (unsaved-after (is_change a) c.is_unsaved_after-self-inside.result desk.unsaved
    (may.quiet found.0 a found.1)
    (c.is_unsaved_after-self-inside.ensures
    ∙ ap (λ (b : Bool). cond b true desk.is_unsaved) c.enter-counts.ensures.changed)))
    (acted-taken desk.logged.node.core.local c.args.event.now (Ok a) desk.taken
    (rw (← c.self.view_is) at c.requires.1.1.0) c.in_ok-answer.ensures.acted.acts.early
    (ap (λ (w : Known). w.taken) known_is ∙ taken-then e g.was.0 a v))
    (∥∥₁_map desk.led (c.in_ok-answer.ensures.logged desk.saved.value))

pub enter-counts-requires : goal.enter-counts-requires
enter-counts-requires g c =
    let v = known c.self.inside.seat in
    let said = c.in_ok-answer.ensures.acted.acts in
    let found = said.states v.pair.current c.self.inside.stands.shows in
    let answered : act v.pair.current g.was.1 ≡ Ok (found.0, c.in_ok-answer.answer) =
    ap (act v.pair.current) (rw (← c.self.view_is) at c.requires.1.0) ∙ found.1 in (
      rw (← c.self.view_is) at c.requires.0,
      λ counts.
          subst (Happens v g.was.0)
          (sym (ap (λ (r : Result (NodeState × Answer) Refusal).
          let q : Pair = record { current = state_of v.pair.current r; saved = v.pair.saved } in q)
          answered))
          ((rw (← c.self.view_is) at c.requires.1.1.1.0).happens found.0
          c.in_ok-answer.answer answered
          counts),
    )

pub returns-in_err-answer : goal.returns-in_err-answer
returns-in_err-answer g c =
    let p = err_from_is_err_and c.from_residual.result c.from_residual.ensures.1 in
    let desk = c.self.inside in
    let v = known desk.seat in
    let e = c.in_err-answer.field-0.0 in
    let said = c.in_err-answer.ensures.acted.acts in
    let meant = rw (← c.self.view_is) at c.requires.1.0 in
    rw (p.1, p.2, ← c.self.view_is) (record {
      given = subst (λ (m : Event).
          Given c.args.event.now m g.was.0 (Err e) desk.logged.node c.act.new.self.node v v)
          (sym meant)
          record {
            acted = record {
              performs = said.performs;
              states = said.states v.pair.current desk.stands.shows;
              unchanged = said.unchanged;
              known = refl;
              entered = tt;
            };
            early = said.early;
            turn = said.turn;
            due = λ from d next is.
                (rw (← c.self.view_is) at c.requires.1.1.1.1) from d next (meant ∙ is);
          };
      memory_free = λ free. said.memory_free
          (subst (λ (m : Event). IsTrue (is_memory_free desk.logged.node.core.local m)) meant free);
      unsaved = refl;
      same = (refl, refl, refl, refl, refl);
      stays = refl;
    })

pub returns : goal.returns
returns g c =
    let desk = c.self.inside in
    let v = known desk.seat in
    let a = c.in_ok-answer.answer in
    let said = c.in_ok-answer.ensures.acted.acts in
    let meant = rw (← c.self.view_is) at c.requires.1.0 in
    rw (← c.self.view_is) (record {
      given = subst (λ (m : Event). Given c.args.event.now m g.was.0 (Ok a) desk.logged.node
          c.act.new.self.node v (known c.enter-counts.new.seat)) (sym meant)
          record {
            acted = record {
              performs = said.performs;
              states = said.states v.pair.current desk.stands.shows;
              unchanged = tt;
              known = c.enter-counts.ensures.known
                  ∙ ap (λ (m : Event). known_after m g.was.0 (Ok a) v) meant;
              entered = c.enter-counts.ensures.entered;
            };
            early = said.early;
            turn = said.turn;
            due = λ from d next is.
                (rw (← c.self.view_is) at c.requires.1.1.1.1) from d next (meant ∙ is);
          };
      memory_free = λ _. tt;
      unsaved = c.is_unsaved_after-self-inside.ensures
          ∙ ap (λ (b : Bool). cond b true desk.is_unsaved) c.enter-counts.ensures.changed;
      same = c.enter-counts.ensures.same;
      stays = refl;
    })
