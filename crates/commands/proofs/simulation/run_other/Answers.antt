use Rattle.std.proofs.Common.{Some, refl}
use Rattle.script.specs.Grammar.{plain}
use Rattle.commands.specs.Script.{Moves, TakesLine}
use Rattle.commands.proofs.Replies.{printed_as}
use Rattle.commands.proofs.simulation.run_other.Goals as goal
use Rattle.commands.proofs.simulation.run_other.Goals.{in-Blank, in-Space, in-Wide, in-SetBytes, in-State, in-Report}

pub returns : goal.returns
returns g c =
    let ran = c.match-said in
    let moves : Moves (λ h later. TakesLine h (Some (plain c.args.said.now)) ran.reply later)
    c.args.state.now ran.state = elim ran.branch [
      | in-Blank w ↦
          rw (w.state-is, w.reply-is, w.in-Blank.is) (λ h shown. (h, (refl, refl), shown))
      | in-Space w ↦
          rw (w.state-is, w.reply-is, w.in-Space.is) w.take_space-reply.ensures
      | in-Wide w ↦
          rw (w.state-is, w.reply-is, w.in-Wide.is) w.take_wide-reply.ensures
      | in-SetBytes w ↦ rw (w.state-is, w.reply-is) w.only_wide-reply.ensures
      | in-State w ↦
          rw (w.state-is, w.reply-is, w.in-State.is) w.show_state-reply.ensures
      | in-Report w ↦
          rw (w.state-is, w.reply-is, w.in-Report.is) w.report-reply.ensures
    ] in
    printed_as c.print_reply.result c.print_reply.ensures.text c.print_reply.ensures.status
    (λ text status is. record { reply = ran.reply; answers = moves; prints = text; is = is })
