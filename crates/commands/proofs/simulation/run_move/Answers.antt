use Rattle.std.proofs.Common.{IfErr, OnOk}
use Rattle.commands.specs.Script.{StepRefused, StepTaken}
use Rattle.commands.specs.declared.simulation.State.TheVariants as state
use Rattle.commands.proofs.Replies.{printed_as, prints_refused, prints_taken}
use Rattle.commands.proofs.simulation.run_move.Goals as goal
use Rattle.commands.proofs.simulation.run_move.Goals.{in-Save, in-Restart, in-Deliver, in-Hand}

pub returns-in-Ok : goal.returns-in-Ok
returns-in-Ok g c number f =
    let move = c.match-step in
    let done : OnOk move.taken (StepTaken c.args.step.now
    (state.Open c.args.space.now f) (state.Open move.space f) move.printer) = elim move.branch [
      | in-Save w ↦
          rw (w.space-is, w.printer-is, w.taken-is, w.in-Save.is) (w.save-taken.ensures f).taken
      | in-Restart w ↦
          rw (w.space-is, w.printer-is, w.taken-is, w.in-Restart.is)
          (w.restart-taken.ensures f).taken
      | in-Deliver w ↦
          rw (w.space-is, w.printer-is, w.taken-is, w.in-Deliver.is)
          (w.deliver-taken.ensures f).taken
      | in-Hand w ↦
          rw (w.space-is, w.printer-is, w.taken-is, w.in-Hand.is) (w.hand-taken.ensures f).taken
    ] in
    printed_as c.print_line.result c.print_line.ensures.text c.print_line.ensures.status
    (λ text status zero. prints_taken (rw c.in-Ok.is at done) text zero number)

pub returns-in-Err : goal.returns-in-Err
returns-in-Err g c number f =
    let move = c.match-step in
    let done : IfErr move.taken (StepRefused c.args.step.now
    (state.Open c.args.space.now f) (state.Open move.space f)) = elim move.branch [
      | in-Save w ↦
          rw (w.space-is, w.taken-is, w.in-Save.is) (w.save-taken.ensures f).refused
      | in-Restart w ↦
          rw (w.space-is, w.taken-is, w.in-Restart.is)
          (w.restart-taken.ensures f).refused
      | in-Deliver w ↦
          rw (w.space-is, w.taken-is, w.in-Deliver.is)
          (w.deliver-taken.ensures f).refused
      | in-Hand w ↦
          rw (w.space-is, w.taken-is, w.in-Hand.is) (w.hand-taken.ensures f).refused
    ] in
    printed_as c.print_refusal.result c.print_refusal.ensures.text c.print_refusal.ensures.status
    (λ text status one. prints_refused (rw c.in-Err.is at done) text one number)
