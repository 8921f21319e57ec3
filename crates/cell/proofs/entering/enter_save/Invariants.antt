use Rattle.model.specs.declared.step.Step.TheVariants as step
use Rattle.wire.specs.Readers.{known}
use Rattle.cell.specs.Events.{both_states}
use Rattle.cell.proofs.entering.enter_save.Given as goal

abbrev pub ghost-tick : goal.ghost-tick
ghost-tick a = (
  step.Save (known a.seat.now).me,
  both_states (known a.seat.now).pair.current,
)
