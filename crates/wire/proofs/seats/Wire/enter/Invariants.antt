use Rattle.wire.specs.Readers.{known}
use Rattle.wire.specs.Entering.{pair_by}
use Rattle.wire.proofs.seats.Wire.enter.Given as goal

abbrev pub ghost-enter_step : goal.ghost-enter_step
ghost-enter_step g a = (g.was.0, pair_by g.was.1 (known a.seat.now).pair)
