use Rattle.std.proofs.Common.{arith}
use Rattle.c_handles.proofs.Entries.{listing_one}
use Rattle.c_handles.proofs.gone.add_unmarked.Goals as goal

pub loop-slot-preserved : goal.loop-slot-preserved
loop-slot-preserved c =
    listing_one c.loop-slot.invariant
    (omega (arith, c.loop-slot-test.true, c.loop-slot.auto.slot-end))
    c.in_ok-add_if_unmarked.ensures.added
