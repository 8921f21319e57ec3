use Rattle.std.proofs.Common.{arith}
use Rattle.c_handles.proofs.Leaving.{leaving_count, leaving_none, leaving_one}
use Rattle.c_handles.proofs.gone.take_out.Goals as goal

pub loop-place-init : goal.loop-place-init
loop-place-init c = leaving_none c.requires

pub loop-place-preserved : goal.loop-place-preserved
loop-place-preserved c =
    let before = c.loop-place.invariant in
    leaving_one before
    (let count = leaving_count before in
    omega (arith, count, c.loop-place-test.true, c.loop-place.auto.place-end))
    c.leave-left.ensures
