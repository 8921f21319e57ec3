use Rattle.disk.specs.Record.{areas_of}
use Rattle.disk.proofs.Torn.{all_filled, filled_next}
use Rattle.disk.proofs.state.State.filled.Goals as goal

pub returns : goal.returns
returns c =
    let read = c.deref-range-items in
    all_filled c.args.fill c.loop-range.range-index c.args.self.now read.result.now
    (areas_of c.loop-range.left) read.ensures.value c.loop-range-test.false c.loop-range.invariant

pub loop-range-preserved : goal.loop-range-preserved
loop-range-preserved c =
    let read = c.deref-range-items in
    filled_next c.args.fill c.loop-range.range-index (areas_of c.loop-range.left) read.ensures.value
    c.loop-range-test.true c.range-item.is c.in_ok-fill.ensures c.loop-range.invariant
