use Rattle.std.proofs.Common.{arith}
use Rattle.model.proofs.Searching.{finds-more}
use Rattle.heap.proofs.heap.Heap.find_all.Goals as goal

pub loop-reference-preserved : goal.loop-reference-preserved
loop-reference-preserved c =
    finds-more c.args.references.now c.loop-reference.reference-index (omega arith)
    c.loop-reference.invariant c.find.ensures
