use Rattle.std.proofs.Common.{arith}
use Rattle.model.specs.Shading.{roots}
use Rattle.model.proofs.Searching.{finds-more}
use Rattle.heap.proofs.heap.Heap.find_roots.Goals as goal

pub loop-number-preserved : goal.loop-number-preserved
loop-number-preserved c =
    let old = c.loop-number.invariant in
    record {
      count = old.count;
      finds = finds-more (roots c.args.self.now.heap) c.loop-number.number (omega arith) old.finds
          (rw (c.root.ensures) at c.find.ensures);
    }
