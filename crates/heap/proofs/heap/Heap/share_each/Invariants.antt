use Rattle.std.proofs.Common.{◌≡◌, drop}
use Rattle.model.specs.Heaps.{share_all}
use Rattle.model.specs.Shading.{filled}
use Rattle.heap.proofs.heap.Heap.share_each.Given as goal

-- sharing what is left now gives the same as sharing everything at the start
abbrev pub invariant-loop-reference : goal.invariant-loop-reference
invariant-loop-reference l =
    record {
      left : share_all l.own l.self.heap (filled (drop l.reference-index l.references))
          ≡ share_all l.own l.fn.self.heap (filled l.references);
      rest : l.self ≡ record l.fn.self { heap = l.self.heap };
    }
