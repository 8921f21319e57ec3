use Rattle.std.proofs.Common.{◌≡◌, length, take}
use Rattle.model.specs.Shading.{roots}
use Rattle.model.specs.Searching.{Finds, sought}
use Rattle.heap.proofs.heap.Heap.find_roots.Given as goal

-- what the roots so far name is found
abbrev pub invariant-loop-number : goal.invariant-loop-number
invariant-loop-number l =
    record {
      count : l.number-end ≡ length (roots l.self.heap);
      finds : Finds l.own (sought l.scope l.self.heap) (take l.number (roots l.self.heap))
          l.fn.search l.search;
    }
