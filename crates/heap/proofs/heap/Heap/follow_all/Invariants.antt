use Rattle.std.proofs.Common.{◌≡◌, length}
use Rattle.model.specs.Searching.{Rooted, sought, work_of}
use Rattle.heap.proofs.Growing.{Grows}
use Rattle.heap.proofs.heap.Heap.follow_all.Given as goal

abbrev pub invariant-loop-slot : goal.invariant-loop-slot
invariant-loop-slot l =
    record {
      rooted : Rooted l.own (sought l.scope l.fn.self.heap) l.search;
      grows : Grows l.scope l.own l.fn.self.heap l.self.heap l.search;
      width : length l.search.found ≡ length l.self.heap.slots;
      rest : l.self ≡ record l.fn.self { heap = l.self.heap };
    }

abbrev pub decreases-loop-slot : goal.decreases-loop-slot
decreases-loop-slot l = work_of l.search
