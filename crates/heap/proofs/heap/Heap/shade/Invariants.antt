use Rattle.std.proofs.Common.{◌≡◌, ◌+◌, ◌≤◌, drop}
use Rattle.model.specs.Shading.{make_all_grey, filled}
use Rattle.heap.proofs.heap.Heap.shade.Given as goal

-- shading what is left now gives the same as shading everything at the start
abbrev pub invariant-loop-reference : goal.invariant-loop-reference
invariant-loop-reference l =
    record {
      left : make_all_grey l.own l.cycle l.self.heap (filled (drop l.reference-index l.references))
          ≡ make_all_grey l.own l.cycle l.fn.self.heap (filled l.references);
      limit : l.self.limit ≡ l.fn.self.limit;
      room : l.fn.self.room ≤ l.self.room + l.reference-index;
      letter_room : l.self.letter_room ≡ l.fn.self.letter_room;
    }
