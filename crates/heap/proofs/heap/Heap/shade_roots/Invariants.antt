use Rattle.std.proofs.Common.{◌≡◌, ◌+◌, ◌≤◌, length, drop}
use Rattle.model.specs.Shading.{make_all_grey, filled, roots}
use Rattle.heap.proofs.heap.Heap.shade_roots.Given as goal

-- shading what is left now gives the same as shading everything at the start
abbrev pub invariant-loop-number : goal.invariant-loop-number
invariant-loop-number l =
    let all = roots l.fn.self.heap in
    record {
      same : roots l.self.heap ≡ all;
      count : l.count ≡ length all;
      left : make_all_grey l.own l.cycle l.self.heap (filled (drop l.number all))
          ≡ make_all_grey l.own l.cycle l.fn.self.heap (filled all);
      limit : l.self.limit ≡ l.fn.self.limit;
      room : l.fn.self.room ≤ l.self.room + l.number;
      letter_room : l.self.letter_room ≡ l.fn.self.letter_room;
    }
