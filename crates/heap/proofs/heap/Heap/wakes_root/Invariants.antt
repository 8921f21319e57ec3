use Rattle.std.proofs.Common.{◌≡◌, length, drop}
use Rattle.std.specs.List.{list_any}
use Rattle.model.specs.Shading.{wakes, filled, roots}
use Rattle.heap.proofs.heap.Heap.wakes_root.Given as goal

-- the roots that are left decide as all the roots do
abbrev pub invariant-loop-number : goal.invariant-loop-number
invariant-loop-number l =
    let all = roots l.self.heap in
    record {
      count : l.number-end ≡ length all;
      left : list_any (wakes l.own l.cycle l.self.heap) (filled (drop l.number all))
          ≡ list_any (wakes l.own l.cycle l.self.heap) (filled all);
    }
