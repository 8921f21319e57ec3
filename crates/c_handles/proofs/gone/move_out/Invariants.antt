use Rattle.std.proofs.Common.{◌≡◌, ◌++◌, drop, take}
use Rattle.c_handles.proofs.gone.move_out.Given as goal

abbrev pub invariant-loop-place : goal.invariant-loop-place
invariant-loop-place l =
    record {
      left : l.list.items ≡ drop l.place l.fn.list.items;
      moved : l.buffer ≡ take l.place l.fn.list.items ++ drop l.place l.fn.buffer;
    }
