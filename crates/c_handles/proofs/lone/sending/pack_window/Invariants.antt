use Rattle.std.proofs.Common.{◌*◌, ◌≤◌, length}
use Rattle.c_handles.specs.Frames.{Holds, packing}
use Rattle.c_handles.proofs.lone.sending.pack_window.Given as goal

abbrev pub invariant-loop-place : goal.invariant-loop-place
invariant-loop-place l =
    record {
      holds : Holds l.fn.buffer
          (packing (length l.fn.buffer) l.node.core l.to l.after l.place) l.packing l.buffer;
      needed : l.packing.needed ≤ 70000 * l.place;
      count : l.packing.count ≤ l.place;
    }
