use Rattle.std.proofs.Common.{◌≡◌, length}
use Rattle.c_handles.specs.Images.{keeps_below}
use Rattle.c_handles.proofs.lone.images.keep.Given as goal

abbrev pub invariant-loop-peer : goal.invariant-loop-peer
invariant-loop-peer l =
    record {
      node : l.node ≡ keeps_below l.counts l.peer l.fn.node;
      width : l.peer-end ≡ length l.fn.node.core.links;
    }
