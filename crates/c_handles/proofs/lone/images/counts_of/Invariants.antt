use Rattle.std.proofs.Common.{◌≡◌, length}
use Rattle.c_handles.specs.Images.{counts_below}
use Rattle.c_handles.proofs.lone.images.counts_of.Given as goal

abbrev pub invariant-loop-peer : goal.invariant-loop-peer
invariant-loop-peer l =
    record {
      counts : l.counts.items ≡ counts_below l.core l.peer;
      width : l.peer-end ≡ length l.core.links;
    }
