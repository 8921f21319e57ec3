use Rattle.std.proofs.Common.{◌≡◌, None, replicate}
use Rattle.ids.specs.declared.limits.TheConstants.{WINDOW}
use Rattle.link.proofs.early.EarlyFrames.new.Given as goal

abbrev pub invariant-loop-place : goal.invariant-loop-place
invariant-loop-place l =
    record {
      items : l.places.items ≡ replicate l._place None;
      capacity : l.places.capacity ≡ WINDOW;
    }
