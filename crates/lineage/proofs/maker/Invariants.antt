use Rattle.std.proofs.Common.{◌≡◌, ◌≤◌, length, take}
use Rattle.lineage.specs.Lines.{maker}
use Rattle.lineage.proofs.maker.Given as goal

abbrev pub invariant-loop-at : goal.invariant-loop-at
invariant-loop-at l =
    (l.at ≤ length l.line) × (maker (take l.at l.line) l.save ≡ maker l.line l.save)

abbrev pub decreases-loop-at : goal.decreases-loop-at
decreases-loop-at l = l.at
