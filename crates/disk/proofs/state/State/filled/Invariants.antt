use Rattle.std.proofs.Common.{◌≡◌, drop}
use Rattle.disk.specs.Record.{areas_of, synced, filled_by}
use Rattle.disk.proofs.state.State.filled.Given as goal

-- the ranges that are left give the same as all of them
abbrev pub invariant-loop-range : goal.invariant-loop-range
invariant-loop-range l =
    filled_by l.fill (drop l.range-index l.self.ranges.items) (areas_of l.left)
    ≡ filled_by l.fill l.self.ranges.items (synced l.self)
