use Rattle.std.proofs.Common.{◌≡◌, ◌≤◌, length, take}
use Rattle.disk.specs.Record.{areas_of, synced}
use Rattle.disk.specs.Undo.{undone}
use Rattle.disk.proofs.memory.MemoryDisk.last_synced.Given as goal

-- undoing those that are left leads to the last sync
abbrev pub invariant-loop-left : goal.invariant-loop-left
invariant-loop-left l =
    (l.left ≤ length l.self.undo.items)
    × (undone (take l.left l.self.undo.items) (areas_of l.last) ≡ synced l.self.account.state)

abbrev pub decreases-loop-left : goal.decreases-loop-left
decreases-loop-left l = l.left
