-- The stores in which nodes are saved, and the places of nodes on disks.
use Rattle.std.specs.Prelude.{◌≡◌, ℕ, Bool, true, List, Option, None, IfSome}
use Rattle.disk.specs.Areas.{Areas}
use Rattle.disk_journal.specs.Tails.{IsPlacedAt, place_for}
use Rattle.disk_journal.specs.declared.journal.Tail.{Tail}
use Rattle.disk.specs.declared.device.Disk as disk
use Rattle.image_parts.specs.Logs.{begins_logged}
use Rattle.node_store.specs.declared.store.Store.{Store}

-- the node of a disk is at this place, even after a crash
abbrev pub LiesAt : {D : Type 0} (seen : D → Areas) (may_leave : D → Areas → Type 0) → D → Tail
    → Type 0
LiesAt seen may_leave disk place = IsPlacedAt seen may_leave begins_logged disk place

module _ {D : Type 0} {g : disk.Ghosts D} where
  abbrev pub disk_of : Store D g → D
  disk_of s = s.journal.disk

  abbrev pub is_ready_in : Store D g → Bool
  is_ready_in s = s.journal.ready

  -- whether a save may add events to a log
  abbrev pub logs_in : Store D g → Bool
  logs_in s = s.journal.tail.logs

  -- whether a save with this log writes the whole image
  abbrev pub WritesAll : Store D g → Option (List ℕ) → Type 0
  WritesAll s log =
      logs_in s ≡ true → IfSome log (λ bytes. place_for s.journal.tail bytes ≡ None)
