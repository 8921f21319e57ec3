-- The place of a value on its disk: which batches go behind its log, and what is known of the disk.
use Rattle.std.specs.Prelude.{ℕ, ◌+◌, ◌-◌, ◌&&◌, leb, max, if◌then◌else◌, List, length}
use Rattle.std.specs.Prelude.{◌≡◌, Bool, false, Option, Some, None}
use Rattle.disk.specs.Areas.{Areas}
use Rattle.disk_shelf.specs.Logs.{IsKept, StaysPlain}
use Rattle.disk_shelf.specs.declared.persist.TheConstants.{GREATEST_SAVED}
use Rattle.disk_journal.specs.declared.journal.Tail.{Tail}
use Rattle.disk_journal.specs.declared.journal.TheConstants.{LEAST_LOG}

-- The offset of the last gate, if a log follows the image and a batch of this many bytes goes
-- behind it: the log may become as long as what is before it, or as the least limit.
abbrev pub room_at : ℕ → Option ℕ → ℕ → Option ℕ
room_at start None len = None
room_at start (Some end) len =
    if leb len GREATEST_SAVED && leb (9 + len) (max start LEAST_LOG - (end - start))
    then Some end
    else None

abbrev pub place_for : Tail → List ℕ → Option ℕ
place_for t batch = room_at t.start t.end (length batch)

-- the same place, except for what seals are written there
pub record IsSamePlace (t other : Tail) : Type 0 where
  pub side : other.in_b ≡ t.in_b
  pub end : other.end ≡ t.end
  pub logs : other.logs ≡ t.logs

-- if no log is to follow the images that are saved, none follows the image, even after a crash
abbrev pub IsPlainAt : (List ℕ → Bool) → (Areas → Type 0) → Tail → Type 0
IsPlainAt logs may_leave t = t.logs ≡ false → (t.end ≡ None) × StaysPlain logs may_leave

-- the value of a disk is at this place, even after a crash
pub record IsPlacedAt {D : Type 0} (seen : D → Areas) (may_leave : D → Areas → Type 0)
    (logs : List ℕ → Bool) (disk : D) (t : Tail) : Type 0 where
  pub kept : IsKept seen may_leave logs disk t.in_b t.end
  pub plain : IsPlainAt logs (may_leave disk) t
