-- What the record of a disk in memory says: its current state, and the states of the past moments.
use Rattle.std.specs.Prelude.{◌≡◌, ◌⊎◌, ◌↔◌, ℕ, ◌+◌, ◌≤◌, List, [], ◌∷◌, length, replicate}
use Rattle.std.specs.Prelude.{if◌then◌else◌, OnErr, OnOk, refl, Result, ⊤, vec_capacity}
use Rattle.std.proofs.Common.{inl, inr, arith}
use Rattle.std.specs.Prelude.{leb}
use Rattle.disk.specs.Areas.{Areas, NoLonger, part, with_part, Changes, Torn, pasted}
use Rattle.disk.specs.Crashes.{Elapses, Follows, Reaches}
use Rattle.disk.specs.declared.account.Account.{Account}
use Rattle.disk.specs.declared.device.Area.{Area}
use Rattle.disk.specs.declared.device.Area.TheVariants.{Select, A, B}
use Rattle.disk.specs.declared.state.Contents.{Contents}
use Rattle.disk.specs.declared.state.Range.{Range}
use Rattle.disk.specs.declared.state.State.{State}
use Rattle.disk.specs.declared.state.Past.{Past, Start, Then'}

-- the bytes that the areas hold
abbrev pub areas_of : Contents → Areas
areas_of c = record { select = c.select.items; a = c.a.items; b = c.b.items }

-- how many bytes an area may hold before it needs more memory
abbrev pub room : Area → Contents → ℕ
room Select c = vec_capacity c.select
room A c = vec_capacity c.a
room B c = vec_capacity c.b

-- what the disk held at the last sync
abbrev pub synced : State → Areas
synced s = areas_of s.settled.value

-- what may result when a range is written over an outcome that satisfies P, or over what was held
-- before: the range may hold any bytes
abbrev pub torn_in : Range → (Areas → Type 0) → Areas → Type 0
torn_in r P c =
    (m : Areas) × ((m ≡ areas_of r.before.value) ⊎ P m) × Changes r.area (Torn r.at r.len) m c

-- the same for each of these ranges, one after another
abbrev pub torn_by : List Range → (Areas → Type 0) → Areas → Type 0
torn_by [] P c = P c
torn_by (r ∷ ranges) P c = torn_by ranges (torn_in r P) c

-- what was synced, or held since, with any bytes in each range that was written after that
unfoldable pub at_risk : State → Areas → Type 0
at_risk s c = torn_by s.ranges.items (λ x. x ≡ synced s) c

-- What a crash may leave: what a read gives, or bytes that are at risk.
unfoldable pub leaves : State → Areas → Type 0
leaves s c = (c ≡ areas_of s.held) ⊎ at_risk s c

-- From now on a crash may leave any bytes in a range, if that was recorded. If it wasn't, a crash
-- leaves what it left.
pub record Risks {T E : Type 0} (area : Area) (at len : ℕ) (old new : State) (result : Result T E)
    : Type 0 where
  pub crash : Follows (Changes area (Torn at len)) (leaves old) (leaves new)
  pub torn : OnOk result (Reaches (Changes area (Torn at len)) (leaves old) (at_risk new))
  pub refused : OnErr result ((c : Areas) → leaves new c ↔ leaves old c)

-- a crash may leave any bytes, as many as the areas hold or fewer
abbrev pub IsUnsynced : State → Type 0
IsUnsynced s = (c : Areas) → NoLonger (areas_of s.held) c → leaves s c

-- an area was found, which may hold any bytes after a crash
pub record Loaded (area : Area) (s s' : State) : Type 0 where
  pub others : Changes area (λ _ _. ⊤) (areas_of s.held) (areas_of s'.held)
  pub torn : Reaches (Changes area (Torn 0 (length (part area (areas_of s'.held)))))
      (leaves s) (leaves s')

-- how many moments have passed
abbrev pub moments : Past → ℕ
moments Start = 0
moments (Then' m before state) = moments before + 1

-- what a crash may have left at a past moment, from the t-th one on
abbrev pub left_before : Past → ℕ → Areas → Type 0
left_before Start t c = ⊥
left_before (Then' m before state) t c =
    left_before before t c ⊎ ((t ≤ moments before) × leaves state.value c)

-- what a crash from the t-th moment on may have left, at a past moment or now
abbrev pub left_since : Past → State → ℕ → Areas → Type 0
left_since past s t c = left_before past t c ⊎ leaves s c

-- one more moment has passed, in which the disk had this state
abbrev pub IsThen : Past → State → Past → Type 0
IsThen past s Start = ⊥
IsThen past s (Then' m before state) = (before ≡ past) × (state.value ≡ s)

-- one more moment has passed, whatever the state is after it
abbrev pub HasPassed : Past → State → Past → Type 0
HasPassed past s later = (s' : State) →
    Elapses (moments past) (moments later) (left_since past s) (left_since later s') (leaves s')

-- time passes between what a disk knows of itself at one moment and at a later one
abbrev pub Passes : Account → Account → Type 0
Passes old new =
    Elapses (moments old.past.value) (moments new.past.value)
    (left_since old.past.value old.state) (left_since new.past.value new.state) (leaves new.state)

-- what a crash leaves if each byte of a range became this one
abbrev pub filled_in : ℕ → Range → Areas → Areas
filled_in fill r m =
    if leb r.at (length (part r.area m))
    then with_part r.area (pasted r.at (replicate r.len fill) (part r.area m)) m
    else m

abbrev pub filled_by : ℕ → List Range → Areas → Areas
filled_by fill [] m = m
filled_by fill (r ∷ ranges) m = filled_by fill ranges (filled_in fill r m)

-- what a crash leaves if each byte that was written since the last sync became this one
unfoldable pub filled : ℕ → State → Areas
filled fill s = filled_by fill s.ranges.items (synced s)

-- the laws of a disk

pub reads_left : (s : State) → leaves s (areas_of s.held)
unfolding leaves
reads_left s = inl refl

pub counts_now : (a : Account) (t : ℕ) (c : Areas) →
    t ≤ moments a.past.value → leaves a.state c → left_since a.past.value a.state t c
counts_now a t c le now = inr now

none_later : (past : Past) (t : ℕ) (c : Areas) → moments past ≤ t → left_before past t c → ⊥
none_later Start t c le left = left
none_later (Then' m before state) t c le (inl earlier) =
    none_later before t c (omega (arith, le)) earlier
none_later (Then' m before state) t c le (inr last) = absurd (omega (arith, le, last.0))

pub only_now : (a : Account) (c : Areas) →
    left_since a.past.value a.state (moments a.past.value) c → leaves a.state c
only_now a c (inl earlier) =
    absurd (none_later a.past.value (moments a.past.value) c (omega arith) earlier)
only_now a c (inr now) = now
