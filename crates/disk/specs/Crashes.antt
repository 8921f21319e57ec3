-- What a crash may leave, as time passes.
use Rattle.std.specs.Prelude.{◌≡◌, ◌⊎◌, ℕ, ◌+◌, ◌^◌, ◌<◌, ◌≤◌}
use Rattle.disk.specs.Areas.{Areas, IsBlank}

-- each outcome of a crash that is possible now is one step from one that was possible before
abbrev pub Follows : (Areas → Areas → Type 0) → (Areas → Type 0) → (Areas → Type 0) → Type 0
Follows step old new = (c : Areas) → new c → (d : Areas) × old d × step d c

-- each outcome of a crash that is one step from one that was possible before is possible now
abbrev pub Reaches : (Areas → Areas → Type 0) → (Areas → Type 0) → (Areas → Type 0) → Type 0
Reaches step old new = (d c : Areas) → old d → step d c → new c

-- a crash leaves this and nothing else
abbrev pub Only : Areas → (Areas → Type 0) → Type 0
Only here outcomes = (c : Areas) → outcomes c → c ≡ here

-- a crash leaves only disks on which nothing was ever created
abbrev pub StaysBlank : (Areas → Type 0) → Type 0
StaysBlank outcomes = (c : Areas) → outcomes c → IsBlank c

-- Time passes: a crash since t may have left what it may have left before, or what it may leave
-- now.
pub record Elapses (before now : ℕ) (past since : ℕ → Areas → Type 0)
    (may_leave : Areas → Type 0) : Type 0 where
  pub later : before ≤ now
  pub nothing_else : (t : ℕ) (c : Areas) → t ≤ before → since t c → past t c ⊎ may_leave c
  pub keeps : (t : ℕ) (c : Areas) → t ≤ before → past t c → since t c

-- A crash at any moment since `old` leaves only areas that satisfy P.
pub record LeavesOnly {D : Type 0} (moment : D → ℕ) (left_since : D → ℕ → Areas → Type 0)
    (old new : D) (P : Areas → Type 0) : Type 0 where
  pub later : moment old ≤ moment new
  pub each : (c : Areas) → left_since new (moment old) c → P c
  -- for a run that began earlier
  pub before : (t : ℕ) (c : Areas) →
      t ≤ moment old → left_since new t c → left_since old t c ⊎ P c

-- calls that change neither what a disk holds nor what a crash may leave
pub record Unmoved {D : Type 0} (seen : D → Areas) (may_leave : D → Areas → Type 0)
    (moment : D → ℕ) (left_since : D → ℕ → Areas → Type 0) (old new : D) : Type 0 where
  pub same : seen new ≡ seen old
  pub crash : (c : Areas) → may_leave new c → may_leave old c
  pub any_moment : LeavesOnly moment left_since old new (may_leave old)

-- a count that has grown, or is already the greatest number of 64 bits
abbrev pub Grew : ℕ → ℕ → Type 0
Grew before now = (before < now) ⊎ (2 ^ 64 ≤ now + 1)

-- a call that failed has increased the count, and one that succeeded has not
pub record HasCause (before now : ℕ) (fault : Type 0) : Type 0 where
  pub later : before ≤ now
  pub failed : fault → Grew before now
  pub fine : (fault → ⊥) → now ≡ before

-- calls that only read a disk: nothing of it changes but the count of failures, if this is one
pub record OnlyRead {D : Type 0} (seen : D → Areas) (may_leave : D → Areas → Type 0)
    (moment : D → ℕ) (left_since : D → ℕ → Areas → Type 0) (faults : D → ℕ) (fault : Type 0)
    (old new : D) : Type 0 where
  pub quiet : Unmoved seen may_leave moment left_since old new
  pub cause : HasCause (faults old) (faults new) fault

-- a call of this disk has failed since, as its count at a later moment shows
pub record HasFailed {D : Type 0} (moment faults : D → ℕ) (disk : D) : Type 0 where
  pub after : D
  pub later : moment disk ≤ moment after
  pub failed : Grew (faults disk) (faults after)
