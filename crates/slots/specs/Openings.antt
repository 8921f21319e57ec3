-- What an opening finds in a slot, and which of two slots counts.
use Rattle.std.specs.Prelude.{◌≢◌, ◌<◌, ◌≤◌, ℕ, ◌+◌, ◌-◌, Bool, ◌&&◌, ◌||◌, not, cond, nat_lt, ◌==◌}
use Rattle.slots.specs.declared.saving.TheConstants.{NUMBERS}
use Rattle.slots.specs.declared.opening.Found.{Found}
use Rattle.slots.specs.declared.opening.Choice.{Choice}
use Rattle.slots.specs.declared.opening.Choice.TheVariants.{First, Second, Damaged}

abbrev pub nothing_found : Found
nothing_found = record { number = 0; synced = 0; version = 0 }

abbrev pub with_value : Found → (version number : ℕ) → Found
with_value f version number = record f { version = version; number = number }

-- an entry of this number may be behind
abbrev pub is_next : Found → ℕ → Bool
is_next f number = f.version == 2 && nat_lt f.number number

abbrev pub with_entry : Found → ℕ → Found
with_entry f number = cond (is_next f number) (record f { number = number }) f

-- the higher of two numbers
abbrev pub with_synced : Found → ℕ → Found
with_synced f number = cond (nat_lt f.synced number) (record f { synced = number }) f

abbrev pub with_mark : Found → ℕ → Found
with_mark f number = cond (nat_lt number NUMBERS) (with_synced f number) f

-- The save before `behind` was whole, if it is the one that had to come, or says so itself.
abbrev pub is_expected : Found → (claimed behind : ℕ) → Bool
is_expected f claimed behind =
    cond (f.version == 0) (behind == claimed + 1) (behind == f.number + 2)

abbrev pub with_behind : Found → (claimed behind : ℕ) → Found
with_behind f claimed behind =
    cond (is_expected f claimed behind) (with_synced f (behind - 1)) f

-- ---- which slot counts

-- This slot has the last save, and nothing shows that a later one was whole.
pub record Counts (it other : Found) : Type 0 where
  pub whole : it.version ≢ 0
  pub later : other.version ≢ 0 → other.number < it.number
  pub last : it.synced ≤ it.number
  pub alone : other.synced ≤ it.number

abbrev pub IsChoice : Found → Found → Choice → Type 0
IsChoice first second First = Counts first second
IsChoice first second Second = Counts second first
IsChoice first second Damaged = (Counts first second → ⊥) × (Counts second first → ⊥)

-- the same as a test
abbrev pub counts : Found → Found → Bool
counts it other =
    (not (it.version == 0) && (other.version == 0 || nat_lt other.number it.number))
    && (not (nat_lt it.number it.synced) && not (nat_lt it.number other.synced))

abbrev pub chosen : Found → Found → Choice
chosen first second = cond (counts first second) First (cond (counts second first) Second Damaged)

-- how many saves have to be whole values, if the first of these counts
abbrev pub due_wholes : Found → Found → ℕ
due_wholes it other = cond (it.version == 1) 2 (cond (other.version == 1) 1 0)
