-- What the calls on the slots of a folder say to C.
use Rattle.std.specs.Prelude.{◌≡◌, ℤ, pos, Bool, cond, Option, Some, None}
use Rattle.slots.specs.declared.opening.Choice.{Choice}
use Rattle.slots.specs.declared.opening.Choice.TheVariants as choice

-- 1 and the value, or 0 and what was there before
abbrev pub Gives : {T : Type 0} → Option T → (old new : T) → ℤ → Type 0
Gives (Some x) old new flag = (new ≡ x) × (flag ≡ pos 1)
Gives None old new flag = (new ≡ old) × (flag ≡ pos 0)

abbrev pub flag_number : Bool → ℤ
flag_number b = cond b (pos 1) (pos 0)

-- the slots of markring_slots.h, or that the folder is damaged
abbrev pub choice_number : Choice → ℤ
choice_number choice.First = pos 0
choice_number choice.Second = pos 1
choice_number choice.Damaged = pos 2
