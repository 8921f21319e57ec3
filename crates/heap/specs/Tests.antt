-- The tests that several calls of a `Heap` share, each list being part of the calls' lists. No
-- public clause cites this module.
use Rattle.std.specs.Prelude.{ℕ, ◌+◌, Bool, List, [], ◌∷◌, is_some, length, nat_lt}
use Rattle.ids.specs.declared.names.Ref.{Ref}
use Rattle.ids.specs.declared.refusal.Refusal.{Refusal}
use Rattle.ids.specs.declared.refusal.Refusal.TheVariants.{NoRegister, EmptyRegister, Remote}
use Rattle.ids.specs.declared.refusal.Refusal.TheVariants.{NoField, NoLetter}
use Rattle.model.specs.State.{Heap}
use Rattle.model.specs.Heaps.{is_register, is_filled, is_local, object_at, has_place}

-- the register names an object of the node with this number
abbrev pub named_tests : ℕ → Heap → ℕ → List (Bool × Refusal)
named_tests own h register =
    (is_register h register, NoRegister)
    ∷ (is_filled h register, EmptyRegister)
    ∷ (is_local own h register, Remote)
    ∷ []

-- the object is there
abbrev pub object_tests : Heap → Ref → List (Bool × Refusal)
object_tests h r = (is_some (object_at h r), NoField) ∷ []

-- the object is there, and has such a place
abbrev pub place_tests : Heap → Ref → ℕ → List (Bool × Refusal)
place_tests h r place = (has_place (object_at h r) place, NoField) ∷ []

-- as many more entries of a letter wait, and there are registers for them
abbrev pub letter_tests : Heap → ℕ → ℕ → List (Bool × Refusal)
letter_tests h register more =
    (nat_lt more (length h.letters), NoLetter) ∷ (is_register h (register + more), NoRegister) ∷ []
