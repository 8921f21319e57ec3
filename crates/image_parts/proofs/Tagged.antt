-- How a slot with an object begins, in spaces of both kinds.
use Rattle.std.proofs.Common.{◌≡◌, ℕ, ◌∷◌, refl, sym, subst}
use Rattle.std.specs.Prelude.{Bool, true, false}
use Rattle.codec.specs.declared.writer.Writer.{Writer}
use Rattle.codec.specs.Writing.{Writes, Puts}
use Rattle.arena_slot.specs.declared.Slot.TheVariants as slot
use Rattle.frames.specs.declared.version.Version.TheVariants.{Second}
use Rattle.model.specs.declared.age.Age.{Age}
use Rattle.model.specs.declared.age.Age.TheVariants.{Old}
use Rattle.image_parts.specs.Grammar.{Parts, object_of, occupied, IsPlain, kind_tag, object_tag, slot_format}

-- in a wide space the first byte says whether the object is shared, and its age
pub wide_slot : (shared : Bool) (age : Age) (x : ℕ × Parts) {a b : Writer}
    → Writes a b (kind_tag shared age ∷ (occupied true Second).spell x)
    ((occupied true Second).IsWide x)
    → Puts (slot_format true Second) a b (slot.Occupied x.0 (object_of shared age x.1))
unfolding slot_format
wide_slot shared age x w = w

-- in a plain one it is always the same
pub plain_slot : (shared : Bool) (age : Age) (x : ℕ × Parts) {a b : Writer}
    → Writes a b (1 ∷ (occupied false Second).spell x) ((occupied false Second).IsWide x)
    → Puts (slot_format false Second) a b (slot.Occupied x.0 (object_of shared age x.1))
unfolding slot_format
plain_slot shared age x w = w

-- what fits behind the tag; all objects of a plain space are shared and old
pub object_within : (wide shared : Bool) (age : Age) (x : ℕ × Parts)
    → (wide ≡ false → shared ≡ true) → (wide ≡ false → age ≡ Old)
    → (occupied wide Second).IsWithin x → (object_tag wide shared age Second x).is_within
object_within true shared age x known old within = within
object_within false shared age x known old within = (
  subst (λ (b : Bool). IsPlain b age) (sym (known refl))
      (subst (IsPlain true) (sym (old refl)) tt),
  within,
)
