-- What each change of an arena's slots preserves.
use Rattle.std.proofs.Common.{◌≡◌, ◌≢◌, ◌⊎◌, ℕ, zero, suc, ◌<◌, ◌≤◌, List, [], ◌∷◌, ◌++◌, length}
use Rattle.std.proofs.Common.{get_or, set, refl, subst, inl, inr, arith}
use Rattle.std.proofs.lemmas.Bool.{cases_eq}
use Rattle.std.proofs.Math.ListN.{length-append}
use Rattle.std.proofs.lemmas.List.{get_or-set_same, get_or-set_other, length-set}
use Rattle.arena.specs.Arena.{Has, plain, IsSound}
use Rattle.arena_slot.specs.Slot.{IsFree, IsBorn}
use Rattle.arena_slot.specs.declared.Slot.{Slot}
use Rattle.arena_slot.specs.declared.Slot.TheVariants.{Free, Occupied, Retired}
use Rattle.arena_slot.specs.declared.TheConstants.{FIRST_GENERATION}

-- a look-up after a write
pub at_set : {X : Type 0} (xs : List X) (k i : ℕ) (x d : X) → k < length xs
    → ((i ≡ k) × (get_or (set xs k x) i d ≡ x))
    ⊎ ((i ≢ k) × (get_or (set xs k x) i d ≡ get_or xs i d))
at_set xs k i x d within =
    elim (cases_eq i k) [
      | inl same ↦ inl (same, rw same (get_or-set_same xs k x d within))
      | inr differs ↦ inr (differs, get_or-set_other xs k i x d differs)
    ]

module _ {T : Type 0} where
  -- a free slot is within the list
  pub free_within : (slots : List (Slot T)) (k : ℕ) → IsFree (get_or slots k Retired)
      → k < length slots
  free_within [] k free = absurd free
  free_within (s ∷ slots) zero free = omega arith
  free_within (s ∷ slots) (suc k) free = let rest = free_within slots k free in omega arith

  -- what holds of each slot, and of another one behind them
  pub each_push : (P : Slot T → Type 0) → P Retired → (slots : List (Slot T)) (s : Slot T)
      → ((i : ℕ) → P (get_or slots i Retired)) → P s → (i : ℕ)
      → P (get_or (slots ++ s ∷ []) i Retired)
  each_push P past [] s all last zero = last
  each_push P past [] s all last (suc i) = past
  each_push P past (x ∷ slots) s all last zero = all 0
  each_push P past (x ∷ slots) s all last (suc i) =
      each_push P past slots s (λ j. all (suc j)) last i

  -- a slot with a value is added, while no slot is free
  pub IsSound-push : (slots : List (Slot T)) (limit g : ℕ) (x : T) → FIRST_GENERATION ≤ g
      → length slots < limit → IsSound (plain slots [] limit)
      → IsSound (plain (slots ++ Occupied g x ∷ []) [] limit)
  IsSound-push slots limit g x born room sound =
      record {
        small = sound.small;
        within = omega (arith, room, length-append slots (Occupied g x ∷ []));
        born = each_push IsBorn tt slots (Occupied g x) sound.born born;
        named = λ i has. absurd has;
        listed = λ i free. absurd
            (each_push (λ s. IsFree s → ⊥) (λ f. f) slots (Occupied g x)
            (λ j f. sound.listed j f) (λ f. f) i free);
        once = tt;
      }

  -- a free slot gets a value
  pub IsSound-fill : (slots : List (Slot T)) (k : ℕ) (ks : List ℕ) (limit g : ℕ) (x : T)
      → FIRST_GENERATION ≤ g → IsSound (plain slots (k ∷ ks) limit)
      → IsSound (plain (set slots k (Occupied g x)) ks limit)
  IsSound-fill slots k ks limit g x born sound =
      let within = free_within slots k (sound.named k (inl refl)) in
      record {
        small = sound.small;
        within = rw length-set sound.within;
        born = λ i. elim (at_set slots k i (Occupied g x) Retired within) [
          | inl here ↦ rw here.1 born
          | inr there ↦ rw there.1 (sound.born i)
        ];
        named = λ i has. elim (at_set slots k i (Occupied g x) Retired within) [
          | inl here ↦ absurd (sound.once.0 (subst (Has ks) here.0 has))
          | inr there ↦ rw there.1 (sound.named i (inr has))
        ];
        listed = λ i free. elim (at_set slots k i (Occupied g x) Retired within) [
          | inl here ↦ absurd (subst IsFree here.1 free)
          | inr there ↦
              elim (sound.listed i (subst IsFree there.1 free)) [
                | inl same ↦ absurd (there.0 same)
                | inr has ↦ has
              ]
        ];
        once = sound.once.1;
      }

-- a slot that has been used and is not free
pub record IsTaken {T : Type 0} (slots : List (Slot T)) (k : ℕ) : Type 0 where
  pub within : k < length slots
  pub apart : IsFree (get_or slots k Retired) → ⊥

module _ {T : Type 0} {slots : List (Slot T)} {k limit : ℕ} {ks : List ℕ} (taken : IsTaken slots k)
    (sound : IsSound (plain slots ks limit)) where
  -- a taken slot becomes free
  pub IsSound-vacate : (g : ℕ) → FIRST_GENERATION ≤ g
      → IsSound (plain (set slots k (Free g)) (k ∷ ks) limit)
  IsSound-vacate g born =
      record {
        small = sound.small;
        within = rw length-set sound.within;
        born = λ i. elim (at_set slots k i (Free g) Retired taken.within) [
          | inl here ↦ rw here.1 born
          | inr there ↦ rw there.1 (sound.born i)
        ];
        named = λ i has. elim (at_set slots k i (Free g) Retired taken.within) [
          | inl here ↦ rw here.1 tt
          | inr there ↦
              elim has [
                | inl same ↦ absurd (there.0 same)
                | inr later ↦ rw there.1 (sound.named i later)
              ]
        ];
        listed = λ i free. elim (at_set slots k i (Free g) Retired taken.within) [
          | inl here ↦ inl here.0
          | inr there ↦ inr (sound.listed i (subst IsFree there.1 free))
        ];
        once = (λ has. taken.apart (sound.named k has), sound.once);
      }

  -- a taken slot changes, and is not free afterwards
  pub IsSound-set : (s : Slot T) → (IsFree s → ⊥) → IsBorn s
      → IsSound (plain (set slots k s) ks limit)
  IsSound-set s stays born =
      record {
        small = sound.small;
        within = rw length-set sound.within;
        born = λ i. elim (at_set slots k i s Retired taken.within) [
          | inl here ↦ rw here.1 born
          | inr there ↦ rw there.1 (sound.born i)
        ];
        named = λ i has. elim (at_set slots k i s Retired taken.within) [
          | inl here ↦ absurd (taken.apart (sound.named k (subst (Has ks) here.0 has)))
          | inr there ↦ rw there.1 (sound.named i has)
        ];
        listed = λ i free. elim (at_set slots k i s Retired taken.within) [
          | inl here ↦ absurd (stays (subst IsFree here.1 free))
          | inr there ↦ sound.listed i (subst IsFree there.1 free)
        ];
        once = sound.once;
      }
