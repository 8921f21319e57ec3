-- What holds of each element of a list, and a list with one element more or less.
use Rattle.std.proofs.Common.{◌≡◌, ℕ, zero, suc, ◌<◌, List, [], ◌∷◌, length, map}
use Rattle.std.proofs.Common.{get_or, refl, sym, ap, inl, inr, arith}
use Rattle.std.specs.List.{All, AllByRecursion, insert, remove}
use Rattle.std.proofs.lemmas.Bool.{cases_lt}
use Rattle.std.proofs.lemmas.List.{map-append, take-map, drop-map, get_or_past}
use Rattle.std.proofs.lemmas.List.Elements.{All-append, All-cons, All-take, All-drop, All-get_or}
use Rattle.std.proofs.lemmas.List.Elements.{All-from_get_or, recursion_from_All}

-- what holds of every possible element
pub every : {A : Type 0} (P : A → Type 0) → ((a : A) → P a) → (xs : List A) → AllByRecursion P xs
every P is [] = tt
every P is (x ∷ xs) = (is x, every P is xs)

module _ {A : Type 0} (P : A → Type 0) (d : A) where
  pub all_from : (Q : A → Type 0) → ((x : A) → P x → Q x) → (xs : List A)
      → ((k : ℕ) → P (get_or xs k d)) → AllByRecursion Q xs
  all_from Q follows xs each =
      recursion_from_All Q xs
      (All-from_get_or Q xs d (λ k _. follows (get_or xs k d) (each k)))

  pub at_any : P d → (xs : List A) → All P xs → (k : ℕ) → P (get_or xs k d)
  at_any none xs all k =
      elim (cases_lt k (length xs)) [
        | inl within ↦ All-get_or P xs k d within all
        | inr past ↦ rw (get_or_past xs k d past) none
      ]

  pub all_insert : P d → (xs : List A) (k : ℕ) → All P xs → All P (insert xs k d)
  all_insert is xs k all =
      All-append P _ _ (All-take P k xs all) (All-cons P d _ is (All-drop P k xs all))

pub all_remove : {A : Type 0} (P : A → Type 0) (xs : List A) (k : ℕ) → All P xs
    → AllByRecursion P (remove xs k)
all_remove P xs k all =
    recursion_from_All P _ (All-append P _ _ (All-take P k xs all) (All-drop P (suc k) xs all))

module _ {A B : Type 0} (f : A → B) where
  pub map-insert : (xs : List A) (k : ℕ) (x : A) → map f (insert xs k x) ≡ insert (map f xs) k (f x)
  map-insert xs k x = rw (map-append, take-map, drop-map) refl

  -- an element is taken out, and what `f` makes of it is put in its place
  pub put_back : (k : ℕ) (xs : List A) (d : A) (b : B) → k < length xs → f (get_or xs k d) ≡ b
      → insert (map f (remove xs k)) k b ≡ map f xs
  put_back k [] d b lt is = absurd (omega (arith, lt))
  put_back zero (x ∷ xs) d b lt is = ap (λ (y : B). y ∷ map f xs) (sym is)
  put_back (suc k) (x ∷ xs) d b lt is =
      ap (λ (ys : List B). f x ∷ ys) (put_back k xs d b (omega (arith, lt)) is)
