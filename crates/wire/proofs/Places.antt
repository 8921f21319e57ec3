-- Elements of a list by their place.
use Rattle.std.proofs.Common.{◌≡◌, ◌≢◌, ◌<◌, ◌⊎◌, inl, inr, ⊎_elim, ℕ, zero, suc, List, [], ◌∷◌, ◌++◌, Option, Some, length, map, set, slice_get, refl, sym, ap, ◌∙◌, arith}
use Rattle.std.specs.Option.{option_map}
use Rattle.std.proofs.lemmas.Option.{slice_get-map}

-- each place of a list has an element
pub some_at : {A : Type 0} (xs : List A) (k : ℕ) → k < length xs
    → (x : A) × (slice_get xs k ≡ Some x)
some_at [] k inside = absurd (omega arith)
some_at (x ∷ xs) zero inside = (x, refl)
some_at (x ∷ xs) (suc k) inside = some_at xs k (omega arith)

-- an element of a list after a push was there before, or is the new one in the last place
pub pushed-at : {A : Type 0} (xs : List A) (y : A) (k : ℕ) (x : A)
    → slice_get (xs ++ y ∷ []) k ≡ Some x
    → (slice_get xs k ≡ Some x) ⊎ ((k ≡ length xs) × (x ≡ y))
pushed-at [] y zero x h = inr (refl, cc)
pushed-at [] y (suc k) x h = absurd cc
pushed-at (a ∷ xs) y zero x h = inl h
pushed-at (a ∷ xs) y (suc k) x h =
    ⊎_elim inl (λ last. inr (ap suc last.0, last.1)) (pushed-at xs y k x h)

-- an element of a mapped list
pub mapped-there : {A B : Type 0} (f : A → B) (xs : List A) (k : ℕ) (x : A)
    → slice_get xs k ≡ Some x → slice_get (map f xs) k ≡ Some (f x)
mapped-there f xs k x there = slice_get-map f xs k ∙ ap (option_map f) there

pub mapped-from : {A B : Type 0} (f : A → B) (xs : List A) (k : ℕ) (y : B)
    → slice_get (map f xs) k ≡ Some y → (x : A) × (slice_get xs k ≡ Some x) × (y ≡ f x)
mapped-from f [] k y there = absurd cc
mapped-from f (x ∷ xs) zero y there = (x, refl, cc)
mapped-from f (x ∷ xs) (suc k) y there = mapped-from f xs k y there

-- a place of a list has one element
pub same-there : {A : Type 0} (xs : List A) (k : ℕ) (x y : A) → slice_get xs k ≡ Some x
    → slice_get xs k ≡ Some y → x ≡ y
same-there {A = A} xs k x y first second =
    let both : ◌≡◌ {A = Option A} (Some x) (Some y) = sym first ∙ second in cc

-- an element of a list after one was set was there before, or is that one
pub set-from : {A : Type 0} (xs : List A) (i k : ℕ) (y x : A) → slice_get (set xs i y) k ≡ Some x
    → ((k ≡ i) × (y ≡ x)) ⊎ ((k ≢ i) × (slice_get xs k ≡ Some x))
set-from [] i k y x e = absurd cc
set-from (a ∷ xs) zero zero y x e = inl (refl, cc)
set-from (a ∷ xs) zero (suc k) y x e = inr ((λ h. omega (arith, h)), e)
set-from (a ∷ xs) (suc i) zero y x e = inr ((λ h. omega (arith, h)), e)
set-from (a ∷ xs) (suc i) (suc k) y x e =
    ⊎_elim
    (λ t. inl (ap suc t.0, t.1))
    (λ t. inr ((λ h. t.0 (let same : k ≡ i = omega (arith, h) in same)), t.1))
    (set-from xs i k y x e)
