-- Tests of all elements of a list, and of elements that occur once, in other words.
use Rattle.std.proofs.Math.ListN.{get_or-map}
use Rattle.std.proofs.lemmas.List.{length-map}
use Rattle.std.proofs.lemmas.List.Folds.{list_all_at, list_all_more, list_all-map}
use Rattle.std.proofs.Common.{◌≡◌, ◌≢◌, ℕ, zero, suc, ◌<◌, Bool, true, false, eqb, List, [], ◌∷◌}
use Rattle.std.proofs.Common.{◌&&◌, Option, Some, None, length, take, get_or, refl, ap, ◌∙◌, arith}
use Rattle.ids.specs.declared.names.Ref.{Ref}
use Rattle.model.specs.Shading.{filled}
use Rattle.std.specs.Prelude.{◌↔◌}
use Rattle.std.specs.List.{AllByRecursion, IsDistinct, list_all, list_any}
use Rattle.std.proofs.lemmas.Bool.{and_parts, and_from, eqb-false, ne_eqb, or_from, or_parts}

first-or : {A : Type 0} (P : A → Type 0) (x : A) (xs : List A) (d : A) → P x
    → ((k : ℕ) → P (get_or xs k d)) → (k : ℕ) → P (get_or (x ∷ xs) k d)
first-or P x xs d first rest zero = first
first-or P x xs d first rest (suc k) = rest k

-- what a test says of one element it says of all, also past the end
module _ {A : Type 0} (P : A → Type 0) (p : A → Bool) (is : (x : A) → p x ≡ true ↔ P x) where
  pub listed-is : (xs : List A) → list_all p xs ≡ true ↔ AllByRecursion P xs
  listed-is [] = (λ _. tt, λ _. refl)
  listed-is (x ∷ xs) = (
    λ all. let parts = and_parts (p x) (list_all p xs) all in
        ((is x).0 parts.0, (listed-is xs).0 parts.1),
    λ all. and_from (p x) (list_all p xs) ((is x).1 all.0) ((listed-is xs).1 all.1),
  )

  pub each-is : (xs : List A) (d : A) → P d
      → list_all p xs ≡ true ↔ ((k : ℕ) → P (get_or xs k d))
  each-is [] d none = (λ _ k. none, λ _. refl)
  each-is (x ∷ xs) d none =
      let rest = each-is xs d none in (
        λ all.
            let parts = and_parts (p x) (list_all p xs) all in
            first-or P x xs d ((is x).0 parts.0) (rest.0 parts.1),
        λ each.
            and_from (p x) (list_all p xs) ((is x).1 (each 0)) (rest.1 (λ k. each (suc k))),
      )

module _ {A : Type 0} where
  pub all-at : (P : A → Type 0) (xs : List A) (d : A) (k : ℕ) → k < length xs
      → AllByRecursion P xs → P (get_or xs k d)
  all-at P [] d k inside all = absurd (omega (arith, inside))
  all-at P (x ∷ xs) d zero inside all = all.0
  all-at P (x ∷ xs) d (suc k) inside all = all-at P xs d k (omega (arith, inside)) all.1

  pub all-each : (P : A → Type 0) (xs : List A) (d : A)
      → ((k : ℕ) → k < length xs → P (get_or xs k d)) → AllByRecursion P xs
  all-each P [] d each = tt
  all-each P (x ∷ xs) d each = (
    each 0 (omega arith),
    all-each P xs d (λ k inside. each (suc k) (omega (arith, inside))),
  )

  pub all-both : (P Q : A → Type 0) (xs : List A) → AllByRecursion P xs → AllByRecursion Q xs
      → AllByRecursion (λ x. P x × Q x) xs
  all-both P Q [] first second = tt
  all-both P Q (x ∷ xs) first second =
      ((first.0, second.0), all-both P Q xs first.1 second.1)

-- ---- optional elements, tested each on its own or all that are there

module _ (p : Ref → Bool) (q : Option Ref → Bool) (none : q None ≡ true)
    (some : (r : Ref) → q (Some r) ≡ p r) where
  pub all_filled : (vs : List (Option Ref)) → list_all q vs ≡ list_all p (filled vs)
  all_filled [] = refl
  all_filled (None ∷ vs) = ap (λ (b : Bool). b && list_all q vs) none ∙ all_filled vs
  all_filled (Some r ∷ vs) =
      ap (λ (b : Bool). b && list_all q vs) (some r)
      ∙ ap (λ (b : Bool). p r && b) (all_filled vs)

-- ---- numbers, each once

pub distinct-apart : (xs : List ℕ) → IsDistinct eqb xs → (j : ℕ) → j < length xs → (i : ℕ)
    → i < j → get_or xs i 0 ≢ get_or xs j 0
unfolding IsDistinct
distinct-apart [] once j inside i below = absurd (omega (arith, inside))
distinct-apart (x ∷ xs) once zero inside i below = absurd (omega (arith, below))
distinct-apart (x ∷ xs) once (suc j) inside zero below =
    eqb-false x (get_or xs j 0)
    (all-at (λ (y : ℕ). eqb x y ≡ false) xs 0 j (omega (arith, inside)) once.0)
distinct-apart (x ∷ xs) once (suc j) inside (suc i) below =
    distinct-apart xs once.1 j (omega (arith, inside)) i (omega (arith, below))

pub apart-distinct : (xs : List ℕ)
    → ((j : ℕ) → j < length xs → (i : ℕ) → i < j → get_or xs i 0 ≢ get_or xs j 0)
    → IsDistinct eqb xs
unfolding IsDistinct
apart-distinct [] apart = tt
apart-distinct (x ∷ xs) apart = (
  all-each (λ (y : ℕ). eqb x y ≡ false) xs 0
      (λ k inside.
      ne_eqb x (get_or xs k 0) (apart (suc k) (omega (arith, inside)) 0 (omega arith))),
  apart-distinct xs
      (λ j inside i below.
      apart (suc j) (omega (arith, inside)) (suc i) (omega (arith, below))),
)

-- ---- elements that a test distinguishes, none equal to one before it

module _ {A : Type 0} (same : A → A → Bool) (flip : (a b : A) → same a b ≡ same b a) where
  pub distinct-before : (xs : List A) → IsDistinct same xs → (j : ℕ) → j < length xs → (d : A)
      → list_any (same (get_or xs j d)) (take j xs) ≡ false
  unfolding IsDistinct
  distinct-before [] once j inside d = absurd (omega (arith, inside))
  distinct-before (x ∷ xs) once zero inside d = refl
  distinct-before (x ∷ xs) once (suc j) inside d =
      or_from (same (get_or xs j d) x) (list_any (same (get_or xs j d)) (take j xs))
      (flip (get_or xs j d) x
      ∙ all-at (λ (y : A). same x y ≡ false) xs d j (omega (arith, inside)) once.0)
      (distinct-before xs once.1 j (omega (arith, inside)) d)

  pub before-distinct : (xs : List A)
      → ((j : ℕ) → j < length xs → (d : A)
      → list_any (same (get_or xs j d)) (take j xs) ≡ false) → IsDistinct same xs
  unfolding IsDistinct
  before-distinct [] new = tt
  before-distinct (x ∷ xs) new = (
    all-each (λ (y : A). same x y ≡ false) xs x
        (λ k inside.
        flip x (get_or xs k x)
        ∙ (or_parts (same (get_or xs k x) x) (list_any (same (get_or xs k x)) (take k xs))
        (new (suc k) (omega (arith, inside)) x)).0),
    before-distinct xs
        (λ j inside d.
        (or_parts (same (get_or xs j d) x) (list_any (same (get_or xs j d)) (take j xs))
        (new (suc j) (omega (arith, inside)) d)).1),
  )

pub ruleset tested = (list_all_more, list_all_at, list_all-map, get_or-map, length-map)
