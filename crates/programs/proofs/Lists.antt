-- Elements of a list, and deeds in front of others.
use Rattle.std.proofs.Common.{◌≡◌, ◌<◌, ℕ, zero, suc, List, [], ◌∷◌, ◌++◌, get_or, length, refl, sym, ap, ◌∙◌, arith, ◌⊎◌, inl, inr}
use Rattle.std.proofs.lemmas.List.{append_assoc}
use Rattle.std.specs.List.{Contains}
use Rattle.programs.specs.Runs.{Deed, IsPast}

pub contains-head : {X : Type 0} (x : X) (xs : List X) → Contains (x ∷ xs) x
contains-head x xs = (0, omega arith, refl)

pub contains-more : {X : Type 0} (x y : X) (xs : List X) → Contains xs y → Contains (x ∷ xs) y
contains-more x y xs h =
    let inside = h.1 in
    (suc h.0, omega (arith, inside), h.2)

pub contains-behind : {X : Type 0} (newer older : List X) (y : X) → Contains older y
    → Contains (newer ++ older) y
contains-behind [] older y h = h
contains-behind (x ∷ newer) older y h =
    contains-more x y (newer ++ older) (contains-behind newer older y h)

-- an element is the first one, or one of the others
pub contains-split : {X : Type 0} (x y : X) (xs : List X) → Contains (x ∷ xs) y
    → (x ≡ y) ⊎ Contains xs y
contains-split x y xs h = go h.0 h.1 h.2
  where
    go : (k : ℕ) → k < length (x ∷ xs) → get_or (x ∷ xs) k y ≡ y → (x ≡ y) ⊎ Contains xs y
    go zero inside e = inl e
    go (suc k) inside e = inr (k, omega (arith, inside), e)

pub contains-none : {X : Type 0} (y : X) → Contains [] y → ⊥
contains-none y h =
    let inside = h.1 in
    omega (arith, inside)

pub past-same : (ds : List Deed) → IsPast ds ds
past-same ds = record { newer = []; is = refl }

pub past-more : {earlier later : List Deed} (d : Deed) → IsPast earlier later
    → IsPast earlier (d ∷ later)
past-more d p = record { newer = d ∷ p.newer; is = ap (λ (z : List Deed). d ∷ z) p.is }

pub past-both : {first second third : List Deed} → IsPast first second → IsPast second third
    → IsPast first third
past-both {first = first} p q = record {
  newer = q.newer ++ p.newer;
  is = q.is ∙ ap (λ (z : List Deed). q.newer ++ z) p.is ∙ sym (append_assoc q.newer p.newer first);
}

pub past-equal : {earlier later : List Deed} → later ≡ earlier → IsPast earlier later
past-equal e = record { newer = []; is = e }
