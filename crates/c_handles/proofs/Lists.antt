-- Lists whose elements are taken out one after another.
use Rattle.std.proofs.Common.{◌≡◌, ◌<◌, ◌+◌, ◌∙◌, ◌⊎◌, ⊎_elim, ℕ, suc, List, [], ◌∷◌, Some, ap, drop, get_or, length, refl, subst, sym, arith}
use Rattle.std.specs.Prelude.{slice_get}
use Rattle.std.proofs.lemmas.Option.{get_or_from_slice_get}
use Rattle.c_handles.specs.Opening.{EachOf}

pub first-of : {X : Type 0} (P : X → Type 0) (xs : List X) (x : X) → EachOf P xs → 0 < length xs
    → x ≡ get_or xs 0 x → P x
first-of P [] x h some is = absurd (omega arith)
first-of P (y ∷ ys) x h some is = subst P (sym is) (h 0 y refl)

pub later-of : {X : Type 0} (P : X → Type 0) (xs rest : List X) → EachOf P xs → rest ≡ drop 1 xs
    → EachOf P rest
later-of P [] rest h is = subst (EachOf P) (sym is) h
later-of P (y ∷ ys) rest h is = subst (EachOf P) (sym is) (λ k x there. h (suc k) x there)

below-or : (k n : ℕ) → k < n + 1 → (k < n) ⊎ (k ≡ n)
below-or k n below = grind (arith, below)

-- this holds of the elements before a place
abbrev pub EachBefore : {X : Type 0} → (X → Type 0) → List X → ℕ → Type 0
EachBefore {X} P xs place = (k : ℕ) (x : X) → k < place → slice_get xs k ≡ Some x → P x

-- what holds of the first elements holds of one more
pub each-more : {X : Type 0} (P : X → Type 0) (xs : List X) (place : ℕ) (x : X)
    → get_or xs place x ≡ x → EachBefore P xs place → P x → EachBefore P xs (place + 1)
each-more P xs place x here first p k y below there =
    ⊎_elim (λ less. first k y less there)
    (λ same. subst P
    (sym here ∙ ap (λ (i : ℕ). get_or xs i x) (sym same) ∙ get_or_from_slice_get xs k y x there) p)
    (below-or k place below)
