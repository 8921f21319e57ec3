-- Steps on a mailbox, and one more of them.
use Rattle.std.proofs.Common.{◌≡◌, ℕ, suc, ◌+◌, Bool, true, false, List, [], ◌∷◌, ◌++◌, append-nil, length, Some, slice_get, refl, sym, ap, ◌∙◌, arith}
use Rattle.std.specs.List.{filter}
use Rattle.std.proofs.lemmas.Bool.{cond-true, cond-false}
use Rattle.std.proofs.lemmas.List.Elements.{filter-append}
use Rattle.wire.specs.Views.{Visit}
use Rattle.wire.specs.Rule.{AreVisits}

module _ {X : Type 0} (p : X → Bool) where
  pub filter-here : (xs : List X) (e : X) → p e ≡ true
      → filter p (xs ++ e ∷ []) ≡ filter p xs ++ e ∷ []
  filter-here xs e hit =
      filter-append p xs (e ∷ [])
      ∙ ap (λ (ys : List X). filter p xs ++ ys) (cond-true _ _ _ hit)

  pub filter-else : (xs : List X) (e : X) → p e ≡ false
      → filter p (xs ++ e ∷ []) ≡ filter p xs
  filter-else xs e miss =
      filter-append p xs (e ∷ [])
      ∙ ap (λ (ys : List X). filter p xs ++ ys) (cond-false _ _ _ miss)
      ∙ append-nil (filter p xs)

  pub filter-none : (xs : List X) → ((k : ℕ) (x : X) → slice_get xs k ≡ Some x → p x ≡ false)
      → filter p xs ≡ []
  filter-none [] none = refl
  filter-none (x ∷ xs) none =
      cond-false _ _ _ (none 0 x refl) ∙ filter-none xs (λ k y e. none (suc k) y e)

pub visits-push : {m word : ℕ} (e : Visit) (xs : List Visit) (place first : ℕ)
    → AreVisits m word place first xs → e.box ≡ m → e.place ≡ place + length xs
    → e.found ≡ word → AreVisits m e.left place first (xs ++ e ∷ [])
visits-push e [] place first h box at found =
    (box, (let here : e.place ≡ place = omega (arith, at) in here), found ∙ sym h, refl)
visits-push e (x ∷ xs) place first h box at found = (
  h.0,
  h.1,
  h.2,
  visits-push e xs (suc place) x.left h.3 box
      (let later : e.place ≡ suc place + length xs = omega (arith, at) in later)
      found,
)
