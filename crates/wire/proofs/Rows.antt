-- What holds of each element of a row, and of one more after it.
use Rattle.std.proofs.Common.{◌≡◌, ◌⊎◌, ℕ, zero, suc, List, [], ◌∷◌, ◌++◌, length, Some, refl, sym, ap, ◌∙◌, subst, inl, inr, ⊎_elim, slice_get}

module _ {A : Type 0} where
  at-end : (xs : List A) (y x : A) (k : ℕ) → slice_get (xs ++ y ∷ []) k ≡ Some x
      → (slice_get xs k ≡ Some x) ⊎ ((k ≡ length xs) × (y ≡ x))
  at-end [] y x zero e = inr (refl, cc)
  at-end [] y x (suc k) e = absurd cc
  at-end (z ∷ zs) y x zero e = inl e
  at-end (z ∷ zs) y x (suc k) e =
      ⊎_elim (λ t. inl t) (λ t. inr (ap suc t.0, t.1)) (at-end zs y x k e)

  -- this holds of each element, with its number
  abbrev pub Each : (ℕ → A → Type 0) → List A → Type 0
  Each P xs = (k : ℕ) (x : A) → slice_get xs k ≡ Some x → P k x

  pub each-push : (P : ℕ → A → Type 0) (xs : List A) (y : A) (n : ℕ) → length xs ≡ n → Each P xs
      → P n y → Each P (xs ++ y ∷ [])
  each-push P xs y n long each last k x e =
      ⊎_elim
      (λ there. each k x there)
      (λ (is : (k ≡ length xs) × (y ≡ x)).
      subst (λ (z : ℕ × A). P z.0 z.1) (λ i. (sym (is.0 ∙ long) i, is.1 i)) last)
      (at-end xs y x k e)
