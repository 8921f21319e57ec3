-- Look-ups in the sets of mailboxes, after one was added or removed. Lists that begin with others.
use Rattle.std.proofs.Common.{◌≡◌, ◌≢◌, ℕ, ◌==◌, cond, eq-eqb, ne_eqb, true, false, List, [], ◌∷◌, ◌++◌, append-nil, append_assoc, Some, None, refl, sym, ap, ◌∙◌}
use Rattle.std.proofs.lemmas.Bool.{cond-true, cond-false}
use native.Mathlib.Decide.{ℕ_discrete}
use mathlib.Core.Logic.{dite}
use Rattle.msg.specs.Frames.{Plain}
use Rattle.wire.specs.Lists.{has, without, found, cleared, Continues}

pub has-here : (m : ℕ) (xs : List ℕ) → has m (m ∷ xs) ≡ true
has-here m xs = cond-true _ _ _ (eq-eqb m m refl)

pub has-more : (m k : ℕ) (xs : List ℕ) → k ≢ m → has k (m ∷ xs) ≡ has k xs
has-more m k xs apart = cond-false _ _ _ (ne_eqb m k (λ e. apart (sym e)))

pub has-gone : (m : ℕ) (xs : List ℕ) → has m (without m xs) ≡ false
has-gone m [] = refl
has-gone m (x ∷ xs) =
    dite (ℕ_discrete x m)
    (λ e. ap (has m) (cond-true _ _ _ (eq-eqb x m e)) ∙ has-gone m xs)
    (λ n. ap (has m) (cond-false _ _ _ (ne_eqb x m n))
    ∙ cond-false _ _ _ (ne_eqb x m n) ∙ has-gone m xs)

pub has-stays : (m k : ℕ) (xs : List ℕ) → k ≢ m → has k (without m xs) ≡ has k xs
has-stays m k [] apart = refl
has-stays m k (x ∷ xs) apart =
    dite (ℕ_discrete x m)
    (λ e. ap (has k) (cond-true _ _ _ (eq-eqb x m e))
    ∙ has-stays m k xs apart
    ∙ sym (cond-false _ _ _ (ne_eqb x k (λ f. apart (sym f ∙ e)))))
    (λ n. ap (has k) (cond-false _ _ _ (ne_eqb x m n))
    ∙ ap (cond (x == k) true) (has-stays m k xs apart))

pub found-here : (m : ℕ) (f : Plain) (xs : List (ℕ × Plain)) → found m ((m, f) ∷ xs) ≡ Some f
found-here m f xs = cond-true _ _ _ (eq-eqb m m refl)

pub found-more : (m k : ℕ) (f : Plain) (xs : List (ℕ × Plain)) → k ≢ m
    → found k ((m, f) ∷ xs) ≡ found k xs
found-more m k f xs apart = cond-false _ _ _ (ne_eqb m k (λ e. apart (sym e)))

pub found-gone : (m : ℕ) (xs : List (ℕ × Plain)) → found m (cleared m xs) ≡ None
found-gone m [] = refl
found-gone m (x ∷ xs) =
    dite (ℕ_discrete x.0 m)
    (λ e. ap (found m) (cond-true _ _ _ (eq-eqb x.0 m e)) ∙ found-gone m xs)
    (λ n. ap (found m) (cond-false _ _ _ (ne_eqb x.0 m n))
    ∙ cond-false _ _ _ (ne_eqb x.0 m n) ∙ found-gone m xs)

pub found-stays : (m k : ℕ) (xs : List (ℕ × Plain)) → k ≢ m
    → found k (cleared m xs) ≡ found k xs
found-stays m k [] apart = refl
found-stays m k (x ∷ xs) apart =
    dite (ℕ_discrete x.0 m)
    (λ e. ap (found k) (cond-true _ _ _ (eq-eqb x.0 m e))
    ∙ found-stays m k xs apart
    ∙ sym (cond-false _ _ _ (ne_eqb x.0 k (λ f. apart (sym f ∙ e)))))
    (λ n. ap (found k) (cond-false _ _ _ (ne_eqb x.0 m n))
    ∙ ap (cond (x.0 == k) (Some x.1)) (found-stays m k xs apart))

pub continues-itself : {A : Type 0} (xs : List A) → Continues xs xs
continues-itself xs = ([], sym (append-nil xs))

pub continues-both : {A : Type 0} (xs ys zs : List A) → Continues xs ys → Continues ys zs
    → Continues xs zs
continues-both {A} xs ys zs first next = (
  first.0 ++ next.0,
  next.1 ∙ ap (λ (l : List A). l ++ next.0) first.1 ∙ append_assoc xs first.0 next.0,
)
