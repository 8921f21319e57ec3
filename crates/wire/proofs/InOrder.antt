-- The frames of one mailbox among those that a seat posted or took.
use Rattle.std.proofs.Common.{◌≡◌, ◌≢◌, ℕ, ◌+◌, ◌*◌, ◌/◌, ◌%◌, ◌==◌, cond, eq-eqb, ne_eqb, List, [], ◌∷◌, ◌++◌, sym, ap, ◌∙◌}
use Rattle.std.proofs.lemmas.Bool.{cond-true, cond-false}
use Rattle.std.proofs.lemmas.Nat.{div-add-mod'}
use native.Mathlib.Decide.{ℕ_discrete}
use mathlib.Core.Logic.{dite}
use Rattle.msg.specs.Frames.{Plain}
use Rattle.wire.specs.Rule.{sender, receiver, box_of, in_box}

pub box-number : (n m : ℕ) (f : Plain) → sender f ≡ m / n → receiver f ≡ m % n → box_of n f ≡ m
box-number n m f from to =
    (λ i. from i * n + to i) ∙ div-add-mod' m n

-- the last frame belongs to this mailbox
pub box-here : (n m : ℕ) (f : Plain) (fs : List Plain) → box_of n f ≡ m
    → in_box n m (fs ++ f ∷ []) ≡ in_box n m fs ++ f ∷ []
box-here n m f [] is = cond-true _ _ _ (eq-eqb (box_of n f) m is)
box-here n m f (g ∷ gs) is =
    dite (ℕ_discrete (box_of n g) m)
    (λ e. cond-true _ _ _ (eq-eqb (box_of n g) m e)
    ∙ ap (λ (x : List Plain). g ∷ x) (box-here n m f gs is)
    ∙ ap (λ (x : List Plain). x ++ f ∷ []) (sym (cond-true _ _ _ (eq-eqb (box_of n g) m e))))
    (λ a. cond-false _ _ _ (ne_eqb (box_of n g) m a) ∙ box-here n m f gs is
    ∙ ap (λ (x : List Plain). x ++ f ∷ []) (sym (cond-false _ _ _ (ne_eqb (box_of n g) m a))))

-- the last frame belongs to another mailbox
pub box-else : (n m k : ℕ) (f : Plain) (fs : List Plain) → box_of n f ≡ m → k ≢ m
    → in_box n k (fs ++ f ∷ []) ≡ in_box n k fs
box-else n m k f [] is apart =
    cond-false _ _ _ (ne_eqb (box_of n f) k (λ e. apart (sym e ∙ is)))
box-else n m k f (g ∷ gs) is apart =
    ap (λ (x : List Plain). cond (box_of n g == k) (g ∷ x) x) (box-else n m k f gs is apart)
