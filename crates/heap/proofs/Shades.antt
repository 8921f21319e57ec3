-- Many references are shaded one after another.
use Rattle.std.proofs.Common.{◌≡◌, ℕ, ◌+◌, ◌<◌, List, [], ◌∷◌, ◌++◌, length, drop, get_or, Option, Some, None, option_to_list, refl, sym, ap, ◌∙◌, add-one, drop-cons, ◌==◌, ⊎_elim}
use Rattle.std.proofs.lemmas.Bool.{cases_Bool, cond-true, cond-false}
use Rattle.ids.specs.declared.names.Ref.{Ref}
use Rattle.model.specs.State.{Heap}
use Rattle.model.specs.Heaps.{object_at}
use Rattle.model.specs.Shading.{is_unmarked, make_grey, make_all_grey, filled, roots}
use Rattle.model.proofs.Shading.{make_all_grey-append}

-- the next reference, and those after it
next_one : (os : List (Option Ref)) (i : ℕ) → i < length os
    → filled (drop i os) ≡ option_to_list (get_or os i None) ++ filled (drop (i + 1) os)
next_one os i there = ap filled (drop-cons os i None there) ∙ rw add-one refl

-- after one is shaded, shading the rest gives the same as shading all did before
pub shaded-next : (own cycle : ℕ) (h : Heap) (os : List (Option Ref)) (i : ℕ) (o : Option Ref)
    → i < length os → o ≡ get_or os i None
    → make_all_grey own cycle (make_all_grey own cycle h (option_to_list o))
    (filled (drop (i + 1) os))
    ≡ make_all_grey own cycle h (filled (drop i os))
shaded-next own cycle h os i o there is =
    let rest : List Ref = filled (drop (i + 1) os) in
    sym (make_all_grey-append own cycle h (option_to_list o) rest)
    ∙ ap (λ (x : Option Ref). make_all_grey own cycle h (option_to_list x ++ rest)) is
    ∙ sym (ap (make_all_grey own cycle h) (next_one os i there))

-- shading doesn't change the roots
roots-grey : (cycle : ℕ) (h : Heap) (r : Ref) → roots (make_grey cycle h r) ≡ roots h
unfolding make_grey
roots-grey cycle h r =
    ⊎_elim {C = roots (make_grey cycle h r) ≡ roots h}
    (λ white. ap roots (cond-true (is_unmarked cycle (object_at h r)) _ h white))
    (λ marked. ap roots (cond-false (is_unmarked cycle (object_at h r)) _ h marked))
    (cases_Bool (is_unmarked cycle (object_at h r)))

pub roots-shaded : (own cycle : ℕ) (h : Heap) (o : Option Ref)
    → roots (make_all_grey own cycle h (option_to_list o)) ≡ roots h
roots-shaded own cycle h None = refl
roots-shaded own cycle h (Some r) =
    ⊎_elim {C = roots (make_all_grey own cycle h (r ∷ [])) ≡ roots h}
    (λ here. ap roots (cond-true (r.node == own) (make_grey cycle h r) h here)
    ∙ roots-grey cycle h r)
    (λ far. ap roots (cond-false (r.node == own) (make_grey cycle h r) h far))
    (cases_Bool (r.node == own))
