-- The state of a node after it joined a cycle.
use Rattle.std.proofs.Common.{◌≡◌, ℕ, Bool, true, false, cond, ◌==◌, List, [], ◌∷◌, ◌++◌, length, refl, ap, sym, ◌∙◌, ⊎_elim}
use Rattle.std.proofs.lemmas.Bool.{cases_Bool, cond-true, cond-false}
use Rattle.std.proofs.Math.Bool.{and-true, and-false}
use Rattle.std.proofs.Math.Dec.{eqb-suc-zero}
use Rattle.ids.specs.declared.names.Ref.{Ref}
use Rattle.model.specs.State.{Heap, LocalState}
use Rattle.model.specs.Heaps.{object_at, with_rewritten}
use Rattle.model.specs.Effects.{Work}
use Rattle.model.specs.Shading.{is_unmarked, with_mark, wakes, make_grey, make_all_grey, filled, roots, enter, join, is_calm, stays_calm, seen, see_to}
use Rattle.model.proofs.Shading.{see_to-open}

-- ---- whether anything turns grey

push-not-calm : (grey : List ℕ) (k : ℕ) → (length (grey ++ k ∷ []) == 0) ≡ false
push-not-calm [] k = refl
push-not-calm (x ∷ grey) k = eqb-suc-zero (length (grey ++ k ∷ []))

pub calm-none : (h : Heap) → is_calm h ≡ true → h.grey ≡ []
calm-none h calm = none_from_length h.grey calm
  where
    none_from_length : (grey : List ℕ) → (length grey == 0) ≡ true → grey ≡ []
    none_from_length [] empty = refl
    none_from_length (k ∷ grey) empty =
        absurd
        (let never : ◌≡◌ {A = Bool} true false = sym empty ∙ eqb-suc-zero (length grey) in cc)

-- an unmarked object turns grey; otherwise nothing changes
make-grey : (cycle : ℕ) (h : Heap) (r : Ref) → is_unmarked cycle (object_at h r) ≡ true
    → is_calm (make_grey cycle h r) ≡ false
unfolding make_grey
make-grey cycle h r white =
    ap is_calm (cond-true (is_unmarked cycle (object_at h r))
    (record (with_rewritten h r (with_mark cycle)) { grey = h.grey ++ r.slot ∷ [] }) h white)
    ∙ push-not-calm h.grey r.slot

make-none : (cycle : ℕ) (h : Heap) (r : Ref) → is_unmarked cycle (object_at h r) ≡ false
    → make_grey cycle h r ≡ h
unfolding make_grey
make-none cycle h r marked = cond-false (is_unmarked cycle (object_at h r)) _ h marked

make-kept : (cycle : ℕ) (h : Heap) (r : Ref) → is_calm h ≡ false
    → is_calm (make_grey cycle h r) ≡ false
make-kept cycle h r busy =
    ⊎_elim {C = is_calm (make_grey cycle h r) ≡ false}
    (λ white. make-grey cycle h r white)
    (λ marked. ap is_calm (make-none cycle h r marked) ∙ busy)
    (cases_Bool (is_unmarked cycle (object_at h r)))

all-kept : (own cycle : ℕ) (h : Heap) (rs : List Ref) → is_calm h ≡ false
    → is_calm (make_all_grey own cycle h rs) ≡ false
all-kept own cycle h [] busy = busy
all-kept own cycle h (r ∷ rs) busy =
    all-kept own cycle (cond (r.node == own) (make_grey cycle h r) h) rs
    (⊎_elim {C = is_calm (cond (r.node == own) (make_grey cycle h r) h) ≡ false}
    (λ here. ap is_calm (cond-true (r.node == own) (make_grey cycle h r) h here)
    ∙ make-kept cycle h r busy)
    (λ far. ap is_calm (cond-false (r.node == own) (make_grey cycle h r) h far) ∙ busy)
    (cases_Bool (r.node == own)))

calm-here : (own cycle : ℕ) (h : Heap) (r : Ref) (rs : List Ref) → (r.node == own) ≡ true
    → is_unmarked cycle (object_at h r) ≡ true → stays_calm own cycle h (r ∷ rs) ≡ false
calm-here own cycle h r rs here white = rw (here, white) (and-false (is_calm h))

calm-passed : (own cycle : ℕ) (h : Heap) (r : Ref) (rs : List Ref) → wakes own cycle h r ≡ false
    → stays_calm own cycle h rs ≡ stays_calm own cycle h (r ∷ rs)
calm-passed own cycle h r rs quiet = rw quiet refl

pub all-calm : (own cycle : ℕ) (h : Heap) (rs : List Ref)
    → is_calm (make_all_grey own cycle h rs) ≡ stays_calm own cycle h rs
all-calm own cycle h [] = sym (and-true (is_calm h))
all-calm own cycle h (r ∷ rs) =
    ⊎_elim {C = is_calm (make_all_grey own cycle h (r ∷ rs)) ≡ stays_calm own cycle h (r ∷ rs)}
    (λ here.
    ap (λ (z : Heap). is_calm (make_all_grey own cycle z rs))
    (cond-true (r.node == own) (make_grey cycle h r) h here)
    ∙ ⊎_elim {C = is_calm
    (make_all_grey own cycle (make_grey cycle h r) rs) ≡ stays_calm own cycle h (r ∷ rs)}
    (λ white. all-kept own cycle (make_grey cycle h r) rs (make-grey cycle h r white)
    ∙ sym (calm-here own cycle h r rs here white))
    (λ marked.
    ap (λ (z : Heap). is_calm (make_all_grey own cycle z rs)) (make-none cycle h r marked)
    ∙ all-calm own cycle h rs
    ∙ calm-passed own cycle h r rs (rw (here, marked) refl))
    (cases_Bool (is_unmarked cycle (object_at h r))))
    (λ far.
    ap (λ (z : Heap). is_calm (make_all_grey own cycle z rs))
    (cond-false (r.node == own) (make_grey cycle h r) h far)
    ∙ all-calm own cycle h rs
    ∙ calm-passed own cycle h r rs (rw far refl))
    (cases_Bool (r.node == own))

-- ---- the node that has joined

pub join-phases : (p : LocalState) (cycle : ℕ)
    → (join p cycle).local.phases ≡ record p.phases { cycle = cycle; cursor = 0 }
unfolding join enter see_to
join-phases p cycle = refl

pub join-token : (p : LocalState) (cycle : ℕ) → (join p cycle).local.ring.token ≡ p.ring.token
unfolding join enter see_to
join-token p cycle = refl

-- if its marking hasn't ended, it shades its roots
pub join-open : (p : LocalState) (cycle : ℕ) → (p.phases.ended == cycle) ≡ false
    → join p cycle ≡ seen true (filled (roots p.heap)) (enter p cycle)
unfolding join enter
join-open p cycle before =
    see_to-open true (filled (roots p.heap)) (enter p cycle) (rw before refl)

-- it has grey objects if it had some, or if its program holds a reference to an unmarked one
pub join-calm : (p : LocalState) (cycle : ℕ) → (p.phases.ended == cycle) ≡ false
    → is_calm (join p cycle).local.heap ≡ stays_calm p.own cycle p.heap (filled (roots p.heap))
unfolding enter
join-calm p cycle before =
    ap (λ (w : Work). is_calm w.local.heap) (join-open p cycle before)
    ∙ all-calm p.own cycle p.heap (filled (roots p.heap))
