-- States of a node in their order.
use Rattle.std.proofs.Common.{None, Option, ◌≡◌, ◌+◌, ◌-◌, ◌<◌, ◌≤◌, ℕ, zero, suc, List, [], ◌∷◌, Some, ap, arith, get_or, le_refl, le_trans, length, refl, slice_get, subst, sym, ◌∙◌}
use Rattle.std.specs.Prelude.{Vec}
use Rattle.std.specs.Global.{Global}
use Rattle.std.proofs.lemmas.Option.{slice_get_past, slice_get_read, slice_get_within}
use Rattle.restore_choice.specs.Choices.{AreInOrder, IsAfter, all_of, states_of}
use Rattle.restore_choice.specs.declared.State.{State}

-- each place of a list has an element
pub some_at : {A : Type 0} (xs : List A) (k : ℕ) → k < length xs
    → (x : A) × (slice_get xs k ≡ Some x)
some_at [] k inside = absurd (omega arith)
some_at (x ∷ xs) zero inside = (x, refl)
some_at (x ∷ xs) (suc k) inside = some_at xs k (omega arith)

same-after : (s t : State) → s ≡ t → IsAfter s t
same-after s t e = subst (IsAfter s) e (record { received = λ j. le_refl _; sent = λ j. le_refl _ })

after-both : {s t u : State} → IsAfter s t → IsAfter t u → IsAfter s u
after-both g h = record {
  received = λ j. le_trans (g.received j) (h.received j);
  sent = λ j. le_trans (g.sent j) (h.sent j);
}

some-same : {A : Type 0} (x y : A) → ◌≡◌ (Some x) (Some y) → x ≡ y
some-same x y e = cc

after-more : (states : List State) (d k : ℕ) (s t : State) → AreInOrder states
    → slice_get states k ≡ Some s → slice_get states (k + d) ≡ Some t → IsAfter s t
after-more states zero k s t order first second =
    let here : k + 0 ≡ k = omega arith in
    same-after s t
    (some-same s t (sym first ∙ ap (slice_get states) (sym here) ∙ second))
after-more states (suc d) k s t order first second =
    let within = slice_get_within states (k + suc d) t second in
    let middle = some_at states (k + d) (omega (arith, within)) in
    let next : k + suc d ≡ k + d + 1 = omega arith in
    after-both (after-more states d k s middle.0 order first middle.1)
    (order (k + d) middle.0 t middle.1 (ap (slice_get states) (sym next) ∙ second))

-- a later state of a node
pub later-after : (states : List State) (k l : ℕ) (s t : State) → AreInOrder states → k ≤ l
    → slice_get states k ≡ Some s → slice_get states l ≡ Some t → IsAfter s t
later-after states k l s t order later first second =
    let at : l ≡ k + (l - k) = omega (arith, later) in
    after-more states (l - k) k s t order first (ap (slice_get states) (sym at) ∙ second)

-- the element at a place, whatever the default is
pub is-there : {A : Type 0} (xs : List A) (k : ℕ) (x d : A) → slice_get xs k ≡ Some x
    → x ≡ get_or xs k d
is-there [] k x d there = absurd cc
is-there (y ∷ xs) zero x d there = cc
is-there (y ∷ xs) (suc k) x d there = is-there xs k x d there

-- ---- The states of a node among all

pub states-are : (histories : List (Vec State Global)) (node : ℕ) (v : Vec State Global)
    (states : List State) → node < length histories → v ≡ get_or histories node v
    → states ≡ v.items → states_of histories node ≡ states
states-are histories node v states inside is same =
    ap all_of (slice_get_read histories (length histories) node v refl inside is) ∙ sym same

-- a node that isn't there has no states
pub past-order : (histories : List (Vec State Global)) (node : ℕ) → length histories ≤ node
    → AreInOrder (states_of histories node)
past-order histories node past k first second there next =
    let none : slice_get (all_of None) k ≡ Some first =
    subst (λ (o : Option (Vec State Global)). slice_get (all_of o) k ≡ Some first)
    (slice_get_past histories node past) there in
    absurd cc
