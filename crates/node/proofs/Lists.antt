-- The lists of a saved node that name each thing once, as their loops traverse them.
use Rattle.std.proofs.Common.{◌≡◌, ◌≢◌, ℕ, ◌+◌, ◌<◌, Bool, true, false, not, List}
use Rattle.std.proofs.Common.{length, get_or, set, take, refl, sym, ap, ◌∙◌, inl, inr, arith}
use Rattle.std.proofs.Common.{true≢false, below_more}
use Rattle.std.specs.List.{list_all}
use Rattle.std.proofs.lemmas.Bool.{cases_eq}
use Rattle.std.proofs.lemmas.List.{get_or-set_same, get_or-set_other}
use Rattle.std.proofs.lemmas.List.Folds.{list_all_at}
use Rattle.ids.specs.Limits.{Shaped}
use Rattle.ids.specs.declared.names.Ref.{Ref}
use Rattle.model.specs.Shading.{is_in}
use Rattle.model.specs.State.{Slot}
use Rattle.node.specs.Parts.{is_foreign, is_marked_in, AreAsked}

-- ---- the grey list

-- each of the first `n` numbers names a marked object, none occurs twice, and `marks` has those
-- seen
pub record Came (cycle : ℕ) (slots : List Slot) (grey : List ℕ) (marks : List Bool) (n : ℕ)
    : Type 0 where
  pub marked : (k : ℕ) → k < n → is_marked_in cycle slots (get_or grey k 0) ≡ true
  pub once : (j : ℕ) → j < n → (i : ℕ) → i < j → get_or grey i 0 ≢ get_or grey j 0
  pub told : (k : ℕ) → k < n → get_or marks (get_or grey k 0) false ≡ true
  pub named : (s : ℕ) → get_or marks s false ≡ true → (k : ℕ) × (k < n) × (get_or grey k 0 ≡ s)

-- one number more
pub came_more : {cycle : ℕ} {slots : List Slot} {grey : List ℕ} {marks : List Bool} {n : ℕ}
    → Came cycle slots grey marks n → get_or grey n 0 < length marks
    → is_marked_in cycle slots (get_or grey n 0) ≡ true
    → get_or marks (get_or grey n 0) false ≡ false
    → Came cycle slots grey (set marks (get_or grey n 0) true) (n + 1)
came_more {cycle} {slots} {grey} {marks} {n} came within here fresh =
    let s = get_or grey n 0 in
    record {
      marked =
          below_more (λ (k : ℕ). is_marked_in cycle slots (get_or grey k 0) ≡ true) n came.marked
          here;
      once =
          below_more (λ (j : ℕ). (i : ℕ) → i < j → get_or grey i 0 ≢ get_or grey j 0) n came.once
          (λ i before same.
          true≢false
          (sym (came.told i before) ∙ ap (λ (k : ℕ). get_or marks k false) same ∙ fresh));
      told = λ k before. elim (cases_eq (get_or grey k 0) s) [
        | inl same ↦ rw same (get_or-set_same marks s true false within)
        | inr other ↦
            get_or-set_other marks s (get_or grey k 0) true false other
            ∙ below_more
            (λ (j : ℕ). get_or grey j 0 ≢ s → get_or marks (get_or grey j 0) false ≡ true)
            n
            (λ j earlier apart. came.told j earlier)
            (λ apart. absurd (apart refl))
            k
            before
            other
      ];
      named = λ q is. elim (cases_eq q s) [
        | inl same ↦ (n, omega arith, sym same)
        | inr other ↦
            let found = came.named q (sym (get_or-set_other marks s q true false other) ∙ is) in
            (found.0, omega (arith, found.1), found.2)
      ];
    }

-- ---- what was asked for

-- each of the first `n` references is another node's, and none occurs twice
pub record Asked (shape : Shaped) (own : ℕ) (rs : List Ref) (n : ℕ) : Type 0 where
  pub foreign : list_all (is_foreign shape own) (take n rs) ≡ true
  pub once : (j : ℕ) → j < n → (d : Ref) → is_in (get_or rs j d) (take j rs) ≡ false

pub own-refused : {shape : Shaped} {own : ℕ} {rs : List Ref} (n : ℕ) (r : Ref) → n < length rs
    → get_or rs n r ≡ r → is_foreign shape own r ≡ false → AreAsked shape own rs → ⊥
own-refused {shape} {own} {rs} n r within at fails are =
    true≢false
    (sym are.foreign
    ∙ list_all_at (is_foreign shape own) rs n r within (ap (is_foreign shape own) at ∙ fails))

pub again-refused : {shape : Shaped} {own : ℕ} {rs : List Ref} (n : ℕ) (d : Ref) → n < length rs
    → is_in (get_or rs n d) (take n rs) ≡ true → AreAsked shape own rs → ⊥
again-refused n d within there are = true≢false (sym there ∙ are.once n within d)

-- what isn't new was there
pub was_there : (known new : Bool) → new ≡ not known → new ≡ false → known ≡ true
was_there true new is old = refl
was_there false new is old = absurd (true≢false (sym is ∙ old))

pub ruleset refusing = (again-refused, was_there)
