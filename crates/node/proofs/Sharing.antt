-- Objects become shared, and private ones are freed. In a plain space all objects are shared and
-- old, so there is nothing to do.
use Rattle.std.proofs.Common.{◌≡◌, ℕ, suc, ◌==◌, true, false, not, cond, List, [], ◌∷◌, length, map, get_or, None, Ok, refl, sym, ap, ◌∙◌, subst, arith, rules}
use Rattle.std.specs.List.{list_any}
use Rattle.std.proofs.lemmas.Bool.{cond_both, cond-false, or_from}
use Rattle.std.proofs.lemmas.List.{length-map, length-set}
use Rattle.ids.specs.declared.names.Ref.{Ref}
use Rattle.ids.specs.declared.refusal.Refusal.{Refusal}
use Rattle.ids.specs.declared.refusal.Refusal.TheVariants.{NothingToDo}
use Rattle.model.specs.declared.age.Age.{Age}
use Rattle.model.specs.declared.age.Age.TheVariants.{Old}
use Rattle.model.specs.declared.age.Scope.{Scope}
use Rattle.model.specs.declared.age.Scope.TheVariants as scopes
use Rattle.model.specs.declared.event.Answer.TheVariants as answer
use Rattle.model.specs.declared.event.Event.TheVariants as event
use Rattle.model.specs.State.{Object, Slot, Free, Occupied, Retired, Heap}
use Rattle.model.specs.Heaps.{is_old, sharing, share_all, with_rewritten}
use Rattle.model.specs.Checks.{IsFirstRefusal, by_test, by_memory}
use Rattle.model.specs.Reclaiming.{is_in_scope, slot_aged, aged, freed_within, reclaim_tests, reclaiming, reclaimed}
use Rattle.model.specs.Steps.{made}
use Rattle.model.specs.References.{IfAny, IsWithin}
use Rattle.model.specs.View.{NodeView, used, view_act}
use Rattle.model.specs.WellFormed.{IsObject, IsSlotOf}
use Rattle.model.proofs.Ages.{aged-back}
use Rattle.model.proofs.Checks.{guarded-ok}
use Rattle.model.proofs.Freeing.{freed-reclaiming, holds-freed}
use Rattle.model.proofs.References.{holds-share_all}
use Rattle.model.proofs.Stocks.{stocked-reclaimed, stocked-shared}
use Rattle.heap.specs.Heap.{heap_reclaim}
use Rattle.node.specs.Invariant.{IsNode}
use Rattle.node.proofs.Events.{okay, test_refused, tests_passed}
use Rattle.node.proofs.Nodes.{node-heap}
use Rattle.node.proofs.Sound.{with_heap}

-- ---- what holds of every node holds afterwards

share-width : (own : ℕ) (h : Heap) (rs : List Ref)
    → length (share_all own h rs).slots ≡ length h.slots
share-width own h [] = refl
share-width own h (r ∷ rs) =
    share-width own (cond (r.node == own) (with_rewritten h r sharing) h) rs
    ∙ cond_both (r.node == own) (with_rewritten h r sharing) h
    (λ (z : Heap). length z.slots ≡ length h.slots)
    (λ _. length-set h.slots r.slot _) (λ _. refl)

module _ (n : NodeView) (old : IsNode n) where
  pub node-shared : (rs : List Ref)
      → IsNode (with_heap n (share_all n.local.own n.local.heap rs))
  node-shared rs =
      let p = n.local in
      let width = share-width p.own p.heap rs in
      node-heap n (share_all p.own p.heap rs) old
      (holds-share_all (IsWithin p.shape) p.own p.heap rs old.references)
      (stocked-shared p.own rs old.stocked)
      (omega (arith, width))

  pub node-reclaimed : (scope : Scope)
      → IsNode (with_heap n (reclaimed scope n.local.own n.local.heap))
  node-reclaimed scope =
      let p = n.local in
      let left : Heap = freed_within scope p.own p.heap in
      let freed = freed-reclaiming scope p.own p.heap in
      let holds = holds-freed (IsWithin p.shape) freed old.references in
      let width : length (aged left).slots ≡ length p.heap.slots =
      length-map left.slots slot_aged ∙ freed.width in
      node-heap n (aged left) old
      (record {
        registers = holds.registers;
        letters = holds.letters;
        places = λ k g o j there.
            let was = aged-back left k g o there in
            subst (λ (z : Object). IfAny (IsWithin p.shape) (get_or z.places j None))
            (sym was.2) (holds.places k g was.0 j was.1);
      })
      (stocked-reclaimed scope old.stocked)
      (omega (arith, width))

-- ---- a plain space

-- the object is shared and old
record IsPlain (o : Object) : Type 0 where
  shared : o.shared ≡ true
  age : o.age ≡ Old

-- all objects are
abbrev AllPlain : List Slot → Type 0
AllPlain slots = (k g : ℕ) (o : Object) → get_or slots k Retired ≡ Occupied g o → IsPlain o

all-plain : {n : NodeView} → IsNode n → n.local.shape.wide ≡ false → AllPlain n.local.heap.slots
all-plain {n} old plain k g o there =
    let is : IsObject n.local.shape n.local.phases.cycle g o =
    subst (IsSlotOf n.local.shape n.local.phases.cycle) there (old.stocked.slots k) in
    record { shared = is.shared plain; age = is.age plain }

none-within : (scope : Scope) (slots : List Slot) → AllPlain slots
    → list_any (is_in_scope scope) slots ≡ false
none-within scope [] all = refl
none-within scope (s ∷ ss) all =
    or_from (is_in_scope scope s) (list_any (is_in_scope scope) ss) (first scope s (all 0))
    (none-within scope ss (λ k. all (suc k)))
  where
    first : (scope : Scope) (s : Slot) → ((g : ℕ) (o : Object) → s ≡ Occupied g o → IsPlain o)
        → is_in_scope scope s ≡ false
    first scopes.All (Free g) is = refl
    first scopes.All (Occupied g o) is = ap not (is g o refl).shared
    first scopes.All Retired is = refl
    first scopes.Young (Free g) is = refl
    first scopes.Young (Occupied g o) is = ap (λ (a : Age). not (is_old a)) (is g o refl).age
    first scopes.Young Retired is = refl

-- and no scope has any
pub plain-within : {n : NodeView} (scope : Scope) → IsNode n → n.local.shape.wide ≡ false
    → list_any (is_in_scope scope) n.local.heap.slots ≡ false
plain-within {n} scope old plain = none-within scope n.local.heap.slots (all-plain old plain)

-- ---- the events

-- the answer says how many objects were freed
pub reclaim-answered : (n : NodeView) (scope : Scope) {g : Heap} {freed : ℕ}
    → heap_reclaim scope n.local.own n.local.heap ≡ Ok (g, freed)
    → view_act n (event.Reclaim scope) ≡ okay (with_heap n g) (answer.Reclaimed freed)
unfolding view_act
reclaim-answered n scope h = search rules

pub node-reclaims : (n : NodeView) (scope : Scope) {g : Heap} {freed : ℕ} → IsNode n
    → heap_reclaim scope n.local.own n.local.heap ≡ Ok (g, freed) → IsNode (with_heap n g)
node-reclaims n scope {g} {freed} old done =
    let p = n.local in
    let both : ◌≡◌ {A = Heap × ℕ}
    (reclaimed scope p.own p.heap, (reclaiming scope p.own p.heap).freed) (g, freed) =
    guarded-ok (reclaim_tests scope p.heap) _ _ done in
    subst (λ (z : Heap × ℕ). IsNode (with_heap n z.0)) both (node-reclaimed n old scope)

-- if the heap refuses to reclaim, so does its node
pub reclaim-refused : (n : NodeView) (scope : Scope) (e : Refusal)
    → IsFirstRefusal false e (heap_reclaim scope n.local.own n.local.heap)
    → IsFirstRefusal false e (view_act n (event.Reclaim scope))
unfolding view_act
reclaim-refused n scope e (by_test other h) =
    let p = n.local in
    let new : Heap × ℕ = (reclaimed scope p.own p.heap, (reclaiming scope p.own p.heap).freed) in
    test_refused n (reclaim_tests scope p.heap)
    (made p (map used n.links) (event.Reclaim scope)) new e refl h
reclaim-refused n scope e (by_memory memory is) =
    let p = n.local in
    let new : Heap × ℕ = (reclaimed scope p.own p.heap, (reclaiming scope p.own p.heap).freed) in
    by_memory memory
    (tests_passed n (reclaim_tests scope p.heap)
    (made p (map used n.links) (event.Reclaim scope)) new refl is)

-- a plain space has nothing to reclaim
pub plain-refused : (n : NodeView) (scope : Scope) → IsNode n → n.local.shape.wide ≡ false
    → IsFirstRefusal false NothingToDo (view_act n (event.Reclaim scope))
plain-refused n scope old plain =
    reclaim-refused n scope NothingToDo
    (by_test (λ is. absurd cc)
    (cond-false (list_any (is_in_scope scope) n.local.heap.slots) _ _
    (plain-within scope old plain)))

pub ruleset reclaimings = (reclaim-answered)
