-- A node that resolves a reachable object of its own gets it, unless it marks and hasn't marked the
-- object yet.
use Rattle.std.proofs.Common.{◌≡◌, ℕ, ◌<◌, ◌||◌, ◌==◌, Bool, true, false, length, map, Option, Some, refl, sym, ap, ◌∙◌, subst, ⊎_elim, arith, lt-ltb, eq-eqb}
use Rattle.std.specs.Prelude.{[], ◌∷◌, is_some}
use Rattle.std.proofs.lemmas.Bool.{cond-false, eqb-true, not-false}
use Rattle.ids.specs.declared.names.Ref.{Ref}
use Rattle.ids.specs.Limits.{Shaped}
use Rattle.ids.specs.declared.refusal.Refusal.TheVariants.{LinkSpent, NoField, NoRegister, NotNow, Remote}
use Rattle.model.specs.declared.event.Event.TheVariants as event
use Rattle.model.specs.declared.event.Answer.TheVariants as answer
use Rattle.model.specs.Checks.{guarded}
use Rattle.model.specs.State.{Object, Occupied, LocalState, NodeState, node_at, slot_at}
use Rattle.model.specs.Heaps.{is_marked_object, is_register, object_at}
use Rattle.model.specs.Effects.{Effect}
use Rattle.model.specs.Shading.{is_open}
use Rattle.model.specs.Steps.{act, after, made}
use Rattle.model.specs.World.{World, new_world, run}
use Rattle.model.specs.Cuts.{Cut, cut}
use Rattle.model.proofs.Slots.{object-there}
use Rattle.laws.specs.Statements.{OfEveryRun, GetsBack, ReachResolves}
use Rattle.laws.proofs.Invariant.{cycle_of, Inv, Safe}
use Rattle.laws.proofs.Inner.{occupied-inside}
use Rattle.laws.proofs.Live.{all-inv, reached-safe}
use Rattle.laws.proofs.GoodCuts.{GoodCut}
use Rattle.laws.proofs.OldGarbage.{Anything, all-good}

-- by the tests
answered : (s : NodeState) (x : Effect) (a b c m n : Bool) → x.answer ≡ answer.Done → a ≡ true
    → b ≡ true → c ≡ true → is_open s.local ≡ n → (n ≡ false → m ≡ true)
    → GetsBack s.local
    (after s
    (guarded
    ((a, NoRegister) ∷ (b, Remote) ∷ (c, NoField) ∷ (m || n, NoField) ∷ (m, NotNow)
    ∷ (true, LinkSpent) ∷ []) x))
answered s x true true true true n done _ _ _ opened marked = done
answered s x true true true false true done _ _ _ opened marked = (refl, opened)
answered s x true true true false false done _ _ _ opened marked =
    absurd (let never = marked refl in cc)
answered s x false b c m n done never _ _ opened marked = absurd cc
answered s x true false c m n done _ never _ opened marked = absurd cc
answered s x true true false m n done _ _ never opened marked = absurd cc

-- a reachable object of a node that doesn't mark is marked
safe-marked : {shape : Shaped} {c : Cut} (i : ℕ) (r : Ref) → Inv shape c → GoodCut Anything 0 c
    → (safe : Safe c r) → r.node ≡ i → is_open (c i).local ≡ false
    → safe.object.mark ≡ cycle_of c i
safe-marked {shape = shape} {c = c} i r inv good safe here closed =
    let inside : i < shape.nodes =
    subst (λ (z : ℕ). z < shape.nodes) here
    (occupied-inside r.node r.slot r.generation safe.object inv.base safe.there) in
    let there : slot_at (c i).local.heap r.slot ≡ Occupied r.generation safe.object =
    ap (λ (z : ℕ). slot_at (c z).local.heap r.slot) (sym here) ∙ safe.there in
    let rested : (c i).local.phases.ended ≡ (c i).local.phases.cycle =
    eqb-true _ _ (not-false _ closed) in
    ⊎_elim {C = safe.object.mark ≡ cycle_of c i}
    (λ joined.
    (let first = inv.phased.first i in
    let most = inv.phased.ended 0 in
    let mark = safe.marked (omega (arith, first, most, rested, joined)) in mark ∙ sym joined))
    (λ behind.
    (let least = (good.part i).heap.kept r.slot r.generation safe.object there in
    let most = (inv.tidy i).marks r.slot r.generation safe.object there in
    let last = behind.1 in
    let swept = behind.2 in
    omega (arith, least, most, last, swept)))
    (inv.phased.apart i inside)

pub reach-resolves : OfEveryRun ReachResolves
unfolding act
reach-resolves shape limits steps choice i register r current reached here within =
    let w : World = run (new_world shape) steps in
    let c : Cut = cut w choice in
    let inv : Inv shape c = all-inv shape limits steps choice in
    let safe : Safe c r = reached-safe inv r reached in
    let at : c i ≡ node_at w.current i =
    cond-false (choice i) (node_at w.saved i) (node_at w.current i) current in
    subst (λ (s : NodeState).
    register < length s.local.heap.registers
    → GetsBack s.local (act s (event.Resolve register r))) at
    (λ (few : register < length (c i).local.heap.registers).
    let p : LocalState = (c i).local in
    let there : slot_at p.heap r.slot ≡ Occupied r.generation safe.object =
    ap (λ (z : ℕ). slot_at (c z).local.heap r.slot) (sym here) ∙ safe.there in
    let found : object_at p.heap r ≡ Some safe.object =
    object-there (slot_at p.heap r.slot) r.generation safe.object there in
    let inside : r.node < shape.nodes =
    occupied-inside r.node r.slot r.generation safe.object inv.base safe.there in
    let own : r.node ≡ p.own =
    here ∙ sym (inv.base.own i (subst (λ (z : ℕ). z < shape.nodes) here inside)) in
    answered (c i) (made p (map length (c i).sent) (event.Resolve register r))
    (is_register p.heap register) (r.node == p.own) (is_some (object_at p.heap r))
    (is_marked_object p.phases.cycle (object_at p.heap r)) (is_open p) refl
    (lt-ltb register _ few) (eq-eqb r.node p.own own)
    (ap (λ (z : Option Object). is_some z) found) refl
    (λ closed.
    ap (is_marked_object p.phases.cycle) found
    ∙ eq-eqb _ _
    (safe-marked i r inv (all-good shape limits steps choice) safe here closed)))
    within
