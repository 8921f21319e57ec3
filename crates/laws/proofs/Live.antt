-- Every cut of a space has the invariant. So what is reachable is live and is never freed, the
-- balances add up, and the nodes agree on the end of a cycle.
use Rattle.std.proofs.Common.{◌≡◌, ℕ, ◌<◌, ◌≤◌, Bool, true, false, List, [], length, get_or, Ok, refl, sym, ap, ◌∙◌, subst, ⊎_elim, arith, ltb-true, inl, inr}
use Rattle.std.specs.List.{AllByRecursion}
use Rattle.std.proofs.lemmas.Bool.{eq-eqb, ne_eqb, le-ltb, not_from_true, cond-false}
use Rattle.std.proofs.lemmas.Option.{get_or_from_slice_get}
use Rattle.std.proofs.Math.Path.{fun_ext}
use Rattle.ids.specs.Limits.{Shaped, IsShape}
use Rattle.ids.specs.declared.limits.TheConstants.{GREATEST_NUMBER}
use Rattle.ids.specs.declared.names.Ref.{Ref}
use Rattle.msg.specs.declared.body.Body.{Body}
use Rattle.msg.specs.declared.body.Body.TheVariants as body
use Rattle.msg.specs.declared.body.Message.{Message}
use Rattle.model.specs.declared.event.Answer.{Answer}
use Rattle.model.specs.declared.event.Event.TheVariants as event
use Rattle.model.specs.declared.event.Letter.{Letter}
use Rattle.model.specs.declared.step.Step.{Step}
use Rattle.model.specs.Checks.{AllPass}
use Rattle.model.specs.State.{Object, Occupied, LocalState, NodeState, node_at, sent_to, slot_at}
use Rattle.model.specs.Heaps.{no_letter}
use Rattle.model.specs.Collecting.{looked_at, swept_slots}
use Rattle.model.specs.Counting.{is_reference}
use Rattle.model.specs.Steps.{act, tests, carried, mentioned}
use Rattle.model.specs.World.{World, new_world, run}
use Rattle.model.specs.Cuts.{Cut, cut, Among, Reachable, in_register, in_letter, in_message, in_place, PlainRun, still, further}
use Rattle.model.specs.Agreement.{total, flow, counts, is_counted, balance, EndsAlike}
use Rattle.model.proofs.Lookups.{get_or-replicate_any}
use Rattle.laws.specs.Statements.{OfEveryRun, ReachIsLive, BalancesAddUp, NodesAgree, SweepsFreeNoneReachable}
use Rattle.model.proofs.Slots.{same-object}
use Rattle.laws.proofs.Lookups.{any-some, all-among}
use Rattle.laws.proofs.KeepsSent.{node-count}
use Rattle.laws.proofs.Cuts.{cuts-extend}
use Rattle.laws.proofs.StepFacts.{act-ok}
use Rattle.laws.proofs.Base.{inside-where, no-node-refuses, at-new}
use Rattle.laws.proofs.Invariant.{phases_of, cycle_of, Resting, Joined, Safe, StampFits, BodyFits, Inv, Recalled}
use Rattle.laws.proofs.Inner.{resting-joined, sweeping-resting}
use Rattle.laws.proofs.Counts.{reference-counts}
use Rattle.laws.proofs.Sweeps.{swept-some}
use Rattle.laws.proofs.Plain.{plain-inv}
use Rattle.laws.proofs.New.{new-inv}
use Rattle.laws.proofs.Outside.{Outside, new-outside, plain-outside, outside-unknown}
use Rattle.laws.proofs.Remembering.{plain-recalled, new-recalled}
use Rattle.laws.proofs.Placed.{Placed, plain-placed, new-placed}
use Rattle.laws.proofs.Unwrapping.{Numbered, plain-numbered, unwrapped}

-- the invariant, that private objects are unknown outside, that what old objects name isn't young,
-- that numbers are within the limit, and that places are
pub record Whole (shape : Shaped) (c : Cut) : Type 0 where
  pub inv : Inv shape c
  pub outside : Outside c
  pub recalled : Recalled c
  pub numbered : Numbered c
  pub placed : Placed shape c

pub several : {shape : Shaped} → IsShape shape → 2 ≤ shape.nodes
several limits = limits.least_nodes

pub run-whole : {shape : Shaped} {c d : Cut} → IsShape shape → PlainRun c d → Whole shape c
    → Whole shape d
run-whole {shape = shape} limits (still same) whole =
    subst (λ (z : Cut). Whole shape z) (sym (fun_ext same)) whole
run-whole limits (further before s) whole =
    let w = run-whole limits before whole in
    record {
      inv = plain-inv (several limits) (unwrapped limits w.inv w.numbered)
          (outside-unknown w.outside, w.recalled) s w.inv;
      outside = plain-outside s w.inv w.outside;
      recalled = plain-recalled s w.inv w.outside w.recalled;
      numbered = plain-numbered s w.numbered;
      placed = plain-placed s w.inv.base w.placed;
    }

pub new-whole : (shape : Shaped) → IsShape shape → (choice : ℕ → Bool)
    → Whole shape (cut (new_world shape) choice)
new-whole shape limits choice = record {
  inv = new-inv shape choice (let w = several limits in omega (arith, w));
  outside = new-outside shape choice;
  recalled = new-recalled shape choice;
  numbered = λ i k.
      at-new shape choice i (λ s. length (sent_to s k) ≤ GREATEST_NUMBER)
      (λ z own.
      subst (λ (xs : List Message). length xs ≤ GREATEST_NUMBER)
      (sym (get_or-replicate_any {A = List Message} z.nodes k [])) (omega arith));
  placed = new-placed shape choice;
}

-- every cut of a space has it
pub all-whole : (shape : Shaped) → IsShape shape → (steps : List Step) (choice : ℕ → Bool)
    → Whole shape (cut (run (new_world shape) steps) choice)
all-whole shape limits steps choice =
    let before = cuts-extend shape limits [] steps choice in
    run-whole limits before.1 (new-whole shape limits before.0)

pub all-inv : (shape : Shaped) → IsShape shape → (steps : List Step) (choice : ℕ → Bool)
    → Inv shape (cut (run (new_world shape) steps) choice)
all-inv shape limits steps choice = (all-whole shape limits steps choice).inv

-- ---- what is reachable is safe

pub reached-safe : {shape : Shaped} {c : Cut} → Inv shape c → (r : Ref) → Reachable c r → Safe c r
reached-safe {c = c} inv r (in_register i k there) =
    any-some (Safe c) _ r ((inv.closed.roots i).registers k) there
reached-safe {c = c} inv r (in_letter i k l there holds) =
    let letters : List Letter = (c i).local.heap.letters in
    let found : get_or letters k no_letter ≡ l =
    get_or_from_slice_get letters k l no_letter there in
    any-some (Safe c) _ r ((inv.closed.roots i).letters k)
    (ap (λ (z : Letter). z.reference) found ∙ holds)
reached-safe {c = c} inv r (in_message from to place x flight among) =
    carried-safe x.body (inv.closed.messages from to place x flight) among
  where
    carried-safe : (b : Body) → AllByRecursion (Safe c) (mentioned b) → Among r (carried b)
        → Safe c r
    carried-safe (body.Give label reference) all a =
        all-among (Safe c) (carried (body.Give label reference)) all r a
    carried-safe (body.Put target place reference) all a =
        all-among (Safe c) (carried (body.Put target place reference)) all r a
    carried-safe (body.Get target place label) all a =
        all-among (Safe c) (carried (body.Get target place label)) all r a
    carried-safe (body.Post label references bytes) all a =
        all-among (Safe c) (carried (body.Post label references bytes)) all r a
    carried-safe (body.Fetch target label offset count) all a =
        all-among (Safe c) (carried (body.Fetch target label offset count)) all r a
    carried-safe b all never = absurd never
reached-safe {c = c} inv r (in_place owner o k reached there place) =
    let safe : Safe c owner = reached-safe inv owner reached in
    let same : safe.object ≡ o =
    same-object (slot_at (c owner.node).local.heap owner.slot) owner.generation safe.object o
    safe.there there in
    any-some (Safe c) _ r
    (inv.closed.places owner.node owner.slot owner.generation o there
    (λ rest. ap (λ (z : Object). z.mark) (sym same) ∙ safe.marked rest) k)
    place

pub reach-is-live : OfEveryRun ReachIsLive
reach-is-live shape limits steps choice r reached =
    let safe = reached-safe (all-inv shape limits steps choice) r reached in
    record { object = safe.object; there = safe.there }

-- ---- the balances

pub balances-add-up : OfEveryRun BalancesAddUp
balances-add-up shape limits steps choice =
    let c : Cut = cut (run (new_world shape) steps) choice in
    subst
    (λ (n : ℕ). total n (λ i. balance (cycle_of c 0) (c i).local)
    ≡ flow n (is_counted (cycle_of c 0)) c)
    (sym (node-count shape steps))
    (all-inv shape limits steps choice).flows.counted

-- ---- agreement

-- no message that an ended cycle counts is in flight
ended-delivered : {shape : Shaped} {c : Cut} (cycle from to : ℕ) (s : ℕ) (b : Body) → Inv shape c
    → cycle ≤ (phases_of c 0).ended → BodyFits shape.nodes (phases_of c) from to s b
    → counts cycle s b ≡ false
ended-delivered {shape = shape} {c = c} cycle from to s b inv done fits = by b fits
  where
    stamps : StampFits (phases_of c 0) s → cycle ≤ s
    stamps (inl now) = (let w = inv.phased.ended 0 in omega (arith, now, w, done))
    stamps (inr before) = (let w = before.0 in let v = before.1 in omega (arith, w, v, done))

    late : (z : Body) → is_reference z ≡ true → StampFits (phases_of c 0) s
        → counts cycle s z ≡ false
    late z is f = reference-counts cycle s z is ∙ le-ltb s cycle (stamps f)

    by : (z : Body) → BodyFits shape.nodes (phases_of c) from to s z → counts cycle s z ≡ false
    by (body.Mark r) f =
        ne_eqb s cycle (λ e. (let w = f.1 in let v = f.2 in omega (arith, e, w, v, done)))
    by (body.Give label reference) f = late (body.Give label reference) refl f
    by (body.Put target place reference) f = late (body.Put target place reference) refl f.1
    by (body.Get target place label) f = late (body.Get target place label) refl f.1
    by (body.Post label references bytes) f = late (body.Post label references bytes) refl f
    by (body.Fetch target label offset count) f =
        late (body.Fetch target label offset count) refl f.1
    by b f = refl

ended-joined : {shape : Shaped} {c : Cut} (cycle j : ℕ) → Inv shape c → j < shape.nodes
    → cycle ≤ (phases_of c 0).ended → cycle ≤ cycle_of c j
ended-joined {c = c} cycle j inv inside done = ⊎_elim {C = cycle ≤ cycle_of c j}
    (λ there. (let w = inv.phased.ended 0 in omega (arith, there, w, done)))
    (λ behind. (let w = behind.0 in let v = behind.1 in omega (arith, w, v, done)))
    (inv.phased.apart j inside)

ended-calm : {shape : Shaped} {c : Cut} (cycle j : ℕ) → Inv shape c → j < shape.nodes
    → cycle ≤ (phases_of c 0).ended → cycle_of c j ≡ cycle → (c j).local.heap.grey ≡ []
ended-calm {c = c} cycle j inv inside done at = ⊎_elim {C = (c j).local.heap.grey ≡ []}
    (λ there.
    inv.rested.grey j
    (let w = inv.phased.ended 0 in
    let e : (phases_of c 0).ended ≡ (phases_of c 0).cycle = omega (arith, there, at, w, done) in e))
    (λ behind.
    (inv.tidy j).calm
    (not_from_true _ (eq-eqb _ _
    (let a = inv.phased.swept j in
    let b = inv.phased.ended j in
    let e : (c j).local.phases.ended ≡ (c j).local.phases.cycle =
    omega (arith, behind.1, behind.2, a, b) in e))))
    (inv.phased.apart j inside)

ends-alike : {shape : Shaped} {c : Cut} → Inv shape c → (i cycle : ℕ)
    → cycle ≤ (phases_of c i).ended → EndsAlike shape.nodes cycle c
ends-alike {c = c} inv i cycle ended =
    let done : cycle ≤ (phases_of c 0).ended =
    (let w = inv.phased.first i in omega (arith, w, ended)) in
    record {
      terminated = record {
        joined = λ j within. ended-joined cycle j inv within done;
        calm = λ j within at. ended-calm cycle j inv within done at;
        delivered = λ from to place x flight.
            ended-delivered cycle from to x.stamp x.body inv done
            (inv.messages.fits from to place x flight);
      };
      director = done;
      later = λ j within past.
          (let a = inv.phased.cycle j in let b = inv.phased.swept j in omega (arith, past, a, b));
    }

pub nodes-agree : OfEveryRun NodesAgree
nodes-agree shape limits steps choice i cycle inside ended =
    let c : Cut = cut (run (new_world shape) steps) choice in
    subst (λ (n : ℕ). EndsAlike n cycle c) (sym (node-count shape steps))
    (ends-alike (all-inv shape limits steps choice) i cycle ended)

-- ---- sweeps

-- a safe object stays in its slot when its node sweeps
swept-stays : {shape : Shaped} {c : Cut} {s : NodeState} {a : Answer} (i count : ℕ) (r : Ref)
    → Inv shape c → act (c i) (event.Sweep count) ≡ Ok (s, a) → Safe c r → r.node ≡ i
    → (o : Object) × (slot_at (c i).local.heap r.slot ≡ Occupied r.generation o)
    × (slot_at s.local.heap r.slot ≡ Occupied r.generation o)
unfolding swept_slots
swept-stays {shape = shape} {c = c} {s = s} {a = a} i count r inv answered safe here =
    let p : LocalState = (c i).local in
    let found = act-ok (c i) (event.Sweep count) s a answered in
    let ready : p.phases.swept < p.phases.ended = ltb-true _ _ found.passed.0 in
    let inside : i < shape.nodes =
    inside-where i (λ z. AllPass (tests z.local (event.Sweep count))) inv.base found.passed
    (no-node-refuses (event.Sweep count) refl) in
    let resting : Resting (phases_of c 0) = sweeping-resting inv inside ready in
    let joined : Joined c i = resting-joined inv resting inside in
    let there : slot_at p.heap r.slot ≡ Occupied r.generation safe.object =
    ap (λ (z : ℕ). slot_at (c z).local.heap r.slot) (sym here) ∙ safe.there in
    let heap = swept-some p.phases.cycle p.phases.cursor (looked_at p count)
    (record { heap = p.heap; freed = 0 }) in (
      safe.object,
      there,
      ap (λ (z : NodeState). slot_at z.local.heap r.slot) found.state
          ∙ heap.keeps r.slot r.generation safe.object there (safe.marked resting ∙ sym joined),
    )

pub sweeps-free-none-reachable : OfEveryRun SweepsFreeNoneReachable
sweeps-free-none-reachable shape limits steps i count s a answered choice r current reached here =
    let w : World = run (new_world shape) steps in
    let c : Cut = cut w choice in
    let inv : Inv shape c = all-inv shape limits steps choice in
    let at : c i ≡ node_at w.current i =
    cond-false (choice i) (node_at w.saved i) (node_at w.current i) current in
    subst (λ (z : NodeState). (o : Object) × (slot_at z.local.heap r.slot ≡ Occupied r.generation o)
    × (slot_at s.local.heap r.slot ≡ Occupied r.generation o)) at
    (swept-stays i count r inv
    (subst (λ (z : NodeState). act z (event.Sweep count) ≡ Ok (s, a)) (sym at) answered)
    (reached-safe inv r reached) here)
