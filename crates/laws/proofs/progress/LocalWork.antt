-- A Reclaim adds no work, whenever it happens, and neither does a Resolve.
use Rattle.std.proofs.Common.{◌≡◌, ℕ, ◌+◌, ◌*◌, ◌<◌, ◌≤◌, ◌==◌, true, false, [], length, length-set, map, set, Some, Result, Ok, Err, refl, ap, subst, ⊎_elim, arith, le_refl, ltb-true}
use Rattle.std.proofs.lemmas.Bool.{cond_both, cond-true, cond-false}
use Rattle.ids.specs.declared.refusal.Refusal.{Refusal}
use Rattle.ids.specs.declared.names.Ref.{Ref}
use Rattle.model.specs.declared.event.Event.{Event}
use Rattle.model.specs.declared.event.Event.TheVariants as event
use Rattle.model.specs.declared.step.Step.TheVariants as step
use Rattle.model.specs.declared.event.Answer.{Answer}
use Rattle.model.specs.State.{Heap, LocalState, NodeState, node_at}
use Rattle.model.specs.Reclaiming.{reclaimed}
use Rattle.model.specs.Heaps.{with_register}
use Rattle.model.specs.Steps.{act, append_all, is_own, made}
use Rattle.model.specs.World.{World, happens, new_world, run, take_step, moved, world_after, is_node}
use Rattle.model.specs.Cuts.{Cut, IsInFlight, Becomes}
use Rattle.laws.specs.Bounds.{heap_work, node_work, root_work, whole_node_work}
use Rattle.laws.specs.Progress.{AddsNoWork, ReclaimsAddNoWork, ResolvesAddNoWork}
use Rattle.laws.specs.Statements.{OfSpaces}
use Rattle.laws.specs.Strategy.{now}
use Rattle.laws.proofs.StepFacts.{act-ok}
use Rattle.laws.proofs.Cuts.{shown}
use Rattle.laws.proofs.KeepsSent.{node-count}
use Rattle.laws.proofs.Turns.{Turn, at_becomes, at_turn, flew}
use Rattle.laws.proofs.Invariant.{cycle_of}
use Rattle.laws.proofs.ReclaimSteps.{reclaimed-heap}
use Rattle.laws.proofs.progress.Costs.{reclaim-frees}
use Rattle.laws.proofs.progress.Falls.{Change, change-work, event-change}

none-added : (n : ℕ) (c : Cut) → AddsNoWork n c c
none-added n c = record {
  flight = le_refl _;
  left = le_refl _;
  whole = le_refl _;
  sent = λ i. refl;
  terminated = λ cycle t. t;
}

-- A heap that may replace a node's: it needs no more work, and has no grey object if that had none.
record Lighter (cycle : ℕ) (p : LocalState) (h : Heap) : Type 0 where
  left : node_work cycle (record p { heap = h }) ≤ node_work cycle p
  whole : whole_node_work (record p { heap = h }) ≤ whole_node_work p
  calm : p.heap.grey ≡ [] → h.grey ≡ []

heap-adds : {c d : Cut} {i : ℕ} (n : ℕ) (h : Heap) → i < n
    → Becomes c d i (record { local = record (c i).local { heap = h }; sent = (c i).sent })
    → Lighter (cycle_of c 0) (c i).local h → AddsNoWork n c d
heap-adds {c = c} {d = d} {i = i} n h inside becomes lighter =
    let p : LocalState = (c i).local in
    let q : LocalState = record p { heap = h } in
    let turn : Turn c d i q [] = record { becomes = becomes; heard = λ from. le_refl _ } in
    let change : Change n c d p q [] 0 = event-change n inside turn refl refl in
    let left = lighter.left in
    let whole = lighter.whole in
    record {
      flight = omega (arith, change.flown);
      left = omega (arith, change-work change, left);
      whole = omega (arith, change.held, whole);
      sent = at_becomes (λ j s. s.sent ≡ (c j).sent) becomes refl (λ j _. refl);
      terminated = λ cycle t. record {
        joined = at_turn (λ j s. j < n → cycle ≤ s.local.phases.cycle) turn (t.joined i)
            (λ j _. t.joined j);
        calm = at_turn (λ j s. j < n → s.local.phases.cycle ≡ cycle → s.local.heap.grey ≡ []) turn
            (λ below there. lighter.calm (t.calm i below there)) (λ j _. t.calm j);
        delivered = λ from to place x f.
            t.delivered from to place x
            (⊎_elim {C = IsInFlight c from to place x} (λ before. before)
            (λ new. absurd new.1) (flew turn from to place x f));
      };
    }

-- a step adds no work if the event doesn't, in case it isn't refused
abbrev AddsIfDone : ℕ → World → ℕ → Event → Type 0
AddsIfDone n w i e =
    (s : NodeState) (a : Answer) → i < length w.current → act (now w i) e ≡ Ok (s, a)
    → AddsNoWork n (now w) (now (record w { current = set w.current i s }))

step-adds : (n : ℕ) (w : World) (i : ℕ) (e : Event) → is_own e ≡ true → AddsIfDone n w i e
    → AddsNoWork n (now w) (now (happens w (step.Act i e)))
unfolding take_step
step-adds n w i e own adds =
    cond_both (is_node w i) _ _ (λ r. AddsNoWork n (now w) (now (world_after w r)))
    (λ within.
    cond_both (is_own e) _ _ (λ r. AddsNoWork n (now w) (now (world_after w r)))
    (λ _. by (ltb-true i (length w.current) within) (act (node_at w.current i) e) refl)
    (λ _. none-added n (now w)))
    (λ _. none-added n (now w))
  where
    by : i < length w.current → (r : Result (NodeState × Answer) Refusal)
        → act (node_at w.current i) e ≡ r
        → AddsNoWork n (now w) (now (world_after w (moved w i r)))
    by inside (Err r) is = none-added n (now w)
    by inside (Ok x) is = adds x.0 x.1 inside is

-- the node becomes what an event made of it
became : (w : World) (i : ℕ) (e : Event) (s : NodeState) (a : Answer) → i < length w.current
    → act (now w i) e ≡ Ok (s, a)
    → Becomes (now w) (now (record w { current = set w.current i s })) i
    (record {
      local = (made (now w i).local (map length (now w i).sent) e).local;
      sent = append_all (now w i).sent (made (now w i).local (map length (now w i).sent) e).sends;
    })
became w i e s a inside is =
    let v : World = record w { current = set w.current i s } in
    subst (λ (z : NodeState). Becomes (now w) (now v) i z) (act-ok (now w i) e s a is).state
    (shown w i s (λ _. false) inside refl)

pub reclaims-add-no-work : OfSpaces ReclaimsAddNoWork
reclaims-add-no-work shape limits steps i scope =
    let w : World = run (new_world shape) steps in
    let p : LocalState = (now w i).local in
    step-adds shape.nodes w i (event.Reclaim scope) refl
    (λ s a inside is.
    let frees = reclaim-frees (cycle_of (now w) 0) scope p in
    heap-adds shape.nodes (reclaimed scope p.own p.heap)
    (omega (arith, inside, node-count shape steps)) (became w i _ s a inside is)
    (record {
      left = frees.0;
      whole = frees.1;
      calm = (reclaimed-heap scope p.own p.heap).calm;
    }))

-- A register is written; there are as many as before.
resolved-lighter : (cycle register : ℕ) (r : Ref) (p : LocalState)
    → Lighter cycle p (with_register p.heap register (Some r))
resolved-lighter cycle register r p =
    let same = length-set p.heap.registers register (Some r) in
    let many : 2 * (length (set p.heap.registers register (Some r)) + length p.heap.letters)
    ≡ 2 * (length p.heap.registers + length p.heap.letters) =
    ap (λ (z : ℕ). 2 * (z + length p.heap.letters)) same in
    record {
      left = cond_both (p.phases.cycle == cycle) _ _
          (λ z.
          z + heap_work cycle p.heap
          ≤ node_work cycle p)
          (λ is. let here = cond-true (p.phases.cycle == cycle) 0 (1 + root_work p.heap) is in
          omega (arith, here))
          (λ not. let here = cond-false (p.phases.cycle == cycle) 0 (1 + root_work p.heap) not in
          omega (arith, here, many));
      whole = omega (arith, many);
      calm = λ calm. calm;
    }

pub resolves-add-no-work : OfSpaces ResolvesAddNoWork
resolves-add-no-work shape limits steps i register r =
    let w : World = run (new_world shape) steps in
    let p : LocalState = (now w i).local in
    step-adds shape.nodes w i (event.Resolve register r) refl
    (λ s a inside is.
    heap-adds shape.nodes (with_register p.heap register (Some r))
    (omega (arith, inside, node-count shape steps)) (became w i _ s a inside is)
    (resolved-lighter (cycle_of (now w) 0) register r p))
