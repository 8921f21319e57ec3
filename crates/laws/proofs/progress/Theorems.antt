-- The next cycle, and the theorems.
use Rattle.std.proofs.Common.{false, ◌≡◌, ℕ, ◌+◌, ◌-◌, ◌*◌, ◌<◌, ◌≤◌, ◌==◌, lt-ltb, List, [], ◌∷◌, ◌++◌, length, map, refl, ap, ◌∙◌, arith, eq-eqb, length-append, ◌≢◌, zero, suc, Bool, true, Result, Ok, set, sym, subst, ⊎_elim, length-set, eqb}
use Rattle.std.specs.List.{AllByRecursion, sum_by, range_with_len}
use Rattle.std.specs.Prelude.{is_some}
use Rattle.std.proofs.lemmas.Bool.{both_ways, cond_both, cases_eq, cond-true, cond-false, ne_eqb}
use Rattle.std.proofs.lemmas.List.Sums.{sum_by-cons}
use Rattle.ids.specs.Limits.{Shaped, IsShape}
use Rattle.ids.specs.declared.limits.TheConstants.{GREATEST_CYCLE}
use Rattle.msg.specs.declared.body.Message.{Message}
use Rattle.model.specs.State.{Phases, Slot, Free, Occupied, Retired, LocalState, NodeState, node_at, slot_at}
use Rattle.model.specs.Agreement.{OldGarbage}
use Rattle.model.proofs.References.{all-append}
use Rattle.model.specs.Effects.{Work}
use Rattle.model.specs.Counting.{append, announce, stamped, to_others}
use Rattle.model.specs.Shading.{join}
use Rattle.model.specs.Collecting.{probe, begun, new_token}
use Rattle.model.specs.World.{World, happens, outcome_of, run, new_world, take_step, world_after}
use Rattle.model.specs.Cuts.{Cut, cut, IsLive}
use Rattle.model.proofs.Leaving.{own-stands, stands-walks}
use Rattle.laws.proofs.Flights.{load_sent}
use Rattle.model.proofs.Joining.{join-phases}
use Rattle.model.proofs.Walk.{join-walks}
use Rattle.laws.proofs.Invariant.{cycle_of, Inv}
use Rattle.laws.specs.Statements.{OfSpaces, Garbage, StaysUp, resolved, LeavesAlone, IfDone, EachDone}
use Rattle.laws.specs.Strategy.{is_collectors, now, next_move, next_steps, played, steps_of, Move, Bring, Do}
use Rattle.laws.specs.Bounds.{sum_to, weight, scan_work, slot_work, held_work, grey_work, heap_work, root_work, node_work, whole_node_work, work_left, whole_work, HasRoom, flight, rounds, marking_moves, cycle_moves, next_work, both_moves, marking_room}
use Rattle.laws.proofs.progress.Flights.{sum-le, sum-at, sum-add, sum-const, flight-sends, room-after, room-less, numbers-fit}
use Rattle.laws.proofs.progress.Paths.{Goes, run-append, Reaches, more, reaches-later, reaches-then, reaches-as, comes}
use Rattle.laws.proofs.progress.Spaces.{Reached, reached-whole, do-moved, Moved, reached-more, reached-count, reached-saved, save-step}
use Rattle.laws.proofs.progress.Costs.{load-append, join-pays, others-few, others-load}
use Rattle.laws.proofs.progress.Falls.{nodes-turn}
use Rattle.laws.proofs.progress.Ends.{Aim, marking-ends, marks, Known, Over}
use Rattle.laws.proofs.progress.Sweeping.{Cleared, cleared_aim, clearing-ends}
use Rattle.ids.specs.declared.names.Ref.{Ref}
use Rattle.model.specs.declared.step.Step.{Step}
use Rattle.model.specs.declared.step.Outcome.{Outcome}
use Rattle.ids.specs.declared.refusal.Refusal.{Refusal}
use Rattle.laws.proofs.Inner.{occupied-inside}
use Rattle.laws.proofs.Live.{all-inv}
use Rattle.laws.specs.Sights.{choosing}
use Rattle.laws.proofs.Cuts.{cut-saved}
use Rattle.laws.proofs.OldGarbage.{garbage-goes, old-garbage-goes}
use Rattle.laws.specs.Progress.{current_cycle, IsSwept, Comes, MarkingCanEnd, CycleCanEnd, saves, IsGone, GarbageCanGo, EndIsFoundSoon}
use Rattle.laws.proofs.progress.Soon.{end-comes}
use Rattle.msg.specs.declared.body.Body.TheVariants as body
use Rattle.model.specs.declared.event.Event.TheVariants as event
use Rattle.model.specs.declared.step.Step.TheVariants as step

-- ---- what is marked in no node

sum-by_le : {A : Type 0} (f g : A → ℕ) (xs : List A) → ((x : A) → f x ≤ g x)
    → sum_by f xs ≤ sum_by g xs
sum-by_le f g [] le = omega arith
sum-by_le f g (x ∷ xs) le =
    omega (arith, sum_by-cons f x xs, sum_by-cons g x xs, le x, sum-by_le f g xs le)

slot-held : (cycle : ℕ) (s : Slot) → slot_work cycle s ≤ held_work s
slot-held cycle (Free g) = omega arith
slot-held cycle (Occupied g o) =
    cond_both (o.mark == cycle) 0 (scan_work (Occupied g o)) (λ z. z ≤ scan_work (Occupied g o))
    (λ _. omega arith) (λ _. omega arith)
slot-held cycle Retired = omega arith

-- a node that hasn't joined the cycle, and has nothing grey
node-held : (cycle : ℕ) (p : LocalState) → p.heap.grey ≡ []
    → node_work cycle p ≤ 1 + whole_node_work p
node-held cycle p calm =
    let slots = sum-by_le (slot_work cycle) held_work p.heap.slots (slot-held cycle) in
    let greys : sum_by (grey_work p.heap) p.heap.grey ≡ 0 =
    ap (λ (z : List ℕ). sum_by (grey_work p.heap) z) calm in
    cond_both (p.phases.cycle == cycle) 0 (1 + root_work p.heap)
    (λ z. z + heap_work cycle p.heap ≤ 1 + whole_node_work p)
    (λ _. omega (arith, slots, greys)) (λ _. omega (arith, slots, greys))

-- ---- the event

-- what node 0 sends, and the work that it then has
pub begun-costs : (p : LocalState)
    → (node_work (p.phases.cycle + 1) (begun p).local + load_sent weight (begun p).sends
    ≤ node_work (p.phases.cycle + 1) p + p.shape.nodes)
    × (length (begun p).sends ≤ node_work (p.phases.cycle + 1) p + p.shape.nodes + 1)
    × ((begun p).local.phases.cycle ≡ p.phases.cycle + 1)
unfolding begun probe append announce
begun-costs p =
    let cycle : ℕ = p.phases.cycle + 1 in
    let w : Work = join p cycle in
    let q : LocalState = (begun p).local in
    let nodes = ap (λ (z : Shaped). z.nodes)
    (join-walks stands-walks.moves.collects p cycle (omega arith)).shape in
    let pays = (join-pays cycle p (λ e. omega (arith, e))).0 in
    let token : List (ℕ × Message) =
    (w.local.shape.nodes - 1, stamped w.local (body.Token new_token)) ∷ [] in
    let others : List (ℕ × Message) = to_others q body.Begin w.local.shape.nodes in
    let a = load-append weight (w.sends ++ token) others in
    let b = load-append weight w.sends token in
    let l = length-append w.sends token in
    let few = others-few q body.Begin w.local.shape.nodes in (
      omega (arith, pays, a, b, nodes, others-load q body.Begin w.local.shape.nodes (omega arith)),
      omega (arith, pays, length-append (w.sends ++ token) others, l, nodes, few),
      ap (λ (z : Phases). z.cycle) (join-phases p cycle),
    )

-- the next cycle's aim
abbrev pub next_aim : Aim → World → ℕ → ℕ → Aim
next_aim a v work spare = record {
  shape = a.shape;
  cycle = a.cycle + 1;
  work = work;
  both = work_left a.shape.nodes (now v) + whole_work a.shape.nodes (now v);
  spare = spare;
}

-- node 0 has begun the next cycle
pub record Begun (a : Aim) (w : World) (work : ℕ) : Type 0 where
  pub goes : Goes w (next_steps a.shape.nodes w) (run w (next_steps a.shape.nodes w))
  pub reached : Reached a.shape (run w (next_steps a.shape.nodes w))
  pub cycle : cycle_of (now (run w (next_steps a.shape.nodes w))) 0 ≡ a.cycle + 1
  pub few : work_left a.shape.nodes (now (run w (next_steps a.shape.nodes w))) ≤ work
  pub room : (rest : ℕ) → rest + work + a.shape.nodes + 1 ≤ a.spare
      → HasRoom rest (now (run w (next_steps a.shape.nodes w)))

pub begins-next : (a : Aim) (w : World) (work : ℕ) → Cleared a w → a.cycle < GREATEST_CYCLE
    → a.both + 2 * a.shape.nodes ≤ work → work + a.shape.nodes + 1 ≤ a.spare → Begun a w work
begins-next a w work h below enough spare =
    let n : ℕ = a.shape.nodes in
    let c : Cut = now w in
    let v : World = run w (next_steps n w) in
    let inv : Inv a.shape c = (reached-whole h.reached).inv in
    let p : LocalState = (c 0).local in
    let first : 0 < n = omega (arith, h.reached.limits.least_nodes) in
    let nodes : p.shape.nodes ≡ n = ap (λ (z : Shaped). z.nodes) (inv.base.shapes 0 first) in
    let costs = begun-costs p in
    let all : sum_to n (λ j. node_work (p.phases.cycle + 1) (c j).local) ≤ n + whole_work n c =
    (let k = sum-le n (λ j. node_work (p.phases.cycle + 1) (c j).local)
    (λ j. 1 + whole_node_work (c j).local)
    (λ j _. node-held (p.phases.cycle + 1) (c j).local (inv.rested.grey j h.resting)) in
    let s = sum-add n (λ _. 1) (λ j. whole_node_work (c j).local) in
    omega (arith, k, s, sum-const n 1)) in
    let one = sum-at n (λ j. node_work (p.phases.cycle + 1) (c j).local) 0 first in
    let long : length (begun p).sends ≤ work + n + 1 =
    omega (arith, costs.1, nodes, one, all, h.both, enough) in
    let moved : Moved a.shape w 0 (begun p).local (begun p).sends =
    do-moved w 0 event.Begin (record {
      reached = h.reached;
      chosen = h.next;
      inside = first;
      own = refl;
      collectors = refl;
      passed = (
        eq-eqb p.own 0 (inv.base.own 0 first),
        (
          h.swept.reported,
          (lt-ltb p.phases.cycle GREATEST_CYCLE (omega (arith, h.swept.current, below)), tt),
        ),
      );
      numbered =
          numbers-fit c 0 (begun p).sends
          (room-less c a.spare (length (begun p).sends) (omega (arith, long, spare)) h.room);
    }) in
    let got = (own-stands p (map length (c 0).sent) event.Begin refl).got in
    let flown = flight-sends n first moved.turn got in
    let cycle : cycle_of (now v) 0 ≡ p.phases.cycle + 1 =
    ap (λ (s : NodeState). s.local.phases.cycle) moved.turn.becomes.changed ∙ costs.2 in
    let sums = nodes-turn n (node_work (p.phases.cycle + 1)) first moved.turn in
    let same : sum_to n (λ j. node_work (cycle_of (now v) 0) (now v j).local)
    ≡ sum_to n (λ j. node_work (p.phases.cycle + 1) (now v j).local) =
    ap (λ (z : ℕ). sum_to n (λ j. node_work z (now v j).local)) cycle in
    record {
      goes = moved.goes;
      reached = moved.reached;
      cycle = cycle ∙ ap (λ (z : ℕ). z + 1) h.swept.current;
      few = omega (arith, costs.0, flown, same, sums, all, h.both, enough, nodes);
      room = λ rest le. room-after a.spare rest moved.turn (omega (arith, le, long)) h.room;
    }

-- ---- a space after any steps

abbrev aim_at : Shaped → World → ℕ → Aim
aim_at shape w spare = record {
  shape = shape;
  cycle = current_cycle w;
  work = work_left shape.nodes (now w);
  both = work_left shape.nodes (now w) + whole_work shape.nodes (now w);
  spare = spare;
}

pub reached-now : (shape : Shaped) → IsShape shape → (steps : List Step)
    → Reached shape (run (new_world shape) steps)
reached-now shape limits steps = record { limits = limits; steps = steps; is = refl }

known-now : (shape : Shaped) (w : World) (spare : ℕ) → Reached shape w
    → Known (marks (aim_at shape w spare)) 0 w
known-now shape w spare r =
    record { reached = r; cycle = refl; keeps = record { few = omega arith; both = omega arith } }

-- ---- the end of marking, and of the cycle

pub marking-can-end : OfSpaces MarkingCanEnd
marking-can-end shape limits steps room =
    let w : World = run (new_world shape) steps in
    let n : ℕ = shape.nodes in
    comes (marking_moves n (now w)) w
    (reaches-as (marking_moves n (now w)) w
    (λ v (o : Over (marks (aim_at shape w 0)) v).
    record { current = o.known.cycle; ended = o.ended })
    (marking-ends (aim_at shape w 0) w (known-now shape w 0 (reached-now shape limits steps))
    (room-less (now w) (marking_room n (now w)) (marking_room n (now w) + 0) (omega arith) room)))

cycle-ends : (shape : Shaped) (w : World) (spare : ℕ) → Reached shape w
    → HasRoom (cycle_moves shape.nodes (now w) + shape.nodes + spare) (now w)
    → Reaches shape.nodes
    (Cleared (cleared_aim (aim_at shape w (work_left shape.nodes (now w) + 4 * shape.nodes + spare))
    spare)) (cycle_moves shape.nodes (now w)) w
cycle-ends shape w spare r room =
    let n : ℕ = shape.nodes in
    let left : ℕ = work_left n (now w) in
    let a : Aim = aim_at shape w (left + 4 * n + spare) in
    reaches-later (marking_moves n (now w) + (left + 4 * n)) (cycle_moves n (now w)) w (omega arith)
    (reaches-then (marking_moves n (now w)) (left + 4 * n) w
    (marking-ends a w (known-now shape w (left + 4 * n + spare) r)
    (room-less (now w) (cycle_moves n (now w) + n + spare)
    (marking_moves n (now w) + n + (left + 4 * n + spare)) (omega arith) room))
    (λ v o. clearing-ends a spare v (omega arith) o))

pub cycle-can-end : OfSpaces CycleCanEnd
cycle-can-end shape limits steps room =
    let w : World = run (new_world shape) steps in
    let n : ℕ = shape.nodes in
    comes (cycle_moves n (now w)) w
    (reaches-as (cycle_moves n (now w)) w (λ v c. c.swept)
    (cycle-ends shape w 0 (reached-now shape limits steps)
    (room-less (now w) (cycle_moves n (now w) + n) (cycle_moves n (now w) + n + 0) (omega arith)
    room)))

-- ---- the next cycle

-- from the end of a cycle to the end of the next
next-ends : (a : Aim) (w : World) (work : ℕ) → Cleared a w → a.cycle < GREATEST_CYCLE
    → a.both + 2 * a.shape.nodes ≤ work
    → rounds a.shape.nodes work + 2 * work + 6 * a.shape.nodes + 1 ≤ a.spare
    → Reaches a.shape.nodes (λ v. IsSwept a.shape.nodes (a.cycle + 1) (now v))
    (suc (rounds a.shape.nodes work + (work + 4 * a.shape.nodes))) w
next-ends a w work h below enough spare =
    let n : ℕ = a.shape.nodes in
    let b : Begun a w work = begins-next a w work h below enough (omega (arith, spare)) in
    let v : World = run w (next_steps n w) in
    let d : Aim = next_aim a v work (work + 4 * n) in
    more (rounds n work + (work + 4 * n)) w b.goes
    (reaches-as (rounds n work + (work + 4 * n)) v (λ u c. c.swept)
    (reaches-then (rounds n work) (work + 4 * n) v
    (marking-ends d v
    (record {
      reached = b.reached;
      cycle = b.cycle;
      keeps = (record { few = omega (arith, b.few); both = omega arith });
    })
    (b.room (rounds n work + n + (work + 4 * n)) (omega (arith, spare))))
    (λ u o. clearing-ends d 0 u (omega arith) o)))

both-end : (shape : Shaped) (w : World) → Reached shape w → current_cycle w < GREATEST_CYCLE
    → HasRoom (both_moves shape.nodes (now w) + next_work shape.nodes (now w) + 3 * shape.nodes)
    (now w)
    → Reaches shape.nodes (λ v. IsSwept shape.nodes (current_cycle w + 1) (now v))
    (both_moves shape.nodes (now w)) w
both-end shape w r below room =
    let n : ℕ = shape.nodes in
    let work : ℕ = next_work n (now w) in
    let spare : ℕ = rounds n work + 2 * work + 6 * n + 1 in
    let a : Aim = cleared_aim (aim_at shape w (work_left n (now w) + 4 * n + spare)) spare in
    reaches-later (cycle_moves n (now w) + (suc (rounds n work + (work + 4 * n))))
    (both_moves n (now w)) w (omega arith)
    (reaches-then (cycle_moves n (now w)) (suc (rounds n work + (work + 4 * n))) w
    (cycle-ends shape w spare r
    (room-less (now w) (both_moves n (now w) + work + 3 * n) (cycle_moves n (now w) + n + spare)
    (omega arith) room))
    (λ v c. next-ends a v work c below (omega arith) (omega arith)))

-- ---- old garbage

-- Each of these nodes is saved: a choice of states then is one of the states before, with the
-- current states of these nodes.
record Saves (v : World) (from many : ℕ) (choice : ℕ → Bool) : Type 0 where
  other : ℕ → Bool
  current : (j : ℕ) → from ≤ j → j < from + many → other j ≡ false
  same : (j : ℕ) → cut (run v (map step.Save (range_with_len from many))) choice j ≡ cut v other j

saves-from : (many from : ℕ) (v : World) (choice : ℕ → Bool) → from + many ≤ length v.current
    → length v.saved ≡ length v.current → Saves v from many choice
saves-from zero from v choice inside width = record {
  other = choice;
  current = λ j least most. absurd (omega (arith, least, most));
  same = λ j. refl;
}
saves-from (suc many) from v choice inside width =
    let first : World = record v { saved = set v.saved from (node_at v.current from) } in
    let here : from < length v.current = omega (arith, inside) in
    let later = saves-from many (from + 1) first choice
    (let e : from + 1 + many ≤ length v.current = omega (arith, inside) in e)
    (length-set v.saved from (node_at v.current from) ∙ width) in
    record {
      other = choosing later.other from false;
      current = λ j least most. ⊎_elim {C = choosing later.other from false j ≡ false}
          (λ (e : j ≡ from). cond-true (eqb j from) false (later.other j) (eq-eqb j from e))
          (λ (apart : j ≢ from).
          cond-false (eqb j from) false (later.other j) (ne_eqb j from apart)
          ∙ later.current j (omega (arith, least, apart)) (omega (arith, most)))
          (cases_eq j from);
      same = λ j.
          ap (λ (z : World). cut (run z (map step.Save (range_with_len (from + 1) many))) choice j)
          (ap (world_after v) (save-step v from here))
          ∙ later.same j
          ∙ cut-saved v from later.other (omega (arith, here, width)) j;
    }

-- no move restarts a node
steps-stay : (c : Cut) (m : Move) (i : ℕ) → StaysUp i (steps_of c m)
steps-stay c (Bring from to) i =
    (λ e. absurd cc, (λ e. absurd cc, (λ e. absurd cc, (λ e. absurd cc, tt))))
steps-stay c (Do j e) i = (λ is. absurd cc, tt)

pub played-stays : (n k : ℕ) (w : World) (i : ℕ) → StaysUp i (played n k w)
played-stays n zero w i = tt
played-stays n (suc k) w i =
    all-append (λ s. s ≢ step.Restart i) (next_steps n w) (played n k (run w (next_steps n w)))
    (steps-stay (now w) (next_move n (now w)) i) (played-stays n k (run w (next_steps n w)) i)

-- a step that resolves no reference
abbrev pub is_resolving : Step → Bool
is_resolving (step.Act i e) = is_some (resolved e)
is_resolving s = false

step-leaves : (w : World) (r : Ref) (s : Step) (o : Result Outcome Refusal)
    → is_resolving s ≡ false → IfDone (LeavesAlone w r) s o
step-leaves w r (step.Act i e) (Ok o) none =
    λ q found. absurd (both_ways _ none (ap is_some found))
step-leaves w r s o none = tt

steps-leave : (w : World) (r : Ref) (v : World) (later : List Step)
    → AllByRecursion (λ s. is_resolving s ≡ false) later → EachDone (LeavesAlone w r) v later
steps-leave w r v [] all = tt
steps-leave w r v (s ∷ ss) all = (
  step-leaves w r s (outcome_of (take_step v s)) all.0,
  steps-leave w r (happens v s) ss all.1,
)

collectors-resolve_none : (ss : List Step) → AllByRecursion (λ s. is_collectors s ≡ true) ss
    → AllByRecursion (λ s. is_resolving s ≡ false) ss
collectors-resolve_none [] all = tt
collectors-resolve_none (s ∷ ss) all = (by s all.0, collectors-resolve_none ss all.1)
  where
    by : (s : Step) → is_collectors s ≡ true → is_resolving s ≡ false
    by (step.Act i event.Begin) is = refl
    by (step.Act i event.Scan) is = refl
    by (step.Act i event.Pass) is = refl
    by (step.Act i (event.Sweep count)) is = refl
    by (step.Act i e) is = absurd cc
    by s is = refl

saves-resolve_none : (is : List ℕ)
    → AllByRecursion (λ s. is_resolving s ≡ false) (map step.Save is)
saves-resolve_none [] = tt
saves-resolve_none (i ∷ is) = (refl, saves-resolve_none is)

-- After the first steps the others ended a cycle that had not begun: every node has swept, none was
-- restarted, and no reference was resolved.
pub record WasSwept (shape : Shaped) (steps later : List Step) (cycle : ℕ) : Type 0 where
  pub before : current_cycle (run (new_world shape) steps) < cycle
  pub swept : IsSwept shape.nodes cycle (now (run (run (new_world shape) steps) later))
  pub stays : (i : ℕ) → StaysUp i later
  pub leaves : AllByRecursion (λ s. is_resolving s ≡ false) later

pub gone-after : {shape : Shaped} → IsShape shape → (steps later : List Step) {cycle : ℕ}
    → WasSwept shape steps later cycle → (r : Ref)
    → IsGone (run (new_world shape) steps)
    (run (run (run (new_world shape) steps) later) (saves shape.nodes)) r
gone-after {shape} limits steps later {cycle} was r dead choice live =
    let n : ℕ = shape.nodes in
    let w : World = run (new_world shape) steps in
    let v : World = run w later in
    let u : World = run v (saves n) in
    let here : Reached shape v = reached-more later (reached-now shape limits steps) in
    let there : Reached shape u = reached-more (saves n) here in
    let inv : Inv shape (cut u choice) =
    subst (λ (z : World). Inv shape (cut z choice)) there.is
    (all-inv shape limits there.steps choice) in
    let inside : r.node < n =
    occupied-inside r.node r.slot r.generation live.object inv.base live.there in
    let many = reached-count here in
    let saved : Saves v 0 n choice =
    saves-from n 0 v choice (omega (arith, many)) (reached-saved here ∙ sym (reached-count here)) in
    let chosen : saved.other r.node ≡ false =
    saved.current r.node (omega arith) (omega (arith, inside)) in
    let now_swept : (cut v saved.other r.node).local.phases.swept ≡ cycle =
    ap (λ (z : NodeState). z.local.phases.swept) (cond-false (saved.other r.node) _ _ chosen)
    ∙ was.swept.swept r.node inside in
    let done : (cut u choice r.node).local.phases.swept ≡ cycle =
    ap (λ (z : NodeState). z.local.phases.swept) (saved.same r.node) ∙ now_swept in
    let same : run w (later ++ saves n) ≡ u = run-append w later (saves n) in
    ⊎_elim {C = ⊥}
    (λ (old : OldGarbage w r).
    old-garbage-goes shape limits steps (later ++ saves n) choice cycle r was.before old
    (steps-leave w r w (later ++ saves n)
    (all-append (λ s. is_resolving s ≡ false) later (saves n) was.leaves
    (saves-resolve_none (range_with_len 0 n))))
    (subst (λ (z : World). cycle ≤ (cut z choice r.node).local.phases.swept) (sym same)
    (omega (arith, done)))
    (subst (λ (z : World). IsLive (cut z choice) r) (sym same) live))
    (λ (fresh : Garbage w r).
    garbage-goes shape limits steps later saved.other cycle r was.before fresh
    (steps-leave w r w later was.leaves) (was.stays r.node) chosen
    (omega (arith, now_swept))
    (record {
      object = live.object;
      there =
          subst (λ (s : NodeState). slot_at s.local.heap r.slot ≡ Occupied r.generation live.object)
          (saved.same r.node) live.there;
    }))
    dead

-- after the collector's steps alone
pub gone : (shape : Shaped) (limits : IsShape shape) (steps later : List Step) (cycle : ℕ)
    → current_cycle (run (new_world shape) steps) < cycle
    → IsSwept shape.nodes cycle (now (run (run (new_world shape) steps) later))
    → ((i : ℕ) → StaysUp i later)
    → AllByRecursion (λ s. is_collectors s ≡ true) later → (r : Ref)
    → IsGone (run (new_world shape) steps)
    (run (run (run (new_world shape) steps) later) (saves shape.nodes)) r
gone shape limits steps later cycle before swept stays collects =
    gone-after limits steps later (record {
      before = before;
      swept = swept;
      stays = stays;
      leaves = collectors-resolve_none later collects;
    })

pub garbage-can-go : OfSpaces GarbageCanGo
garbage-can-go shape limits steps below room =
    let w : World = run (new_world shape) steps in
    let n : ℕ = shape.nodes in
    let c : Comes n (both_moves n (now w)) w (λ v. IsSwept n (current_cycle w + 1) (now v)) =
    comes (both_moves n (now w)) w (both-end shape w (reached-now shape limits steps) below room)
    in
    record {
      moves = c.moves;
      few = c.few;
      played = c.played;
      holds = (
        c.holds,
        gone shape limits steps (played n c.moves w) (current_cycle w + 1) (omega arith) c.holds
            (played-stays n c.moves w) c.played.collectors,
      );
    }

-- ---- the end of marking is found

pub end-is-found-soon : OfSpaces EndIsFoundSoon
end-is-found-soon shape limits steps terminated room =
    let w : World = run (new_world shape) steps in
    let n : ℕ = shape.nodes in
    comes (6 * n + flight n (now w)) w
    (end-comes shape w (reached-now shape limits steps) terminated room)
