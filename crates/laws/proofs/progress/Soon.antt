-- Once marking has terminated, node 0 finds that in three rounds of the token.
use Rattle.std.proofs.Common.{◌≡◌, ℕ, ◌+◌, ◌≤◌, ◌==◌, ◌&&◌, ◌||◌, ltb, Bool, true, false, cond, List, [], ◌∷◌, ◌++◌, length, Option, Some, option_to_list, refl, sym, ap, ◌∙◌, subst, ⊎_elim, arith, append-nil, ◌-◌, ◌*◌, ◌<◌, get_or, None, inl, inr, eqb-true, eq-eqb, lt-ltb}
use Rattle.std.specs.List.{AllByRecursion}
use Rattle.std.proofs.lemmas.Bool.{cases_Bool, cond-true, cond-false, le-ltb, or_left, both_ways, not_from_true, ne_eqb, or_right, not-true}
use Rattle.ids.specs.declared.names.Ref.{Ref}
use Rattle.msg.specs.declared.body.Body.{Body}
use Rattle.msg.specs.declared.body.Message.{Message}
use Rattle.model.specs.declared.balance.Balance.{Balance}
use Rattle.model.specs.declared.balance.Balance.TheVariants.{Earlier, Recent}
use Rattle.model.specs.State.{Heap, Ring, LocalState, Object, Occupied, slot_at}
use Rattle.model.specs.Heaps.{object_at, place_of, fetched}
use Rattle.model.specs.Effects.{Work, at_rest, then}
use Rattle.model.specs.Counting.{is_reference, reference_balance, balance_of, counted_up, counted_down, counted_marks, append}
use Rattle.model.specs.Shading.{is_in, is_open, is_unmarked, wakes, make_grey, make_all_grey, unasked, marks_for, see_to, join, joined}
use Rattle.model.specs.Steps.{post, carried, count_in, counted, take_carried, take_body, settled, taken_in}
use Rattle.model.specs.Agreement.{is_counted, Terminated}
use Rattle.model.proofs.Ages.{noted-keeps}
use Rattle.model.proofs.Shading.{marks-none, see_to-none, see_to-open}
use Rattle.laws.specs.Bounds.{cost_of, flight, HasRoom}
use Rattle.laws.proofs.progress.Costs.{cost_sent, is_token}
use Rattle.ids.specs.Limits.{Shaped}
use Rattle.msg.specs.declared.body.Token.{Token}
use Rattle.model.specs.References.{IfAny}
use Rattle.model.specs.World.{World, run}
use Rattle.model.specs.Cuts.{Cut, taken, IsInFlight, Among}
use Rattle.model.proofs.Slots.{object-there}
use Rattle.model.proofs.Lookups.{all-map}
use Rattle.laws.proofs.Lookups.{all-among}
use Rattle.laws.proofs.Turns.{Turn, at_turn, flew}
use Rattle.laws.proofs.Acting.{latest}
use Rattle.laws.proofs.Counts.{reference-counts}
use Rattle.laws.proofs.Inner.{marking-open}
use Rattle.laws.proofs.Slots.{shared-rest}
use Rattle.laws.proofs.Invariant.{place_of_spot, phases_of, cycle_of, Marking, StampFits, BodyFits, Covered, is_marked, is_asked, Holds, holds_marked, holds_asked, Spot, at_node, on_way, IsAt, is_held, is_sent, Inv}
use Rattle.laws.specs.Strategy.{now, next_steps}
use Rattle.laws.specs.Progress.{HasEnded}
use Rattle.laws.proofs.progress.Flights.{room-after, room-less, numbers-fit}
use Rattle.laws.proofs.progress.Paths.{Onward, Reaches, reaches-as}
use Rattle.laws.proofs.progress.Hearing.{Took, flies-on, stamp-latest}
use Rattle.laws.proofs.progress.Spaces.{Reached, reached-whole, Link, first-of, message_of, effect_there, would-take, link-brought, link-took}
use Rattle.laws.proofs.progress.Falls.{took-change}
use Rattle.laws.proofs.progress.Stages.{Stage, stage-same, SameRing, ring-turn, budget-new}
use Rattle.laws.proofs.progress.Ends.{Hunt, Over, Going, Hunted, Rules, hunt-on, hunted}
use Rattle.msg.specs.declared.body.Body.TheVariants as body

-- ---- references that a node sees to

abbrev NoneWakes : LocalState → List Ref → Type 0
NoneWakes p rs = AllByRecursion (λ r. wakes p.own p.phases.cycle p.heap r ≡ false) rs

quiet-heap : (own cycle : ℕ) (h : Heap) (rs : List Ref)
    → AllByRecursion (λ r. wakes own cycle h r ≡ false) rs → make_all_grey own cycle h rs ≡ h
unfolding make_grey
quiet-heap own cycle h [] quiet = refl
quiet-heap own cycle h (r ∷ rs) quiet =
    ap (λ (g : Heap). make_all_grey own cycle g rs)
    (⊎_elim {C = cond (r.node == own) (make_grey cycle h r) h ≡ h}
    (λ here.
    cond-true (r.node == own) (make_grey cycle h r) h here
    ∙ cond-false (is_unmarked cycle (object_at h r)) _ h
    (ap (λ (b : Bool). b && is_unmarked cycle (object_at h r)) (sym here) ∙ quiet.0))
    (λ far. cond-false (r.node == own) (make_grey cycle h r) h far)
    (cases_Bool (r.node == own)))
    ∙ quiet-heap own cycle h rs quiet.1

-- the node with these references asked for
abbrev asking : LocalState → List Ref → LocalState
asking p rs = record p { asked = p.asked ++ unasked p.own p.asked rs }

vouch-quiet : (rs : List Ref) (p : LocalState) → is_open p ≡ true → NoneWakes p rs
    → see_to false rs p ≡ at_rest (asking p rs)
vouch-quiet rs p opened quiet =
    see_to-open false rs p opened
    ∙ ap (λ (h : Heap). at_rest (record (asking p rs) { heap = h; ring = counted_marks 0 p.ring }))
    (quiet-heap p.own p.phases.cycle p.heap rs quiet)
    ∙ ap (λ (r : Ring). at_rest (record (asking p rs) { ring = r })) (marks-none p.ring)

-- and none of them is new
shade-quiet : (rs : List Ref) (p : LocalState) → is_open p ≡ true → NoneWakes p rs
    → unasked p.own p.asked rs ≡ [] → see_to true rs p ≡ at_rest p
shade-quiet rs p opened quiet none =
    see_to-open true rs p opened
    ∙ ap (λ (us : List Ref). record {
      local = record p {
        heap = make_all_grey p.own p.phases.cycle p.heap rs;
        asked = p.asked ++ us;
        ring = counted_marks (length us) p.ring;
      };
      sends = marks_for p.phases.cycle us;
    }) none
    ∙ ap (λ (h : Heap).
    at_rest (record p { heap = h; asked = p.asked ++ []; ring = counted_marks 0 p.ring }))
    (quiet-heap p.own p.phases.cycle p.heap rs quiet)
    ∙ ap (λ (us : List Ref). at_rest (record p { asked = us; ring = counted_marks 0 p.ring }))
    (append-nil p.asked)
    ∙ ap (λ (r : Ring). at_rest (record p { ring = r })) (marks-none p.ring)

-- ---- a message of the node's cycle

-- what doesn't change, and what is sent
pub record Quiet (b : Body) (p q : LocalState) (ms : List (ℕ × Message)) : Type 0 where
  pub grey : q.heap.grey ≡ p.heap.grey
  pub cycle : q.phases.cycle ≡ p.phases.cycle
  pub colour : q.ring.colour ≡ p.ring.colour
  pub owes : q.ring.earlier ≡ p.ring.earlier
  pub token : q.ring.token ≡ p.ring.token
  pub sends : cost_sent ms + 1 ≤ cost_of b
  pub uncounted : AllByRecursion (λ m. is_counted p.phases.cycle m.1 ≡ false) ms

-- nothing is sent, and the ring stays
idle-quiet : {b : Body} {p q : LocalState} → q.heap.grey ≡ p.heap.grey
    → q.phases.cycle ≡ p.phases.cycle → q.ring ≡ p.ring → 1 ≤ cost_of b → Quiet b p q []
idle-quiet grey cycle ring pays = record {
  grey = grey;
  cycle = cycle;
  colour = ap (λ (z : Ring). z.colour) ring;
  owes = ap (λ (z : Ring). z.earlier) ring;
  token = ap (λ (z : Ring). z.token) ring;
  sends = omega (arith, pays);
  uncounted = tt;
}

reference-now : (cycle : ℕ) → reference_balance cycle cycle ≡ Recent
reference-now cycle = cond-false (ltb cycle cycle) Earlier Recent (le-ltb cycle cycle (omega arith))

balance-now : (cycle : ℕ) (b : Body) → is_reference b ≡ true
    → balance_of cycle cycle b ≡ Some Recent
balance-now cycle (body.Give label reference) is = ap Some (reference-now cycle)
balance-now cycle (body.Put target place reference) is = ap Some (reference-now cycle)
balance-now cycle (body.Get target place label) is = ap Some (reference-now cycle)
balance-now cycle (body.Post label references bytes) is = ap Some (reference-now cycle)
balance-now cycle (body.Fetch target label offset count) is = ap Some (reference-now cycle)
balance-now cycle b is = absurd cc

-- what a message finds at a node that marks
pub record Finds (p : LocalState) (b : Body) : Type 0 where
  pub opened : is_open p ≡ true
  pub quiet : NoneWakes p (carried b)

-- the node before the message counts
abbrev following : ℕ → ℕ → Body → LocalState → Work
following from stamp b p = take_body from stamp b p

counted-quiet : (from number : ℕ) (b : Body) (p : LocalState) (w : Work) → is_reference b ≡ true
    → w.local.phases.cycle ≡ p.phases.cycle → Quiet b p w.local w.sends
    → Quiet b p (counted from number p.phases.cycle b w).local
    (counted from number p.phases.cycle b w).sends
unfolding count_in
counted-quiet from number b p w is same h =
    let balance : balance_of w.local.phases.cycle p.phases.cycle b ≡ Some Recent =
    ap (λ (z : ℕ). balance_of z p.phases.cycle b) same ∙ balance-now p.phases.cycle b is in
    record {
      grey = h.grey;
      cycle = h.cycle;
      colour = ap (λ (z : Option Balance). (counted_down z w.local.ring).colour) balance ∙ h.colour;
      owes = ap (λ (z : Option Balance). (counted_down z w.local.ring).earlier) balance ∙ h.owes;
      token = ap (λ (z : Option Balance). (counted_down z w.local.ring).token) balance ∙ h.token;
      sends = h.sends;
      uncounted = h.uncounted;
    }

-- while the places of an object are read, nothing is new either
pub record Reads (p : LocalState) (target : Ref) (v : Option Ref) : Type 0 where
  pub own : (target.node == p.own) ≡ true
  pub quiet : NoneWakes p (option_to_list v)
  pub known : unasked p.own p.asked (option_to_list v) ≡ []

body-quiet : (from : ℕ) (b : Body) (p : LocalState) → is_reference b ≡ true → Finds p b
    → ((target : Ref) (place label : ℕ) → b ≡ body.Get target place label
    → Reads p target (place_of (object_at p.heap target) place))
    → Quiet b p (then (at_rest (asking p (carried b))) (take_body from p.phases.cycle b)).local
    (then (at_rest (asking p (carried b))) (take_body from p.phases.cycle b)).sends
unfolding take_body append
body-quiet from (body.Get target place label) p is h reads =
    let v : Option Ref = place_of (object_at p.heap target) place in
    let r : Reads p target v = reads target place label refl in
    let q : LocalState = asking p (target ∷ []) in
    let none : unasked p.own p.asked (target ∷ []) ≡ [] =
    cond-true (target.node == p.own || is_in target p.asked) []
    (target ∷ unasked p.own (p.asked ++ target ∷ []) []) (or_left _ _ r.own) in
    let same : q.asked ≡ p.asked =
    ap (λ (us : List Ref). p.asked ++ us) none ∙ append-nil p.asked in
    let rest : see_to true (option_to_list v) q ≡ at_rest q =
    shade-quiet (option_to_list v) q h.opened r.quiet
    (ap (λ (us : List Ref). unasked p.own us (option_to_list v)) same ∙ r.known) in
    let give : Body = body.Give label v in
    let balance : balance_of p.phases.cycle p.phases.cycle give ≡ Some Recent =
    balance-now p.phases.cycle give refl in
    subst (λ (w : Work). Quiet (body.Get target place label) p (then w (post from give)).local
    (then w (post from give)).sends) (sym rest)
    (record {
      grey = ap (λ (z : Heap). z.grey) (shared-rest p.own (option_to_list v) p.heap);
      cycle = refl;
      colour = ap (λ (z : Option Balance). (counted_up z p.ring).colour) balance;
      owes = ap (λ (z : Option Balance). (counted_up z p.ring).earlier) balance;
      token = ap (λ (z : Option Balance). (counted_up z p.ring).token) balance;
      sends = omega arith;
      uncounted = (le-ltb p.phases.cycle p.phases.cycle (omega arith), tt);
    })
body-quiet from (body.Put target place reference) p is h reads =
    idle-quiet
    (noted-keeps (λ (z : Heap). z.grey ≡ p.heap.grey) p.own p.heap target reference (λ _. refl)
    refl)
    refl refl (omega arith)
body-quiet from (body.Fetch target label offset count) p is h reads =
    let says : Body =
    body.Post label [] (fetched (object_at p.heap target) offset count) in
    let balance : balance_of p.phases.cycle p.phases.cycle says ≡ Some Recent =
    balance-now p.phases.cycle says refl in
    record {
      grey = refl;
      cycle = refl;
      colour = ap (λ (z : Option Balance). (counted_up z p.ring).colour) balance;
      owes = ap (λ (z : Option Balance). (counted_up z p.ring).earlier) balance;
      token = ap (λ (z : Option Balance). (counted_up z p.ring).token) balance;
      sends = omega arith;
      uncounted = (le-ltb p.phases.cycle p.phases.cycle (omega arith), tt);
    }
body-quiet from body.Begin p is h reads = absurd cc
body-quiet from (body.Token t) p is h reads = absurd cc
body-quiet from (body.Mark target) p is h reads = absurd cc
body-quiet from body.Ended p is h reads = absurd cc
body-quiet from body.Swept p is h reads = absurd cc
body-quiet from b p is h reads = idle-quiet refl refl refl (omega arith)

pub reference-quiet : (from number : ℕ) (b : Body) (p : LocalState) → is_reference b ≡ true
    → Finds p b
    → ((target : Ref) (place label : ℕ) → b ≡ body.Get target place label
    → Reads p target (place_of (object_at p.heap target) place))
    → Quiet b p (taken_in p from number p.phases.cycle b).local
    (taken_in p from number p.phases.cycle b).sends
unfolding taken_in settled
reference-quiet from number b p is h reads =
    let cycle : ℕ = p.phases.cycle in
    let here : joined p cycle ≡ at_rest p =
    cond-false (ltb cycle cycle) (join p cycle) (at_rest p) (le-ltb cycle cycle (omega arith)) in
    let vouches : take_carried cycle b p ≡ at_rest (asking p (carried b)) =
    ap (λ (due : Bool). see_to due (carried b) p) (le-ltb cycle cycle (omega arith))
    ∙ vouch-quiet (carried b) p h.opened h.quiet in
    let w : Work = then (at_rest (asking p (carried b))) (take_body from cycle b) in
    let before : Quiet b p w.local w.sends = body-quiet from b p is h reads in
    subst (λ (z : Work). Quiet b p (then z (settled from number cycle b)).local
    (then z (settled from number cycle b)).sends) (sym here)
    (subst (λ (z : Work).
    Quiet b p (counted from number cycle b (then z (take_body from cycle b))).local
    (counted from number cycle b (then z (take_body from cycle b))).sends) (sym vouches)
    (counted-quiet from number b p w is before.cycle before))

-- a Begin of the cycle or of one before
pub begin-quiet : (p : LocalState) (from number stamp : ℕ) → stamp ≤ p.phases.cycle
    → Quiet body.Begin p (taken_in p from number stamp body.Begin).local
    (taken_in p from number stamp body.Begin).sends
unfolding taken_in settled count_in take_body
begin-quiet p from number stamp here =
    subst (λ (z : Work). Quiet body.Begin p (then z (settled from number stamp body.Begin)).local
    (then z (settled from number stamp body.Begin)).sends)
    (sym (cond-false (ltb p.phases.cycle stamp) (join p stamp) (at_rest p) (le-ltb _ _ here)))
    (subst (λ (z : Work). Quiet body.Begin p
    (counted from number stamp body.Begin (then z (take_body from stamp body.Begin))).local
    (counted from number stamp body.Begin (then z (take_body from stamp body.Begin))).sends)
    (sym (see_to-none (ltb stamp p.phases.cycle) p))
    (idle-quiet refl refl refl (omega arith)))

-- ---- marking has terminated

-- every node has joined and has nothing grey, and no counted message is in flight
pub record Calm (n cycle : ℕ) (c : Cut) : Type 0 where
  pub joined : (i : ℕ) → i < n → cycle_of c i ≡ cycle
  pub calm : (i : ℕ) → i < n → (c i).local.heap.grey ≡ []
  pub delivered : (from to place : ℕ) (x : Message) → IsInFlight c from to place x
      → is_counted cycle x ≡ false

-- a step after which this is so
calm-after : {n cycle : ℕ} {c d : Cut} {i : ℕ} {q : LocalState} {ms : List (ℕ × Message)}
    → Turn c d i q ms → ((j : ℕ) → cycle_of d j ≡ cycle_of c j)
    → ((j : ℕ) → (d j).local.heap.grey ≡ (c j).local.heap.grey)
    → AllByRecursion (λ m. is_counted cycle m.1 ≡ false) ms → Calm n cycle c → Calm n cycle d
calm-after {cycle = cycle} {ms = ms} turn cycles grey uncounted h = record {
  joined = λ j inside. cycles j ∙ h.joined j inside;
  calm = λ j inside. grey j ∙ h.calm j inside;
  delivered = λ from to place x flight. ⊎_elim {C = is_counted cycle x ≡ false}
      (λ before. h.delivered from to place x before)
      (λ new. all-among (λ m. is_counted cycle m.1 ≡ false) ms uncounted (to, x) new.1)
      (flew turn from to place x flight);
}

-- ---- what messages carry is marked

record Settled (shape : Shaped) (w : World) : Type 0 where
  reached : Reached shape w
  marking : Marking (phases_of (now w) 0)
  calm : Calm shape.nodes (cycle_of (now w) 0) (now w)

module _ {shape : Shaped} {w : World} (s : Settled shape w) where
  abbrev n : ℕ
  n = shape.nodes

  abbrev c : Cut
  c = now w

  inv : Inv shape c
  inv = (reached-whole s.reached).inv

  opened : (i : ℕ) → i < n → is_open (c i).local ≡ true
  opened i inside = marking-open inv s.marking (s.calm.joined i inside)

  -- no Mark is in flight
  marked : (r : Ref) → Covered c r
      → (o : Object) × (slot_at (c r.node).local.heap r.slot ≡ Occupied r.generation o)
      × (o.mark ≡ cycle_of c 0)
  marked r (is_marked o there mark) = (o, there, mark)
  marked r (is_asked from place flight) =
      absurd
      (both_ways _ (s.calm.delivered from r.node place _ flight)
      (eq-eqb (cycle_of c 0) (cycle_of c 0) refl))

  marked-rests : (i : ℕ) → i < n → (r : Ref) (o : Object)
      → slot_at (c r.node).local.heap r.slot ≡ Occupied r.generation o → o.mark ≡ cycle_of c 0
      → wakes (c i).local.own (cycle_of c i) (c i).local.heap r ≡ false
  marked-rests i inside r o there mark = ⊎_elim
      {C = wakes (c i).local.own (cycle_of c i) (c i).local.heap r ≡ false}
      (λ here.
      let at : r.node ≡ i = eqb-true r.node (c i).local.own here ∙ inv.base.own i inside in
      let found : object_at (c i).local.heap r ≡ Some o =
      object-there (slot_at (c i).local.heap r.slot) r.generation o
      (ap (λ (k : ℕ). slot_at (c k).local.heap r.slot) (sym at) ∙ there) in
      ap (λ (b : Bool). b && is_unmarked (cycle_of c i) (object_at (c i).local.heap r)) here
      ∙ ap (is_unmarked (cycle_of c i)) found
      ∙ not_from_true _ (eq-eqb o.mark (cycle_of c i) (mark ∙ sym (s.calm.joined i inside))))
      (λ far.
      ap (λ (b : Bool). b && is_unmarked (cycle_of c i) (object_at (c i).local.heap r)) far)
      (cases_Bool (r.node == (c i).local.own))

  covered-rests : (i : ℕ) → i < n → (r : Ref) → Covered c r
      → wakes (c i).local.own (cycle_of c i) (c i).local.heap r ≡ false
  covered-rests i inside r covered =
      let m = marked r covered in marked-rests i inside r m.0 m.1 m.2

  -- a held reference is marked, or was asked for
  held-rests : (i : ℕ) → i < n → (r : Ref) → Holds (c i).local r
      → wakes (c i).local.own (cycle_of c i) (c i).local.heap r ≡ false
  held-rests i inside r (holds_marked o here there mark) =
      marked-rests i inside r o
      (ap (λ (k : ℕ). slot_at (c k).local.heap r.slot) (here ∙ inv.base.own i inside) ∙ there)
      (mark ∙ s.calm.joined i inside)
  held-rests i inside r (holds_asked far asked) =
      ap (λ (b : Bool). b && is_unmarked (cycle_of c i) (object_at (c i).local.heap r))
      (ne_eqb r.node (c i).local.own far)

  held-known : (p : LocalState) (r : Ref) → Holds p r → unasked p.own p.asked (r ∷ []) ≡ []
  held-known p r held =
      cond-true (r.node == p.own || is_in r p.asked) [] (r ∷ unasked p.own (p.asked ++ r ∷ []) [])
      (by held)
    where
      by : Holds p r → (r.node == p.own || is_in r p.asked) ≡ true
      by (holds_marked o here there mark) = or_left _ _ (eq-eqb r.node p.own here)
      by (holds_asked far asked) = or_right _ _ asked

  -- what a place of a covered object holds
  reads : (i place : ℕ) → i < n → (target : Ref) → target.node ≡ i → Covered c target
      → Reads (c i).local target (place_of (object_at (c i).local.heap target) place)
  reads i place inside target here covered =
      let p : LocalState = (c i).local in
      let m = marked target covered in
      let o : Object = m.0 in
      let there : slot_at p.heap target.slot ≡ Occupied target.generation o =
      ap (λ (k : ℕ). slot_at (c k).local.heap target.slot) (sym here) ∙ m.1 in
      let found : object_at p.heap target ≡ Some o =
      object-there (slot_at p.heap target.slot) target.generation o there in
      let holds : IfAny (Holds p) (get_or o.places place None) =
      inv.held.blacks i target.slot target.generation o (opened i inside) there
      (m.2 ∙ sym (s.calm.joined i inside))
      (λ grey. subst (λ (z : List ℕ). Among target.slot z)
      (s.calm.calm i inside) grey) place in
      subst (Reads p target) (ap (λ z. place_of z place) (sym found))
      (by (get_or o.places place None) holds)
    where
      by : (v : Option Ref) → IfAny (Holds (c i).local) v → Reads (c i).local target v
      by None holds = record {
        own = eq-eqb _ _ (here ∙ sym (inv.base.own i inside));
        quiet = tt;
        known = refl;
      }
      by (Some r) holds = record {
        own = eq-eqb _ _ (here ∙ sym (inv.base.own i inside));
        quiet = (held-rests i inside r holds, tt);
        known = held-known (c i).local r holds;
      }

  -- ---- a message that isn't the token

  abbrev IsQuiet : ℕ → ℕ → ℕ → ℕ → Body → Type 0
  IsQuiet from to number stamp b =
      Quiet b (c to).local (taken_in (c to).local from number stamp b).local
      (taken_in (c to).local from number stamp b).sends

  -- A message to a node isn't counted, and what it carries is covered if it is of the cycle.
  record IsCovered (to stamp : ℕ) (b : Body) : Type 0 where
    inside : to < n
    uncounted : is_counted (cycle_of c 0) (record { stamp = stamp; body = b }) ≡ false
    covered : stamp ≡ cycle_of c 0 → AllByRecursion (Covered c) (carried b)

  -- a message with references is of the cycle
  quiet-reference : {to stamp : ℕ} {b : Body} (from number : ℕ) → IsCovered to stamp b
      → is_reference b ≡ true → StampFits (phases_of c 0) stamp
      → ((target : Ref) (place label : ℕ) → b ≡ body.Get target place label
      → (target.node ≡ to) × (AllByRecursion (Covered c) (carried b) → Covered c target))
      → IsQuiet from to number stamp b
  quiet-reference {to} {stamp} {b} from number m is (inl now_so) target =
      subst (λ (z : ℕ). IsQuiet from to number z b) (s.calm.joined to m.inside ∙ sym now_so)
      (reference-quiet from number b (c to).local is
      (record {
        opened = opened to m.inside;
        quiet = all-map (Covered c)
            (λ r. wakes (c to).local.own (cycle_of c to) (c to).local.heap r ≡ false)
            (covered-rests to m.inside) (carried b) (m.covered now_so);
      })
      (λ r place label e.
      let t = target r place label e in reads to place m.inside r t.0 (t.1 (m.covered now_so))))
  quiet-reference {to} {stamp} {b} from number m is (inr before) target =
      absurd
      (both_ways _ m.uncounted
      (reference-counts (cycle_of c 0) stamp b is
      ∙ lt-ltb stamp (cycle_of c 0) (omega (arith, before.1))))

  quiet-body : {to stamp : ℕ} (from number : ℕ) (b : Body) → IsCovered to stamp b
      → BodyFits n (phases_of c) from to stamp b → is_token b ≡ false
      → IsQuiet from to number stamp b
  quiet-body {to} {stamp} from number body.Begin m f plain =
      begin-quiet (c to).local from number stamp (omega (arith, f.1, s.calm.joined to m.inside))
  quiet-body from number (body.Token t) m f plain = absurd cc
  quiet-body from number (body.Mark r) m f plain =
      absurd (both_ways _ m.uncounted (eq-eqb _ _ f.2))
  quiet-body from number (body.Give label reference) m f plain =
      quiet-reference from number m refl f (λ r p l e. absurd cc)
  quiet-body from number (body.Put target place r) m f plain =
      quiet-reference from number m refl f.1 (λ _ p l e. absurd cc)
  quiet-body from number (body.Post label references bytes) m f plain =
      quiet-reference from number m refl f (λ r p l e. absurd cc)
  quiet-body from number (body.Fetch target label offset count) m f plain =
      quiet-reference from number m refl f.1 (λ r p l e. absurd cc)
  quiet-body from number (body.Get target place label) m f plain =
      quiet-reference from number m refl f.1
      (λ r p l e.
      (let same : target ≡ r = cc in
      (ap (λ (z : Ref). z.node) (sym same) ∙ f.0, λ all. subst (Covered c) same all.0)))
  quiet-body from number body.Ended m f plain =
      absurd (omega (arith, s.marking, f.1))
  quiet-body from number body.Swept m f plain =
      absurd (omega (arith, s.marking, f.3, inv.phased.swept from, inv.phased.first from))

  link-quiet : (from to : ℕ) (h : Link shape w from to) → is_token (message_of h).body ≡ false
      → Quiet (message_of h).body (c to).local (effect_there h).local (effect_there h).sends
  link-quiet from to h plain =
      let x : Message = message_of h in
      let flight = (first-of h) in
      let covered : IsCovered to x.stamp x.body = record {
        inside = h.inside;
        uncounted = s.calm.delivered from to (taken c from to) x flight;
        covered = inv.cover.messages s.marking from to (taken c from to) x flight;
      } in
      quiet-body from (taken c from to + 1) x.body covered
      (inv.messages.fits from to (taken c from to) x flight) plain

-- no token moves while another message is received
token-stays : {shape : Shaped} {c d : Cut} {from to : ℕ} {x : Message} → Took shape c d from to x
    → ((j : ℕ) → (d j).local.ring.token ≡ (c j).local.ring.token) → is_token x.body ≡ false
    → (t : Token) (z : Spot) → IsAt c t z → IsAt d t z
token-stays took same plain t (at_node i) (is_held i0 held) = is_held i0 (same i0 ∙ held)
token-stays {d = d} took same plain t (on_way f g place)
    (is_sent f0 g0 place0 stamp flight) =
    is_sent f0 g0 place0 stamp
    (⊎_elim {C = IsInFlight d f0 g0 place0 (record { stamp = stamp; body = body.Token t })}
    (λ stays. stays)
    (λ received.
    absurd (both_ways _ plain (sym (ap (λ (y : Message). is_token y.body) received.2))))
    (flies-on took f0 g0 place0 (record { stamp = stamp; body = body.Token t }) flight))

-- ---- the search

-- what else is in flight comes first
abbrev soon : Shaped → ℕ → Hunt
soon shape cycle = record {
  shape = shape;
  cycle = cycle;
  spare = 0;
  left = λ w. flight shape.nodes (now w);
  Keeps = λ _ w. Calm shape.nodes cycle (now w);
}

receive-soon : {w : World} {budget from to : ℕ} (shape : Shaped) (cycle : ℕ)
    → Going (soon shape cycle) w budget → (h : Link shape w from to)
    → is_token (message_of h).body ≡ false → Onward shape.nodes (Hunted (soon shape cycle)) w budget
receive-soon {w} {budget} {from} {to} shape cycle g h plain =
    let m : ℕ = shape.nodes in
    let b : Cut = now w in
    let v : World = run w (next_steps m w) in
    let settled : Settled shape w = record {
      reached = g.known.reached;
      marking = g.marking;
      calm = subst (λ (z : ℕ). Calm m z b) (sym g.known.cycle) g.known.keeps;
    } in
    let ms : List (ℕ × Message) = (effect_there h).sends in
    let quiet = link-quiet settled from to h plain in
    let s = g.spends in
    let enough = s.enough in
    let few : length ms + 1 ≤ flight m b =
    omega (arith, quiet.sends, (took-change (would-take h)).flown) in
    let moved = link-brought h
    (numbers-fit b to ms
    (room-less b (budget + m + 0) (length ms) (omega (arith, few, enough)) g.room)) in
    let took = link-took h moved in
    let flown = (took-change took).flown in
    let less : flight m (now v) + length ms + 1 ≤ flight m b = omega (arith, quiet.sends, flown) in
    let same : SameRing b (now v) = ring-turn moved.turn quiet.cycle quiet.colour quiet.owes in
    let stays : (t : Token) (z : Spot) → IsAt b t z → IsAt (now v) t z =
    token-stays took (at_turn (λ j z. z.local.ring.token ≡ (b j).local.ring.token) moved.turn
    quiet.token (λ j _. refl)) plain in
    let calm : Calm m cycle (now v) =
    calm-after moved.turn same.cycle
    (at_turn (λ j z. z.local.heap.grey ≡ (b j).local.heap.grey) moved.turn quiet.grey
    (λ j _. refl))
    (subst (λ (z : ℕ). AllByRecursion (λ y. is_counted z y.1 ≡ false) ms)
    (g.known.keeps.joined to h.inside) quiet.uncounted) g.known.keeps in
    let rest : ℕ = budget - (length ms + 1) in
    record {
      goes = moved.goes;
      rest = rest;
      less = omega (arith, few, enough);
      then = hunt-on v rest (λ k. k)
          (record { reached = moved.reached; cycle = same.cycle 0 ∙ g.known.cycle; keeps = calm })
          (room-after (budget + m + 0) (rest + m + 0) moved.turn
          (omega (arith, few, enough)) g.room)
          (λ _. record {
            token = s.token;
            spot = s.spot;
            there = stays s.token s.spot s.there;
            stage = s.stage;
            is =
                stage-same s.stage same
                (subst (λ (z : ℕ). Stage m z b (place_of_spot s.spot) s.token s.stage)
                (sym (same.cycle 0)) s.is);
            near = s.near;
            enough = omega (arith, enough, less);
          });
    }

soon-rules : (shape : Shaped) (cycle : ℕ) → Rules (soon shape cycle)
soon-rules shape cycle = record {
  more = λ k l w le calm. calm;
  idle = λ w i q ms k idle.
      calm-after idle.turn idle.cycle idle.grey (idle.uncounted cycle) k.keeps;
  less = λ w i q ms idle load. omega (arith, idle.flown, load);
  receives = λ w budget from to g h either. ⊎_elim
      {C = Onward shape.nodes (Hunted (soon shape cycle)) w budget}
      (λ plain. receive-soon shape cycle g h plain)
      (λ ahead.
      absurd
      (let l = stamp-latest (would-take h) in
      omega (arith, g.known.keeps.joined to h.inside, g.known.cycle, l, ahead)))
      either;
  scans_one = λ w budget i g inside chosen grey.
      absurd
      (both_ways _ (not-true _ grey)
      (ap (λ (k : List ℕ). length k == 0) (g.known.keeps.calm i inside)));
}

pub end-comes : (shape : Shaped) (w : World) → Reached shape w
    → Terminated shape.nodes (cycle_of (now w) 0) (now w)
    → HasRoom (6 * shape.nodes + flight shape.nodes (now w) + shape.nodes) (now w)
    → Reaches shape.nodes (λ v. HasEnded (cycle_of (now w) 0) (now v))
    (6 * shape.nodes + flight shape.nodes (now w)) w
end-comes shape w r t room =
    let n : ℕ = shape.nodes in
    let cycle : ℕ = cycle_of (now w) 0 in
    let most : ℕ = 6 * n + flight n (now w) in
    let inv : Inv shape (now w) = (reached-whole r).inv in
    let joined : (i : ℕ) → i < n → cycle_of (now w) i ≡ cycle =
    λ i inside. (omega (arith, t.joined i inside, latest inv i inside)) in
    reaches-as most w
    (λ v (o : Over (soon shape cycle) v). record { current = o.known.cycle; ended = o.ended })
    (hunted w most (soon-rules shape cycle)
    (hunt-on w most (λ k. k)
    (record {
      reached = r;
      cycle = refl;
      keeps = record {
        joined = joined;
        calm = λ i inside. t.calm i inside (joined i inside);
        delivered = t.delivered;
      };
    })
    (room-less (now w) (most + n) (most + n + 0) (omega arith) room)
    (λ marking. budget-new (flight n (now w)) most inv marking (omega arith))))
