-- The clause of the invariant that every event keeps by itself: which nodes there are, and that
-- nothing is received that wasn't sent.
use Rattle.std.proofs.Common.{◌≡◌, ◌≢◌, ℕ, ◌+◌, ◌<◌, ◌≤◌, Bool, true, List, [], length, length-set, map, get_or, Ok, refl, sym, ap, ◌∙◌, subst, ⊎_elim, arith}
use Rattle.std.proofs.lemmas.Bool.{cases_lt, and_parts, and_from, eq-eqb, lt-ltb, ne_eqb, not_from_false, cond_both}
use Rattle.std.proofs.lemmas.List.{get_or_past, length-replicate}
use Rattle.std.proofs.lemmas.List.FromFn.{get_or-map-range_with_len, length-map-range_with_len}
use Rattle.std.proofs.lemmas.Option.{slice_get_within}
use Rattle.std.proofs.Math.Path.{fun_ext}
use Rattle.ids.specs.Limits.{Shaped, IsShape, plain_shape}
use Rattle.msg.specs.declared.body.Message.{Message}
use Rattle.model.specs.declared.event.Event.{Event}
use Rattle.model.specs.declared.event.Event.TheVariants as event
use Rattle.model.specs.declared.event.Answer.{Answer}
use Rattle.model.specs.declared.step.Step.{Step}
use Rattle.model.specs.Checks.{AllPass}
use Rattle.model.specs.State.{LocalState, NodeState, new_node, no_node, node_at, sent_to, got_from}
use Rattle.model.specs.Effects.{Effect}
use Rattle.model.specs.Steps.{act, tests, made, taken_in, is_own, is_addressed}
use Rattle.model.specs.World.{new_world, new_nodes, run}
use Rattle.model.specs.Cuts.{Cut, cut, taken, IsInFlight, Becomes, PlainStep, acts, delivers, PlainRun, still, further}
use Rattle.model.proofs.Lookups.{at_set_if, get_or-replicate_any}
use Rattle.model.proofs.Leaving.{Stands, counted_in, own-stands, taken-stands}
use Rattle.laws.proofs.StepFacts.{Delivery, act-ok, Receipt, repeated, next, receipt-cases, length-append_all}
use Rattle.laws.proofs.Cuts.{cuts-extend}
use Rattle.laws.proofs.Turns.{Turn, at_becomes, at_turn, sent-grows}
use Rattle.laws.proofs.Lookups.{set-no_fewer, nothing-below-zero}
use Rattle.laws.proofs.Invariant.{Base}

-- a node is one of the space if it has something that the default node lacks
pub inside-where : {shape : Shaped} {c : Cut} (i : ℕ) (P : NodeState → Type 0) → Base shape c
    → P (c i) → (P no_node → ⊥) → i < shape.nodes
inside-where {shape = shape} i P base has none = ⊎_elim {C = i < shape.nodes}
    (λ inside. inside)
    (λ past. absurd (none (subst P (base.none i past) has)))
    (cases_lt i shape.nodes)

-- the default node past the end of a list refuses every event, and receives nothing
pub no-node-refuses : (e : Event) → is_own e ≡ true → AllPass (tests no_node.local e) → ⊥
no-node-refuses (event.Reclaim scope) own passed = let never = passed.0 in absurd cc
no-node-refuses event.Begin own passed = let never = passed.0 in absurd cc
no-node-refuses event.Scan own passed = let never = passed.0 in absurd cc
no-node-refuses event.Pass own passed = let never = passed.0 in absurd cc
no-node-refuses (event.Sweep count) own passed =
    nothing-below-zero 0 passed.0
no-node-refuses (event.Next from) own passed = nothing-below-zero from passed.0
no-node-refuses (event.Data d) own passed = absurd cc
no-node-refuses (event.Ack a) own passed = absurd cc
no-node-refuses (event.Alloc register places) own passed = nothing-below-zero register passed.0
no-node-refuses (event.Copy register source) own passed = nothing-below-zero register passed.0
no-node-refuses (event.Drop register) own passed = nothing-below-zero register passed.0
no-node-refuses (event.Resolve register reference) own passed =
    nothing-below-zero register passed.0
no-node-refuses (event.Load register object place) own passed = nothing-below-zero register passed.0
no-node-refuses (event.Store object place register) own passed = nothing-below-zero object passed.0
no-node-refuses (event.Clear object place) own passed = nothing-below-zero object passed.0
no-node-refuses (event.Word object) own passed = nothing-below-zero object passed.0
no-node-refuses (event.SetWord object word) own passed = nothing-below-zero object passed.0
no-node-refuses (event.SetBytes object bytes) own passed = nothing-below-zero object passed.0
no-node-refuses (event.Patch object offset bytes) own passed = nothing-below-zero object passed.0
no-node-refuses (event.Give to label register) own passed = nothing-below-zero to passed.0
no-node-refuses (event.Post to label first count bytes) own passed =
    nothing-below-zero to passed.0
no-node-refuses (event.Fetch object label offset count) own passed =
    nothing-below-zero object passed.0
no-node-refuses (event.Accept register) own passed = nothing-below-zero register passed.0
no-node-refuses (event.Put object place register) own passed = nothing-below-zero object passed.0
no-node-refuses (event.Get object place label) own passed = nothing-below-zero object passed.0

pub no-node-takes_nothing : (from to : ℕ) → is_addressed no_node.local from to ≡ true → ⊥
no-node-takes_nothing from to h = nothing-below-zero from (and_parts _ _ (and_parts _ _ h).1).0

-- a node that changes as every event may change it
pub record BaseStep (shape : Shaped) (c d : Cut) (i : ℕ) (q : LocalState) (ms : List (ℕ × Message))
    : Type 0 where
  pub inside : i < shape.nodes
  pub turn : Turn c d i q ms
  pub own : q.own ≡ (c i).local.own
  pub same_shape : q.shape ≡ (c i).local.shape
  pub heard : length q.got ≡ length (c i).local.got
  pub within : (from : ℕ) → got_from q from ≤ length (sent_to (c from) i)

pub base-step : {shape : Shaped} {c d : Cut} {i : ℕ} {q : LocalState} {ms : List (ℕ × Message)}
    → BaseStep shape c d i q ms → Base shape c → Base shape d
base-step {shape = shape} {c = c} {i = i} {ms = ms} h base = record {
  own = at_turn (λ j s. j < shape.nodes → s.local.own ≡ j) h.turn
      (λ inside. h.own ∙ base.own i inside) (λ j _. base.own j);
  shapes = at_turn (λ j s. j < shape.nodes → s.local.shape ≡ shape) h.turn
      (λ inside. h.same_shape ∙ base.shapes i inside) (λ j _. base.shapes j);
  width = at_turn (λ j s. j < shape.nodes → length s.sent ≡ shape.nodes) h.turn
      (λ inside. length-append_all (c i).sent ms ∙ base.width i inside) (λ j _. base.width j);
  heard = at_turn (λ j s. j < shape.nodes → length s.local.got ≡ shape.nodes) h.turn
      (λ inside. h.heard ∙ base.heard i inside) (λ j _. base.heard j);
  none = at_turn (λ j s. shape.nodes ≤ j → s ≡ no_node) h.turn
      (λ past. absurd (omega (arith, past, h.inside))) (λ j _. base.none j);
  within = λ from to.
      let before =
      at_turn (λ j s. got_from s.local from ≤ length (sent_to (c from) j)) h.turn
      (h.within from) (λ j _. base.within from j) to in
      omega (arith, before, sent-grows h.turn from to);
}

-- a node that receives nothing
pub unheard : {shape : Shaped} {c d : Cut} {i : ℕ} {q : LocalState} {ms : List (ℕ × Message)}
    → i < shape.nodes → Turn c d i q ms → q.own ≡ (c i).local.own → q.shape ≡ (c i).local.shape
    → q.got ≡ (c i).local.got → Base shape c → BaseStep shape c d i q ms
unheard {c = c} {i = i} inside turn own same_shape got base = record {
  inside = inside;
  turn = turn;
  own = own;
  same_shape = same_shape;
  heard = ap length got;
  within = λ from.
      subst (λ (z : List ℕ). get_or z from 0 ≤ length (sent_to (c from) i)) (sym got)
      (base.within from i);
}

-- nothing is received
pub own-heard : {p q : LocalState} → Stands p q → (from : ℕ) → got_from p from ≤ got_from q from
own-heard {p = p} h from =
    subst (λ (z : List ℕ). got_from p from ≤ get_or z from 0) (sym h.got) (omega arith)

-- one message is received
pub taken-heard : {q : LocalState} (p : LocalState) (from number : ℕ)
    → Stands (counted_in p from number) q → got_from p from ≤ number → (j : ℕ)
    → got_from p j ≤ got_from q j
taken-heard p from number h more j =
    subst (λ (z : List ℕ). got_from p j ≤ get_or z j 0) (sym h.got)
    (set-no_fewer p.got from number more j)

base-act : {shape : Shaped} {c d : Cut} (i : ℕ) (e : Event) (t : NodeState) (a : Answer)
    → is_own e ≡ true → act (c i) e ≡ Ok (t, a) → Becomes c d i t → Base shape c → Base shape d
base-act {shape = shape} {c = c} {d = d} i e t a own answered becomes base =
    let p : LocalState = (c i).local in
    let found = act-ok (c i) e t a answered in
    let x : Effect = made p (map length (c i).sent) e in
    let stands : Stands p x.local = own-stands p (map length (c i).sent) e own in
    let step : BaseStep shape c d i x.local x.sends = record {
      inside = inside-where i (λ z. AllPass (tests z.local e)) base found.passed
          (no-node-refuses e own);
      turn = record {
        becomes = subst (λ (z : NodeState). Becomes c d i z) found.state becomes;
        heard = own-heard stands;
      };
      own = stands.own;
      same_shape = stands.shape;
      heard = ap length stands.got;
      within = λ from.
          subst (λ (z : List ℕ). get_or z from 0 ≤ length (sent_to (c from) i)) (sym stands.got)
          (base.within from i);
    } in
    base-step step base

-- the message in flight that is next in turn
abbrev pub first_in_flight : Cut → ℕ → ℕ → Message → Delivery
first_in_flight c from to x = record {
  from = from;
  to = to;
  number = taken c from to + 1;
  message = x;
}

base-receive : {shape : Shaped} {c d : Cut} {from to : ℕ} {x : Message} {t : NodeState}
    {a : Answer} → IsInFlight c from to (taken c from to) x
    → Receipt (c to) (first_in_flight c from to x) t a → Becomes c d to t → Base shape c
    → Base shape d
base-receive {shape = shape} {c = c} flight (repeated same says) becomes base =
    subst (λ (z : Cut). Base shape z)
    (sym (fun_ext (at_becomes (λ j s. s ≡ c j) becomes same (λ j _. refl)))) base
base-receive {shape = shape} {c = c} {d = d} {from = from} {to = to} {x = x} flight
    (next turn may found) becomes base =
    let p : LocalState = (c to).local in
    let number : ℕ = taken c from to + 1 in
    let y : Effect = taken_in p from number x.stamp x.body in
    let takes : Stands (counted_in p from number) y.local =
    taken-stands p from number x.stamp x.body in
    let there : taken c from to < length (sent_to (c from) to) =
    slice_get_within (sent_to (c from) to) (taken c from to) x flight.there in
    let step : BaseStep shape c d to y.local y.sends = record {
      inside = inside-where to (λ z. is_addressed z.local from to ≡ true) base found.passed.0
          (no-node-takes_nothing from to);
      turn = record {
        becomes = subst (λ (z : NodeState). Becomes c d to z) found.state becomes;
        heard = taken-heard p from number takes (omega arith);
      };
      own = takes.own;
      same_shape = takes.shape;
      heard = ap length takes.got ∙ length-set p.got from number;
      within = λ j.
          subst (λ (z : List ℕ). get_or z j 0 ≤ length (sent_to (c j) to)) (sym takes.got)
          (at_set_if (λ z. z ≤ length (sent_to (c j) to)) p.got from j number 0
          (λ e. subst (λ (k : ℕ). number ≤ length (sent_to (c k) to)) e (omega (arith, there)))
          (base.within j to));
    } in
    base-step step base

base-plain : {shape : Shaped} {c d : Cut} → PlainStep c d → Base shape c → Base shape d
base-plain (acts i e s a own answered becomes) base = base-act i e s a own answered becomes base
base-plain {c = c} (delivers from to x s a flight answered becomes) base =
    base-receive flight (receipt-cases (c to) (first_in_flight c from to x) s a answered) becomes
    base

base-run : {shape : Shaped} {c d : Cut} → PlainRun c d → Base shape c → Base shape d
base-run {shape = shape} (still same) base =
    subst (λ (z : Cut). Base shape z) (sym (fun_ext same)) base
base-run (further before s) base = base-plain s (base-run before base)

-- ---- a new space

pub new-at : (shape : Shaped) (choice : ℕ → Bool) (i : ℕ)
    → cut (new_world shape) choice i ≡ node_at (new_nodes shape) i
new-at shape choice i =
    cond_both (choice i) (node_at (new_nodes shape) i) (node_at (new_nodes shape) i)
    (λ z. z ≡ node_at (new_nodes shape) i) (λ _. refl) (λ _. refl)

pub new-inside : (shape : Shaped) (choice : ℕ → Bool) (i : ℕ) → i < shape.nodes
    → cut (new_world shape) choice i ≡ new_node shape i
new-inside shape choice i inside =
    new-at shape choice i
    ∙ get_or-map-range_with_len (new_node shape) 0 shape.nodes i i no_node inside (omega arith)

pub new-past : (shape : Shaped) (choice : ℕ → Bool) (i : ℕ) → shape.nodes ≤ i
    → cut (new_world shape) choice i ≡ no_node
new-past shape choice i past =
    let all : length (new_nodes shape) ≤ i =
    omega (arith, past, length-map-range_with_len (new_node shape) 0 shape.nodes) in
    new-at shape choice i ∙ get_or_past (new_nodes shape) i no_node all

-- each of its nodes is new
pub at-new : (shape : Shaped) (choice : ℕ → Bool) (i : ℕ) (P : NodeState → Type 0)
    → ((z : Shaped) (own : ℕ) → P (new_node z own)) → P (cut (new_world shape) choice i)
at-new shape choice i P holds = ⊎_elim {C = P (cut (new_world shape) choice i)}
    (λ inside. subst P (sym (new-inside shape choice i inside)) (holds shape i))
    (λ past.
    subst P (sym (new-past shape choice i past))
    (holds (plain_shape 0 0 0) 1))
    (cases_lt i shape.nodes)

pub new-base : (shape : Shaped) (choice : ℕ → Bool) → Base shape (cut (new_world shape) choice)
new-base shape choice =
    let c : Cut = cut (new_world shape) choice in
    record {
      own = λ i inside. ap (λ (z : NodeState). z.local.own) (new-inside shape choice i inside);
      shapes = λ i inside. ap (λ (z : NodeState). z.local.shape) (new-inside shape choice i inside);
      width = λ i inside.
          ap (λ (z : NodeState). length z.sent) (new-inside shape choice i inside)
          ∙ length-replicate shape.nodes [];
      heard = λ i inside.
          ap (λ (z : NodeState). length z.local.got) (new-inside shape choice i inside)
          ∙ length-replicate shape.nodes 0;
      none = new-past shape choice;
      within = λ from to.
          at-new shape choice to (λ s. got_from s.local from ≤ length (sent_to (c from) to))
          (λ z own.
          subst (λ (k : ℕ). k ≤ length (sent_to (c from) to))
          (sym (get_or-replicate_any z.nodes from 0)) (omega arith));
    }

-- every cut of a space has this clause
pub all-base : (shape : Shaped) → IsShape shape → (steps : List Step) (choice : ℕ → Bool)
    → Base shape (cut (run (new_world shape) steps) choice)
all-base shape within steps choice =
    let before = cuts-extend shape within [] steps choice in
    base-run before.1 (new-base shape before.0)

-- a message from another node of the space to this one
pub addressed-between : (p : LocalState) (from to count : ℕ) → p.own ≡ to → p.shape.nodes ≡ count
    → from < count → from ≢ to → is_addressed p from to ≡ true
addressed-between p from to count own nodes there apart =
    and_from _ _ (eq-eqb to p.own (sym own))
    (and_from _ _ (lt-ltb from p.shape.nodes (omega (arith, there, nodes)))
    (not_from_false _ (ne_eqb from p.own (λ e. apart (e ∙ own)))))

-- what one node of a space gives another is addressed to that one
pub between-nodes : {shape : Shaped} {c : Cut} → Base shape c → (from to : ℕ)
    → from < shape.nodes → to < shape.nodes → from ≢ to → is_addressed (c to).local from to ≡ true
between-nodes {shape = shape} {c = c} base from to f t apart =
    addressed-between (c to).local from to shape.nodes (base.own to t)
    (ap (λ (z : Shaped). z.nodes) (base.shapes to t)) f apart
