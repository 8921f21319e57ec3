-- What is good in a cut, and that each plain step keeps it.
use Rattle.std.proofs.Common.{◌≡◌, ℕ, ◌+◌, ◌<◌, ◌≤◌, leb-true, true, List, [], length, map, refl, sym, ◌∙◌, subst, ⊎_elim, inl, inr, arith, Some}
use Rattle.std.proofs.lemmas.Bool.{and_parts, or_cases}
use Rattle.std.proofs.Math.Path.{fun_ext}
use Rattle.ids.specs.Limits.{Shaped}
use Rattle.ids.specs.declared.names.Ref.{Ref}
use Rattle.msg.specs.declared.body.Body.{Body}
use Rattle.msg.specs.declared.body.Body.TheVariants as body
use Rattle.msg.specs.declared.body.Message.{Message}
use Rattle.model.specs.declared.event.Event.{Event}
use Rattle.model.specs.Checks.{AllPass}
use Rattle.model.specs.State.{LocalState, NodeState}
use Rattle.model.specs.Heaps.{new_reference}
use Rattle.model.specs.Effects.{Effect}
use Rattle.model.specs.Steps.{tests, made, may_reach, may_take, taken_in, is_addressed}
use Rattle.model.specs.Cuts.{Cut, taken, IsInFlight, Becomes, PlainStep, acts, delivers}
use Rattle.model.proofs.Leaving.{own-stands, taken-stands}
use Rattle.laws.specs.Statements.{resolved}
use Rattle.laws.proofs.Cuts.{HasEvent}
use Rattle.laws.proofs.StepFacts.{act-ok, Receipt, repeated, next, receipt-cases}
use Rattle.laws.proofs.Turns.{Turn, at_becomes, at_turn, flew}
use Rattle.laws.proofs.Invariant.{phases_of, BodyFits, Inv}
use Rattle.laws.proofs.Base.{inside-where, no-node-refuses, no-node-takes_nothing, first_in_flight, own-heard, taken-heard}
use Rattle.laws.proofs.Inner.{resting-joined, sweeping-resting}
use Rattle.laws.proofs.Acting.{latest}
use Rattle.laws.proofs.Past.{PastAt, new-not_past, Ages, ages-own, ages-taken}
use Rattle.laws.proofs.Good.{GoodPart, GoodMessage, GoodDone}
use Rattle.laws.proofs.GoodEvents.{Ready, swept-calm, own-good, IsFor, Receiving, taken-good}

-- Each node and each message in flight has good references as required, and every reference that
-- wasn't given out yet is good.
pub record GoodCut (G : Ref → Type 0) (since : ℕ) (c : Cut) : Type 0 where
  pub part : (i : ℕ) → GoodPart G since (c i).local
  pub messages : (from to place : ℕ) (x : Message) → IsInFlight c from to place x
      → GoodMessage G since x
  pub new : (r : Ref) → (PastAt (c r.node).local.heap r.slot r.generation → ⊥) → G r

-- one node takes a step
turn-good : {G : Ref → Type 0} {since : ℕ} {c d : Cut} {i : ℕ} {q : LocalState}
    {ms : List (ℕ × Message)} → Turn c d i q ms → GoodDone G since q ms → Ages (c i).local q
    → GoodCut G since c → GoodCut G since d
turn-good {G = G} {since = since} {c = c} t done ages good = record {
  part = at_turn (λ j s. GoodPart G since s.local) t done.part (λ j _. good.part j);
  messages = λ from to place x flight.
      ⊎_elim {C = GoodMessage G since x}
      (λ before. good.messages from to place x before)
      (λ now. done.sends to x now.1)
      (flew t from to place x flight);
  new = λ r fresh.
      good.new r (λ past.
      fresh
      (at_turn (λ j s. PastAt (c j).local.heap r.slot r.generation
      → PastAt s.local.heap r.slot r.generation) t
      (ages.past r.slot r.generation) (λ j _ x. x) r.node past));
}

-- ---- a node's own event

pub ready : {shape : Shaped} {c : Cut} {i : ℕ} → Inv shape c → i < shape.nodes → Ready (c i).local
ready {c = c} {i = i} inv inside = record {
  tidy = inv.tidy i;
  swept = inv.phased.swept i;
  ended = inv.phased.ended i;
  behind = λ sweeps k g o there below.
      (let resting = sweeping-resting inv inside sweeps in
      inv.rested.behind i k g o resting there (inl below)
      ∙ sym (resting-joined inv resting inside));
}

-- the next new object's reference wasn't given out yet
unmade-good : {shape : Shaped} {G : Ref → Type 0} {since : ℕ} {c : Cut} {i : ℕ} → Inv shape c
    → i < shape.nodes → GoodCut G since c → G (new_reference (c i).local.own (c i).local.heap)
unmade-good {c = c} {i = i} inv inside good =
    let p : LocalState = (c i).local in
    let r : Ref = new_reference p.own p.heap in
    good.new r (λ past.
    let here : PastAt p.heap r.slot r.generation =
    subst (λ (z : ℕ). PastAt (c z).local.heap r.slot r.generation)
    (inv.base.own i inside) past in
    new-not_past p.heap.free p.heap.slots (inv.tidy i).free here.used here.past)

-- ---- a message is received

module _ {shape : Shaped} {c : Cut} {from to : ℕ} {x : Message}
    (inv : Inv shape c) (inside : to < shape.nodes)
    (flight : IsInFlight c from to (taken c from to) x)
  where
    -- a node joins only when it has swept its cycle, and so has no grey object
    reached-calm : may_take (c to).local from x.stamp x.body ≡ true
        → (c to).local.phases.cycle < x.stamp → (c to).local.heap.grey ≡ []
    reached-calm may ahead =
        let p : LocalState = (c to).local in
        ⊎_elim {C = p.heap.grey ≡ []}
        (λ there.
        absurd (let w : x.stamp ≤ p.phases.cycle = leb-true x.stamp p.phases.cycle there in
        omega (arith, w, ahead)))
        (λ joins.
        swept-calm p (inv.tidy to) (inv.phased.swept to) (inv.phased.ended to)
        (leb-true p.phases.cycle p.phases.swept (and_parts _ _ (and_parts _ _ joins).1).1))
        (or_cases _ _ (and_parts (may_reach p x.stamp) _ may).0)

    is-for : (b : Body) → BodyFits shape.nodes (phases_of c) from to x.stamp b
        → IsFor (c to).local x.stamp b
    is-for (body.Mark target) fits =
        (let w = fits.2 in let v = latest inv to inside in omega (arith, w, v))
    is-for (body.Get target place label) fits = fits.0 ∙ sym (inv.base.own to inside)
    is-for b fits = tt

    pub receiving : {G : Ref → Type 0} {since : ℕ}
        → may_take (c to).local from x.stamp x.body ≡ true
        → GoodPart G since (c to).local → GoodMessage G since x → Receiving G since (c to).local x
    receiving may good message = record {
      good = good;
      calm = reached-calm may;
      message = message;
      fits = is-for x.body (inv.messages.fits from to (taken c from to) x flight);
    }

-- ---- plain steps

-- if what is resolved is good
abbrev pub BringsGood : (Ref → Type 0) → Event → Type 0
BringsGood G e = (r : Ref) → resolved e ≡ Some r → G r

pub plain-good : {shape : Shaped} {G : Ref → Type 0} {since : ℕ} {c d : Cut} → Inv shape c
    → (s : PlainStep c d) → HasEvent (BringsGood G) s → GoodCut G since c → GoodCut G since d
plain-good {c = c} {d = d} inv (acts i e s a own answered becomes) back good =
    let p : LocalState = (c i).local in
    let counts : List ℕ = map length (c i).sent in
    let x : Effect = made p counts e in
    let found = act-ok (c i) e s a answered in
    let inside = inside-where i (λ z. AllPass (tests z.local e)) inv.base found.passed
    (no-node-refuses e own) in
    let turn : Turn c d i x.local x.sends = record {
      becomes = subst (λ (z : NodeState). Becomes c d i z) found.state becomes;
      heard = own-heard (own-stands p counts e own);
    } in
    turn-good turn
    (own-good p counts e own found.passed (ready inv inside) (λ _. unmade-good inv inside good)
    (λ r is. inr (back r is)) (good.part i))
    (ages-own p counts e own (inv.tidy i).free) good
plain-good {shape = shape} {G = G} {since = since} {c = c} {d = d} inv
    (delivers from to x s a flight answered becomes) back good =
    by (receipt-cases (c to) (first_in_flight c from to x) s a answered)
  where
    by : Receipt (c to) (first_in_flight c from to x) s a → GoodCut G since d
    by (repeated same says) =
        subst (λ (z : Cut). GoodCut G since z)
        (sym (fun_ext (at_becomes (λ j z. z ≡ c j) becomes same (λ j _. refl)))) good
    by (next turn may found) =
        let p : LocalState = (c to).local in
        let number : ℕ = taken c from to + 1 in
        let y : Effect = taken_in p from number x.stamp x.body in
        let inside =
        inside-where to (λ z. is_addressed z.local from to ≡ true) inv.base found.passed.0
        (no-node-takes_nothing from to) in
        let t : Turn c d to y.local y.sends = record {
          becomes = subst (λ (z : NodeState). Becomes c d to z) found.state becomes;
          heard = taken-heard p from number (taken-stands p from number x.stamp x.body)
              (omega arith);
        } in
        turn-good t (taken-good p from number x
        (receiving inv inside flight may (good.part to)
        (good.messages from to (taken c from to) x flight)))
        (ages-taken p from number x.stamp x.body) good
