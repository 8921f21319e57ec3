-- The invariant after the token has left a node, and after a node has received it.
use Rattle.std.proofs.Common.{◌≡◌, ◌≢◌, ℕ, suc, ℤ, ◌+◌, ◌+ℤ◌, ◌%◌, ◌<◌, ◌≤◌, true, false, [], ◌∷◌, length, set, Option, None, Some, refl, sym, ap, ◌∙◌, subst, ⊎_elim, inl, arith, le_refl, get_or-set_same}
use Rattle.std.proofs.lemmas.Bool.{cases_eq}
use Rattle.ids.specs.Limits.{Shaped}
use Rattle.msg.specs.declared.body.Body.TheVariants as body
use Rattle.msg.specs.declared.body.Colour.{Colour}
use Rattle.msg.specs.declared.body.Colour.TheVariants.{White, Black}
use Rattle.msg.specs.declared.body.Token.{Token}
use Rattle.msg.specs.declared.body.Message.{Message}
use Rattle.model.specs.State.{Phases, LocalState, NodeState, got_from, sent_to}
use Rattle.model.specs.Counting.{is_idle, stamped}
use Rattle.model.specs.Collecting.{new_token, whitened, without_token}
use Rattle.model.specs.Steps.{append_all}
use Rattle.model.specs.Cuts.{Cut, taken, IsInFlight, Becomes}
use Rattle.laws.proofs.Turns.{Turn, at_turn, flew, StandsAt, sent-flies}
use Rattle.laws.proofs.Safra.{Safra, safra-probe, Handing, safra-forward}
use Rattle.laws.proofs.Flights.{flight-inside}
use Rattle.laws.proofs.Tallies.{bound-turn}
use Rattle.laws.proofs.Invariant.{phases_of, cycle_of, Marking, Resting, Joined, Phased, BodyFits, is_single, Round, Spot, at_node, on_way, place_of_spot, IsAt, is_held, is_sent, IsBlack, ringed, is_black, Bound, Inv}
use Rattle.laws.proofs.Base.{unheard}
use Rattle.laws.proofs.Light.{light-inv, Speaks, speaks-flows, Hears, hears-turn, hears-flows, hears-width, hears-within, hears-marks}
use Rattle.laws.proofs.RingSteps.{at-once, way-not-node, Ringless, ringless-as, ringless-phases, ringless-cycle, ringless-passive, ringless-owed, ringless-safra, flew-one, quiet-messages}

-- The node gives its token to another node, and is white then.
pub record Leaving (shape : Shaped) (c d : Cut) (i to : ℕ) (t u : Token) : Type 0 where
  pub inv : Inv shape c
  pub inside : i < shape.nodes
  pub receiver : to < shape.nodes
  pub ring : i ≡ (to + 1) % shape.nodes
  pub marking : Marking (phases_of c 0)
  pub held : (c i).local.ring.token ≡ Some t
  pub becomes : Becomes c d i (record {
    local = record (c i).local { ring = whitened (without_token (c i).local.ring) };
    sent = append_all (c i).sent ((to, stamped (c i).local (body.Token u)) ∷ []);
  })
  pub safra : Safra shape.nodes (ringed c) i t.q (is_black t.colour)
      → Safra shape.nodes (ringed d) to u.q (is_black u.colour)
  pub bound : Bound shape.nodes d i t.q → Bound shape.nodes d to u.q

module _ {shape : Shaped} {c d : Cut} {i to : ℕ} {t u : Token}
    (h : Leaving shape c d i to t u) where
  abbrev left : LocalState
  left = record (c i).local { ring = whitened (without_token (c i).local.ring) }

  abbrev handed : Message
  handed = stamped (c i).local (body.Token u)

  leave-turn : Turn c d i left ((to, handed) ∷ [])
  leave-turn = record { becomes = h.becomes; heard = λ from. le_refl _ }

  leave-same : Ringless (c i).local left
  leave-same = ringless-as

  leave-round : Round shape.nodes c
  leave-round = h.inv.tokens.round h.marking

  leave-spot : leave-round.spot ≡ at_node i
  leave-spot = sym (leave-round.only t (at_node i) (is_held i h.held))

  leave-joined : Joined c i
  leave-joined = leave-round.joined i leave-spot

  leave-safra : Safra shape.nodes (ringed c) i t.q (is_black t.colour)
  leave-safra =
      let same : leave-round.token ≡ t =
      at-once c leave-round.token t (at_node i)
      (subst (IsAt c leave-round.token) leave-spot leave-round.there) (is_held i h.held) in
      subst (λ (z : Token). Safra shape.nodes (ringed c) i z.q (is_black z.colour)) same
      (subst (λ (z : Spot). Safra shape.nodes (ringed c) (place_of_spot z) leave-round.token.q
      (is_black leave-round.token.colour)) leave-spot leave-round.safra)

  leave-bound : Bound shape.nodes d i t.q
  leave-bound =
      let same : leave-round.token ≡ t =
      at-once c leave-round.token t (at_node i)
      (subst (IsAt c leave-round.token) leave-spot leave-round.there) (is_held i h.held) in
      bound-turn leave-turn
      (subst (λ (z : Token). Bound shape.nodes c i z.q) same
      (subst (λ (z : Spot). Bound shape.nodes c (place_of_spot z) leave-round.token.q) leave-spot
      leave-round.bound))

  leave-new : StandsAt d i to handed
  leave-new =
      let heard : taken d i to ≤ length (sent_to (c i) to) =
      at_turn (λ j s. got_from s.local i ≤ length (sent_to (c i) j)) leave-turn
      (h.inv.base.within i i) (λ j _. h.inv.base.within i j) to in
      sent-flies leave-turn to handed
      (let w : to < length (c i).sent = omega (arith, h.receiver, h.inv.base.width i h.inside) in w)
      heard (inl refl)

  leave-last : leave-new.place ≡ length (sent_to (c i) to)
  leave-last = ⊎_elim {C = leave-new.place ≡ length (sent_to (c i) to)}
      (λ before.
      absurd (way-not-node i to leave-new.place i
      (leave-round.only u (on_way i to leave-new.place) (is_sent i to leave-new.place _ before)
      ∙ leave-spot)))
      (λ new. new.3)
      (flew-one leave-turn i to leave-new.place handed leave-new.flight)

  -- no token is anywhere else
  leave-only : (k : Token) (s : Spot) → IsAt d k s → s ≡ on_way i to leave-new.place
  leave-only k (at_node j) (is_held j0 held) = ⊎_elim {C = at_node j0 ≡ on_way i to leave-new.place}
      (λ (e : j0 ≡ i).
      absurd (let never : ◌≡◌ {A = Option Token} None (Some k) =
      ap (λ (z : NodeState). z.local.ring.token) (sym h.becomes.changed)
      ∙ ap (λ (z : ℕ). (d z).local.ring.token) (sym e) ∙ held in cc))
      (λ (other : j0 ≢ i).
      let before : (c j0).local.ring.token ≡ Some k =
      ap (λ (z : NodeState). z.local.ring.token) (sym (h.becomes.others j0 other)) ∙ held in
      let same : at_node j0 ≡ at_node i =
      leave-round.only k (at_node j0) (is_held j0 before) ∙ leave-spot in
      absurd (other (ap place_of_spot same)))
      (cases_eq j0 i)
  leave-only k (on_way from b place) (is_sent f0 t0 p0 stamp flight) = ⊎_elim
      {C = on_way f0 t0 p0 ≡ on_way i to leave-new.place}
      (λ before.
      absurd (way-not-node f0 t0 p0 i
      (leave-round.only k (on_way f0 t0 p0) (is_sent f0 t0 p0 stamp before) ∙ leave-spot)))
      (λ new.
      ap (λ (z : ℕ). on_way z t0 p0) new.0 ∙ ap (λ (z : ℕ). on_way i z p0) new.1
      ∙ ap (λ (z : ℕ). on_way i to z) (new.3 ∙ sym leave-last))
      (flew-one leave-turn f0 t0 p0 _ flight)

  pub leave-inv : Inv shape d
  leave-inv = light-inv (record {
    inv = h.inv;
    step = unheard h.inside leave-turn refl refl refl h.inv.base;
    heap = refl;
    asked = refl;
    cycle = refl;
    ended = ap (λ (z : ℕ → Phases). (z 0).ended) (ringless-phases leave-turn leave-same);
    opened = λ o. o;
    calm = λ shut. (h.inv.tidy i).calm shut;
    idle = λ k x a. ⊎_elim {C = is_idle x.body ≡ true}
        (λ e. ap (λ (z : ℕ × Message). is_idle z.1.body) e) (λ never. absurd never) a;
    marks = λ from place stamp r flight. flight.later;
    flows =
        (let speaks : Speaks shape c d i left ((to, handed) ∷ []) = record {
          inv = h.inv;
          inside = h.inside;
          turn = leave-turn;
          cycle = refl;
          got = refl;
          earlier = refl;
          recent = refl;
          all = (h.receiver, tt);
          idle = λ k x a. ⊎_elim {C = is_idle x.body ≡ true}
              (λ e. ap (λ (z : ℕ × Message). is_idle z.1.body) e) (λ never. absurd never) a;
        } in
        speaks-flows speaks);
    owed = (refl, refl);
    phased = subst (Phased shape.nodes) (sym (ringless-phases leave-turn leave-same)) h.inv.phased;
    messages = record {
      fits = λ from k place x flight.
          subst (λ (z : ℕ → Phases). BodyFits shape.nodes z from k x.stamp x.body)
          (sym (ringless-phases leave-turn leave-same))
          (⊎_elim {C = BodyFits shape.nodes (phases_of c) from k x.stamp x.body}
          (λ before. h.inv.messages.fits from k place x before)
          (λ new.
          subst (λ (z : Message). BodyFits shape.nodes (phases_of c) from k z.stamp z.body)
          (sym new.2) (
            new.0 ∙ h.ring ∙ ap (λ (z : ℕ). (z + 1) % shape.nodes) (sym new.1),
            h.marking,
            leave-joined,
          ))
          (flew-one leave-turn from k place x flight));
      once = λ from k a b x y fx fy same single.
          h.inv.messages.once from k a b x y
          (single-was from k a x fx single)
          (single-was from k b y fy (ap is_single (sym same) ∙ single)) same single;
    };
    tokens = record {
      round = λ _. record {
        token = u;
        spot = on_way i to leave-new.place;
        there = is_sent i to leave-new.place _ leave-new.flight;
        only = leave-only;
        near = h.receiver;
        joined = λ j e. absurd (way-not-node i to leave-new.place j e);
        safra = h.safra leave-safra;
        bound = h.bound leave-bound;
      };
      rest = λ k s rest _.
          absurd (let m : Resting (phases_of c 0) =
          subst (λ (z : ℕ → Phases). Resting (z 0)) (ringless-phases leave-turn leave-same) rest in
          omega (arith, m, h.marking));
    };
    behind = λ k g o rest. absurd (omega (arith, rest, h.marking));
  })
    where
      single-was : (from k place : ℕ) (x : Message) → IsInFlight d from k place x
          → is_single x.body ≡ true → IsInFlight c from k place x
      single-was from k place x flight single = ⊎_elim {C = IsInFlight c from k place x}
          (λ before. before)
          (λ new.
          absurd (let never : is_single (body.Token u) ≡ true =
          ap (λ (z : Message). is_single z.body) (sym new.2) ∙ single in cc))
          (flew-one leave-turn from k place x flight)

-- node 0 starts a probe
pub probe-safra : (n : ℕ) (d : Cut) (to : ℕ) → suc to ≡ n
    → Safra n (ringed d) to new_token.q (is_black new_token.colour)
probe-safra n d to last = safra-probe n (ringed d) to false last

-- another node passes it on if it has no grey object
pub record Forwarding (shape : Shaped) (c d : Cut) (i to : ℕ) (t u : Token) : Type 0 where
  pub inside : i < shape.nodes
  pub before : i ≡ suc to
  pub turn : Turn c d i (record (c i).local { ring = whitened (without_token (c i).local.ring) })
      ((to, stamped (c i).local (body.Token u)) ∷ [])
  pub joined : Joined c i
  pub calm : (c i).local.heap.grey ≡ []
  pub sum : u.q ≡ t.q +ℤ (c i).local.ring.earlier
  pub dark : t.colour ≡ Black → u.colour ≡ Black
  pub black : (c i).local.ring.colour ≡ Black → u.colour ≡ Black

pub forward-safra : {shape : Shaped} {c d : Cut} {i to : ℕ} {t u : Token}
    → Forwarding shape c d i to t u → Safra shape.nodes (ringed c) i t.q (is_black t.colour)
    → Safra shape.nodes (ringed d) to u.q (is_black u.colour)
forward-safra {shape = shape} {c = c} {d = d} {i = i} {to = to} {t = t} {u = u} h safra =
    let same : Ringless (c i).local
    (record (c i).local { ring = whitened (without_token (c i).local.ring) }) =
    ringless-as in
    let hands : Handing shape.nodes (ringed c) (ringed d) to = record {
      inside = (let k : suc to < shape.nodes = omega (arith, h.inside, h.before) in k);
      passive = subst (ringed c).passive h.before (h.joined, h.calm);
      same_passive = ringless-passive h.turn same;
      owed = ringless-owed h.turn same;
      black = λ j other b.
          subst (λ (z : ℕ). IsBlack z (d j).local) (sym (ringless-cycle h.turn same))
          (subst (λ (s : NodeState). IsBlack (cycle_of c 0) s.local)
          (sym (h.turn.becomes.others j (λ (e : j ≡ i). other (e ∙ h.before)))) b);
    } in
    let later : Safra shape.nodes (ringed d) to (t.q +ℤ (c (suc to)).local.ring.earlier)
    (is_black u.colour) =
    safra-forward hands t.q (is_black t.colour) (is_black u.colour)
    (λ b. ap is_black (h.dark (black-is t.colour b)))
    (λ b. ⊎_elim {C = is_black u.colour ≡ true}
    (λ apart. absurd (apart (subst (Joined c) h.before h.joined)))
    (λ black. ap is_black (h.black (ap (λ (z : ℕ). (c z).local.ring.colour) h.before ∙ black))) b)
    (subst (λ (z : ℕ). Safra shape.nodes (ringed c) z t.q (is_black t.colour)) h.before safra) in
    subst (λ (z : ℤ). Safra shape.nodes (ringed d) to z (is_black u.colour))
    (ap (λ (z : ℕ). t.q +ℤ (c z).local.ring.earlier) (sym h.before) ∙ sym h.sum) later
  where
    black-is : (k : Colour) → is_black k ≡ true → k ≡ Black
    black-is White e = absurd cc
    black-is Black e = refl

-- ---- the token arrives

pub record Arriving (shape : Shaped) (c d : Cut) (i j stamp : ℕ) (t : Token) : Type 0 where
  pub inv : Inv shape c
  pub inside : i < shape.nodes
  pub flight : IsInFlight c j i (taken c j i) (record { stamp = stamp; body = body.Token t })
  pub reached : Joined c i
  pub becomes : Becomes c d i (record {
    local = record (c i).local {
      got = set (c i).local.got j (taken c j i + 1);
      ring = record (c i).local.ring { token = Some t };
    };
    sent = (c i).sent;
  })

module _ {shape : Shaped} {c d : Cut} {i j stamp : ℕ} {t : Token}
    (h : Arriving shape c d i j stamp t) where
  abbrev arrived : LocalState
  arrived = record (c i).local {
    got = set (c i).local.got j (taken c j i + 1);
    ring = record (c i).local.ring { token = Some t };
  }

  arrive-hears : Hears shape c d i arrived j (record { stamp = stamp; body = body.Token t })
  arrive-hears = record {
    inv = h.inv;
    inside = h.inside;
    becomes = h.becomes;
    flight = h.flight;
    idle = refl;
    cycle = refl;
    got = refl;
    earlier = refl;
    recent = refl;
  }

  arrive-same : Ringless (c i).local arrived
  arrive-same = ringless-as

  arrive-marking : Marking (phases_of c 0)
  arrive-marking = (h.inv.messages.fits j i (taken c j i) _ h.flight).1

  arrive-round : Round shape.nodes c
  arrive-round = h.inv.tokens.round arrive-marking

  arrive-spot : arrive-round.spot ≡ on_way j i (taken c j i)
  arrive-spot = sym (arrive-round.only t _ (is_sent j i (taken c j i) stamp h.flight))

  arrive-safra : Safra shape.nodes (ringed d) i t.q (is_black t.colour)
  arrive-safra =
      let same : arrive-round.token ≡ t =
      at-once c arrive-round.token t (on_way j i (taken c j i))
      (subst (IsAt c arrive-round.token) arrive-spot arrive-round.there)
      (is_sent j i (taken c j i) stamp h.flight) in
      ringless-safra (hears-turn arrive-hears) arrive-same h.inside refl i t.q (is_black t.colour)
      (subst (λ (z : Token). Safra shape.nodes (ringed c) i z.q (is_black z.colour)) same
      (subst (λ (z : Spot). Safra shape.nodes (ringed c) (place_of_spot z) arrive-round.token.q
      (is_black arrive-round.token.colour)) arrive-spot arrive-round.safra))

  arrive-bound : Bound shape.nodes d i t.q
  arrive-bound =
      let same : arrive-round.token ≡ t =
      at-once c arrive-round.token t (on_way j i (taken c j i))
      (subst (IsAt c arrive-round.token) arrive-spot arrive-round.there)
      (is_sent j i (taken c j i) stamp h.flight) in
      bound-turn (hears-turn arrive-hears)
      (subst (λ (z : Token). Bound shape.nodes c i z.q) same
      (subst (λ (z : Spot). Bound shape.nodes c (place_of_spot z) arrive-round.token.q) arrive-spot
      arrive-round.bound))

  arrive-only : (k : Token) (s : Spot) → IsAt d k s → s ≡ at_node i
  arrive-only k (at_node l) (is_held l0 held) = ⊎_elim {C = at_node l0 ≡ at_node i}
      (λ (e : l0 ≡ i). ap at_node e)
      (λ (other : l0 ≢ i).
      let before : (c l0).local.ring.token ≡ Some k =
      ap (λ (z : NodeState). z.local.ring.token) (sym (h.becomes.others l0 other)) ∙ held in
      absurd (way-not-node j i (taken c j i) l0
      (sym (arrive-round.only k (at_node l0) (is_held l0 before) ∙ arrive-spot))))
      (cases_eq l0 i)
  arrive-only k (on_way a b place) (is_sent a0 b0 p0 s0 flight) = ⊎_elim
      {C = on_way a0 b0 p0 ≡ at_node i}
      (λ before.
      let same : on_way a0 b0 p0 ≡ on_way j i (taken c j i) =
      arrive-round.only k (on_way a0 b0 p0) (is_sent a0 b0 p0 s0 before) ∙ arrive-spot in
      let at : (a0 ≡ j) × (b0 ≡ i) × (p0 ≡ taken c j i) =
      way-parts a0 b0 p0 j i (taken c j i) same in
      let now : taken d j i ≡ taken c j i + 1 =
      ap (λ (z : NodeState). got_from z.local j) h.becomes.changed
      ∙ get_or-set_same (c i).local.got j (taken c j i + 1) 0
      (let w : j < length (c i).local.got =
      (let inside = flight-inside j i (taken c j i) _ h.inv.base h.flight in
      omega (arith, inside.0, h.inv.base.heard i h.inside)) in w) in
      let later : taken d j i ≤ p0 =
      subst (λ (z : ℕ). taken d z i ≤ p0) at.0
      (subst (λ (z : ℕ). taken d a0 z ≤ p0) at.1 flight.later) in
      absurd (omega (arith, now, later, at.2)))
      (λ new. absurd new.1)
      (flew (hears-turn arrive-hears) a0 b0 p0 _ flight)
    where
      way-parts : (a b k x y z : ℕ) → on_way a b k ≡ on_way x y z → (a ≡ x) × (b ≡ y) × (k ≡ z)
      way-parts a b k x y z e = (cc, cc, cc)

  pub arrive-inv : Inv shape d
  arrive-inv = light-inv (record {
    inv = h.inv;
    step = record {
      inside = h.inside;
      turn = hears-turn arrive-hears;
      own = refl;
      same_shape = refl;
      heard = hears-width arrive-hears;
      within = hears-within arrive-hears;
    };
    heap = refl;
    asked = refl;
    cycle = refl;
    ended = ap (λ (z : ℕ → Phases). (z 0).ended)
        (ringless-phases (hears-turn arrive-hears) arrive-same);
    opened = λ o. o;
    calm = λ shut. (h.inv.tidy i).calm shut;
    idle = λ k x a. absurd a;
    marks = hears-marks arrive-hears;
    flows = hears-flows arrive-hears;
    owed = (refl, refl);
    phased = subst (Phased shape.nodes)
        (sym (ringless-phases (hears-turn arrive-hears) arrive-same)) h.inv.phased;
    messages = quiet-messages (hears-turn arrive-hears)
        (ringless-phases (hears-turn arrive-hears) arrive-same) h.inv.messages;
    tokens = record {
      round = λ _. record {
        token = t;
        spot = at_node i;
        there = is_held i (ap (λ (z : NodeState). z.local.ring.token) h.becomes.changed);
        only = arrive-only;
        near = h.inside;
        joined = λ l e.
            ap (λ (z : ℕ → Phases). (z l).cycle)
            (ringless-phases (hears-turn arrive-hears) arrive-same)
            ∙ subst (Joined c) (ap place_of_spot e) h.reached
            ∙ sym (ringless-cycle (hears-turn arrive-hears) arrive-same);
        safra = arrive-safra;
        bound = arrive-bound;
      };
      rest = λ k s rest _.
          absurd (let m : Resting (phases_of c 0) =
          subst (λ (z : ℕ → Phases). Resting (z 0))
          (ringless-phases (hears-turn arrive-hears) arrive-same) rest in
          omega (arith, m, arrive-marking));
    };
    behind = λ k g o rest. absurd (omega (arith, rest, arrive-marking));
  })
