-- The spot of the token, and what the invariant says of the ring and of messages. Both are shown
-- after a step that doesn't change them, and after one that sends one message.
use Rattle.std.proofs.Common.{◌≡◌, ℕ, ℤ, ◌+◌, ◌<◌, ◌≤◌, ◌⊎◌, Bool, List, [], ◌∷◌, ◌++◌, length, get_or, set, Option, Some, slice_get, refl, sym, ap, ◌∙◌, subst, ⊎_elim, inl, inr, arith, le_refl, length-append}
use Rattle.std.proofs.lemmas.Int.{ints}
use Rattle.std.proofs.lemmas.Bool.{cases_lt}
use Rattle.std.proofs.lemmas.Option.{slice_get_within}
use Rattle.std.proofs.Math.Path.{fun_ext}
use Rattle.model.proofs.Lookups.{at_set_if, slice_get-left}
use Rattle.msg.specs.declared.body.Body.TheVariants as body
use Rattle.msg.specs.declared.body.Colour.{Colour}
use Rattle.msg.specs.declared.body.Token.{Token}
use Rattle.msg.specs.declared.body.Message.{Message}
use Rattle.model.specs.State.{Phases, LocalState, NodeState, got_from, sent_to}
use Rattle.model.specs.Cuts.{Cut, taken, IsInFlight, Among}
use Rattle.laws.proofs.Turns.{Turn, at_turn, flew, flies}
use Rattle.laws.proofs.Safra.{Safra}
use Rattle.laws.proofs.Rings.{RingStep, safra-turn}
use Rattle.laws.proofs.Invariant.{phases_of, cycle_of, Marking, Resting, BodyFits, Messages, Tokens, Spot, at_node, on_way, IsAt, is_held, is_sent, IsPassive, IsBlack, ringed, Bound}

-- ---- tokens

-- there is one token at one spot
pub at-once : (c : Cut) (t u : Token) (s : Spot) → IsAt c t s → IsAt c u s → t ≡ u
at-once c t u (at_node i) (is_held i0 a) (is_held i1 b) =
    let both : ◌≡◌ {A = Option Token} (Some t) (Some u) = sym a ∙ b in cc
at-once c t u (on_way from to place) (is_sent f0 t0 p0 s a) (is_sent f1 t1 p1 z b) =
    let both : ◌≡◌ {A = Option Message} (Some (record { stamp = s; body = body.Token t }))
    (Some (record { stamp = z; body = body.Token u })) = sym a.there ∙ b.there in
    let inner : ◌≡◌ {A = Message} (record { stamp = s; body = body.Token t })
    (record { stamp = z; body = body.Token u }) = cc in
    let bodies : body.Token t ≡ body.Token u = ap (λ (m : Message). m.body) inner in
    cc

pub way-not-node : (a b k i : ℕ) → on_way a b k ≡ at_node i → ⊥
way-not-node a b k i e = absurd cc

-- ---- phases and ring as they were

-- phases and heap stay, and so does what the ring says of a node, apart from the token
pub record Ringless (p q : LocalState) : Type 0 where
  pub own : q.own ≡ p.own
  pub shape : q.shape ≡ p.shape
  pub heap : q.heap ≡ p.heap
  pub asked : q.asked ≡ p.asked
  pub phases : q.phases ≡ p.phases
  pub earlier : q.ring.earlier ≡ p.ring.earlier
  pub recent : q.ring.recent ≡ p.ring.recent

-- what was received may change too
pub ringless-as : {p : LocalState} {got : List ℕ} {colour : Colour} {token : Option Token}
    → Ringless p
    (record p { got = got; ring = record p.ring { colour = colour; token = token } })
ringless-as = record {
  own = refl;
  shape = refl;
  heap = refl;
  asked = refl;
  phases = refl;
  earlier = refl;
  recent = refl;
}

module _ {c d : Cut} {i : ℕ} {q : LocalState} {ms : List (ℕ × Message)} (turn : Turn c d i q ms)
    (same : Ringless (c i).local q) where
  pub ringless-phases : phases_of d ≡ phases_of c
  ringless-phases =
      fun_ext (at_turn (λ j s. s.local.phases ≡ phases_of c j) turn same.phases (λ j _. refl))

  pub ringless-cycle : cycle_of d 0 ≡ cycle_of c 0
  ringless-cycle = ap (λ (z : ℕ → Phases). (z 0).cycle) ringless-phases

  pub ringless-passive : (j : ℕ) → IsPassive (cycle_of c 0) (c j).local
      → IsPassive (cycle_of d 0) (d j).local
  ringless-passive j p =
      at_turn (λ l s. IsPassive (cycle_of c 0) (c l).local → IsPassive (cycle_of d 0) s.local) turn
      (λ k. (
        ap (λ (z : Phases). z.cycle) same.phases ∙ k.0 ∙ sym ringless-cycle,
        ap (λ z. z.grey) same.heap ∙ k.1,
      ))
      (λ l _ k. (k.0 ∙ sym ringless-cycle, k.1)) j p

  pub ringless-owed : (j : ℕ) → (d j).local.ring.earlier ≡ (c j).local.ring.earlier
  ringless-owed =
      at_turn (λ j s. s.local.ring.earlier ≡ (c j).local.ring.earlier) turn same.earlier
      (λ j _. refl)

  -- the colour stays too
  pub ringless-safra : {n : ℕ} → i < n → q.ring.colour ≡ (c i).local.ring.colour
      → (t : ℕ) (z : ℤ) (b : Bool) → Safra n (ringed c) t z b → Safra n (ringed d) t z b
  ringless-safra {n = n} inside colour t =
      let here : q.phases.cycle ≡ cycle_of c i = ap (λ (z : Phases). z.cycle) same.phases in
      let step : RingStep n c d i q ms t = record {
        turn = turn;
        inside = inside;
        cycle = ringless-cycle;
        near = λ _. inl (
          (λ b. ⊎_elim {C = IsBlack (cycle_of c 0) q}
              (λ apart. inl (λ e. apart (sym here ∙ e)))
              (λ black. inr (colour ∙ black)) b),
          omega (arith, ints, same.earlier),
        );
        far = λ _. inl (λ p. ((here ∙ p.0, ap (λ z. z.grey) same.heap ∙ p.1), same.earlier));
      } in
      safra-turn step

-- which tokens there are if none moves
pub record NoToken (n : ℕ) (c d : Cut) : Type 0 where
  pub back : (t : Token) (s : Spot) → IsAt d t s → IsAt c t s
  pub on : (t : Token) (s : Spot) → IsAt c t s → IsAt d t s
  pub phases : (j : ℕ) → cycle_of d j ≡ cycle_of c j
  pub marking : Marking (phases_of d 0) → Marking (phases_of c 0)
  pub resting : Resting (phases_of d 0) → Resting (phases_of c 0)
  pub safra : (t : ℕ) (z : ℤ) (b : Bool) → Safra n (ringed c) t z b → Safra n (ringed d) t z b
  pub bound : (t : ℕ) (z : ℤ) → Bound n c t z → Bound n d t z

pub tokens-same : {n : ℕ} {c d : Cut} → NoToken n c d → Tokens n c → Tokens n d
tokens-same {n = n} {c = c} {d = d} h tokens = record {
  round = λ marking.
      let round = tokens.round (h.marking marking) in
      record {
        token = round.token;
        spot = round.spot;
        there = h.on round.token round.spot round.there;
        only = λ t s at. round.only t s (h.back t s at);
        near = round.near;
        joined = λ j e. h.phases j ∙ round.joined j e ∙ sym (h.phases 0);
        safra = h.safra _ _ _ round.safra;
        bound = h.bound _ _ round.bound;
      };
  rest = λ t s rest at. tokens.rest t s (h.resting rest) (h.back t s at);
}

-- no token is among the messages sent, and none is received
pub token-back : {c d : Cut} {i : ℕ} {q : LocalState} {ms : List (ℕ × Message)} → Turn c d i q ms
    → q.ring.token ≡ (c i).local.ring.token
    → ((to : ℕ) (x : Message) (t : Token) → Among (to, x) ms → x.body ≡ body.Token t → ⊥)
    → (t : Token) (s : Spot) → IsAt d t s → IsAt c t s
token-back {c = c} turn same none t (at_node j) (is_held j0 held) =
    is_held j0
    (at_turn (λ l s. s.local.ring.token ≡ Some t → (c l).local.ring.token ≡ Some t) turn
    (λ e. sym same ∙ e) (λ l _ e. e) j0 held)
token-back {c = c} turn same none t (on_way from to place) (is_sent f0 t0 p0 stamp flight) =
    is_sent f0 t0 p0 stamp
    (⊎_elim {C = IsInFlight c f0 t0 p0 (record { stamp = stamp; body = body.Token t })}
    (λ before. before) (λ new. absurd (none t0 _ t new.1 refl)) (flew turn f0 t0 p0 _ flight))

pub token-on : {c d : Cut} {i : ℕ} {q : LocalState} {ms : List (ℕ × Message)} → Turn c d i q ms
    → q.ring.token ≡ (c i).local.ring.token
    → ((from place stamp : ℕ) (t : Token)
    → IsInFlight c from i place (record { stamp = stamp; body = body.Token t })
    → got_from q from ≤ place)
    → (t : Token) (s : Spot) → IsAt c t s → IsAt d t s
token-on {c = c} turn same stays t (at_node j) (is_held j0 held) =
    is_held j0
    (at_turn (λ l s. (c l).local.ring.token ≡ Some t → s.local.ring.token ≡ Some t) turn
    (λ e. same ∙ e) (λ l _ e. e) j0 held)
token-on {c = c} turn same stays t (on_way from to place) (is_sent f0 t0 p0 stamp flight) =
    is_sent f0 t0 p0 stamp
    (flies turn f0 t0 p0 _ flight
    (at_turn (λ l s. IsInFlight c f0 l p0 (record { stamp = stamp; body = body.Token t })
    → got_from s.local f0 ≤ p0) turn (λ f. stays f0 p0 stamp t f) (λ l _ f. f.later) t0 flight))

-- ---- what one message adds

-- only the message that is sent is new in flight
pub flew-one : {c d : Cut} {i : ℕ} {q : LocalState} {to : ℕ} {x : Message}
    → Turn c d i q ((to, x) ∷ []) → (from k place : ℕ) (y : Message) → IsInFlight d from k place y
    → IsInFlight c from k place y
    ⊎ ((from ≡ i) × (k ≡ to) × (y ≡ x) × (place ≡ length (sent_to (c i) to)))
flew-one {c = c} {d = d} {i = i} {to = to} {x = x} turn from k place y flight =
    let fewer : taken c from k ≤ taken d from k =
    at_turn (λ j s. taken c from j ≤ got_from s.local from) turn (turn.heard from)
    (λ j _. le_refl _) k in
    ⊎_elim
    {C = IsInFlight c from k place y
    ⊎ ((from ≡ i) × (k ≡ to) × (y ≡ x) × (place ≡ length (sent_to (c i) to)))}
    (λ before. inl before)
    (λ new. ⊎_elim {C = IsInFlight c from k place y
    ⊎ ((from ≡ i) × (k ≡ to) × (y ≡ x) × (place ≡ length (sent_to (c i) to)))}
    (λ (e : (k, y) ≡ (to, x)).
    let at : k ≡ to = ap (λ (z : ℕ × Message). z.0) e in
    let is : y ≡ x = ap (λ (z : ℕ × Message). z.1) e in
    let longer : List Message = sent_to (c i) to ++ x ∷ [] in
    let there : slice_get (get_or (set (c i).sent to longer) k []) place ≡ Some y =
    ap (λ (z : NodeState). slice_get (sent_to z k) place) (sym turn.becomes.changed)
    ∙ ap (λ (z : ℕ). slice_get (sent_to (d z) k) place) (sym new.0) ∙ flight.there in
    at_set_if (λ z. slice_get z place ≡ Some y → IsInFlight c from k place y
    ⊎ ((from ≡ i) × (k ≡ to) × (y ≡ x) × (place ≡ length (sent_to (c i) to)))) (c
    i).sent to k longer []
    (λ _ h.
    let below : place < length longer = slice_get_within longer place y h in
    let wide : length longer ≡ length (sent_to (c i) to) + 1 =
    length-append (sent_to (c i) to) (x ∷ []) in
    ⊎_elim {C = IsInFlight c from k place y
    ⊎ ((from ≡ i) × (k ≡ to) × (y ≡ x) × (place ≡ length (sent_to (c i) to)))}
    (λ (old : place < length (sent_to (c i) to)).
    inl (record {
      later = omega (arith, fewer, flight.later);
      there =
          ap (λ (z : ℕ). slice_get (sent_to (c z) k) place) new.0
          ∙ ap (λ (z : ℕ). slice_get (sent_to (c i) z) place) at
          ∙ sym (slice_get-left (sent_to (c i) to) (x ∷ []) place old) ∙ h;
    }))
    (λ (past : length (sent_to (c i) to) ≤ place).
    inr (new.0, at, is, omega (arith, past, below, wide)))
    (cases_lt place (length (sent_to (c i) to))))
    (λ h.
    inl (record {
      later = omega (arith, fewer, flight.later);
      there = ap (λ (z : ℕ). slice_get (sent_to (c z) k) place) new.0 ∙ h;
    })) there)
    (λ never. absurd never) new.1)
    (flew turn from k place y flight)

-- if nothing is sent and no phase changes, messages fit as they did
pub quiet-messages : {n : ℕ} {c d : Cut} {i : ℕ} {q : LocalState} → Turn c d i q []
    → phases_of d ≡ phases_of c → Messages n c → Messages n d
quiet-messages {n = n} {c = c} {d = d} turn phases messages =
    let was : (from to place : ℕ) (x : Message) → IsInFlight d from to place x
    → IsInFlight c from to place x =
    λ from to place x flight. ⊎_elim {C = IsInFlight c from to place x}
    (λ before. before) (λ new. absurd new.1) (flew turn from to place x flight) in
    record {
      fits = λ from to place x flight.
          subst (λ (z : ℕ → Phases). BodyFits n z from to x.stamp x.body) (sym phases)
          (messages.fits from to place x (was from to place x flight));
      once = λ from to a b x y fx fy.
          messages.once from to a b x y (was from to a x fx) (was from to b y fy);
    }
