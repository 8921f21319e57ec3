-- Safra's invariant over a cut: some node owes each counted message in flight. Also how one node
-- may change.
use Rattle.std.proofs.Common.{◌≡◌, ◌≢◌, ℕ, zero, suc, ℤ, pos, ◌+ℤ◌, ◌<◌, ◌≤◌, ◌⊎◌, Bool, true, List, ◌==◌, sym, ap, ◌∙◌, subst, ⊎_elim, inl, inr, arith, eq-eqb}
use Rattle.std.specs.Prelude.{◌<ℤ◌, ◌≤ℤ◌}
use Rattle.std.proofs.lemmas.Int.{ints}
use Rattle.std.proofs.lemmas.Bool.{cases_eq, cases_lt, cond-true}
use Rattle.ids.specs.Limits.{Shaped}
use Rattle.msg.specs.declared.body.Message.{Message}
use Rattle.model.specs.State.{LocalState, NodeState}
use Rattle.model.specs.Cuts.{Cut, taken, IsInFlight}
use Rattle.model.specs.Agreement.{total, flow, is_counted, balance}
use Rattle.laws.proofs.Sums.{total-same}
use Rattle.laws.proofs.Safra.{BlackUpTo, Safra, Loud, NodeStep, safra-step}
use Rattle.laws.proofs.Turns.{Turn}
use Rattle.laws.proofs.Invariant.{cycle_of, Joined, Base, Flows, IsPassive, IsBlack, ringed}
use Rattle.laws.proofs.Flights.{flow-positive}

-- all nodes have joined, or one hasn't
pub record NotJoined (n : ℕ) (c : Cut) : Type 0 where
  pub node : ℕ
  pub inside : node < n
  pub apart : cycle_of c node ≢ cycle_of c 0

pub all-joined : (n : ℕ) (c : Cut) → ((i : ℕ) → i < n → Joined c i) ⊎ NotJoined n c
all-joined zero c = inl (λ i inside. absurd (omega (arith, inside)))
all-joined (suc n) c = ⊎_elim {C = ((i : ℕ) → i < suc n → Joined c i) ⊎ NotJoined (suc n) c}
    (λ before. ⊎_elim {C = ((i : ℕ) → i < suc n → Joined c i) ⊎ NotJoined (suc n) c}
    (λ (last : cycle_of c n ≡ cycle_of c 0). inl (λ i inside. ⊎_elim {C = Joined c i}
    (λ (e : i ≡ n). subst (Joined c) (sym e) last)
    (λ (other : i ≢ n). before i (let k : i < n = omega (arith, inside, other) in k))
    (cases_eq i n)))
    (λ (apart : cycle_of c n ≢ cycle_of c 0). inr (record {
      node = n;
      inside = omega arith;
      apart = apart;
    }))
    (cases_eq (cycle_of c n) (cycle_of c 0)))
    (λ found. inr (record {
      node = found.node;
      inside = (let k : found.node < suc n = omega (arith, found.inside) in k);
      apart = found.apart;
    }))
    (all-joined n c)

-- a message that the cycle counts is in flight
pub record Counted (c : Cut) : Type 0 where
  pub from : ℕ
  pub to : ℕ
  pub place : ℕ
  pub message : Message
  pub flight : IsInFlight c from to place message
  pub counted : is_counted (cycle_of c 0) message ≡ true

-- the first message in flight on a link
pub counted-first : {c : Cut} {from to : ℕ} {x : Message} → IsInFlight c from to (taken c from to) x
    → is_counted (cycle_of c 0) x ≡ true → Counted c
counted-first {c = c} {from = from} {to = to} {x = x} flight counted = record {
  from = from;
  to = to;
  place = taken c from to;
  message = x;
  flight = flight;
  counted = counted;
}

pub counted-loud : {shape : Shaped} {c : Cut} → Base shape c → Flows shape.nodes c → Counted c
    → (t : ℕ) → Loud shape.nodes (ringed c) t
counted-loud {shape = shape} {c = c} base flows m t passive =
    let n : ℕ = shape.nodes in
    let cycle : ℕ = cycle_of c 0 in
    let positive : pos 0 <ℤ flow n (is_counted cycle) c =
    flow-positive (is_counted cycle) m.from m.to m.place m.message base m.flight m.counted in
    ⊎_elim {C = (pos 0 <ℤ total n (ringed c).owed) ⊎ BlackUpTo (ringed c) t}
    (λ joined.
    let same : total n (λ i. balance cycle (c i).local) ≡ total n (ringed c).owed =
    total-same n (ringed c).owed (λ i. balance cycle (c i).local)
    (λ i inside.
    cond-true (cycle_of c i == cycle) (c i).local.ring.earlier
    ((c i).local.ring.earlier +ℤ (c i).local.ring.recent) (eq-eqb _ _ (joined i inside))) in
    inl (omega (arith, ints, positive, same, flows.counted)))
    (λ found. inr (record {
      node = found.node;
      below = ⊎_elim {C = found.node ≤ t}
          (λ (above : t < found.node).
          absurd (found.apart (passive found.node above found.inside).0))
          (λ below. below)
          (cases_lt t found.node);
      black = inl found.apart;
    }))
    (all-joined n c)

-- one node changes
pub record RingStep (n : ℕ) (c d : Cut) (i : ℕ) (q : LocalState) (ms : List (ℕ × Message)) (t : ℕ)
    : Type 0 where
  pub turn : Turn c d i q ms
  pub inside : i < n
  pub cycle : cycle_of d 0 ≡ cycle_of c 0
  pub near : i ≤ t
      → ((IsBlack (cycle_of c 0) (c i).local → IsBlack (cycle_of c 0) q)
      × ((c i).local.ring.earlier ≤ℤ q.ring.earlier))
      ⊎ IsBlack (cycle_of c 0) q
  pub far : t < i
      → (IsPassive (cycle_of c 0) (c i).local
      → IsPassive (cycle_of c 0) q × (q.ring.earlier ≡ (c i).local.ring.earlier))
      ⊎ Loud n (ringed c) t

pub safra-turn : {n : ℕ} {c d : Cut} {i : ℕ} {q : LocalState} {ms : List (ℕ × Message)} {t : ℕ}
    → RingStep n c d i q ms t → (z : ℤ) (b : Bool) → Safra n (ringed c) t z b
    → Safra n (ringed d) t z b
safra-turn {n = n} {c = c} {d = d} {i = i} {q = q} {t = t} h =
    let now : (d i).local ≡ q = ap (λ (s : NodeState). s.local) h.turn.becomes.changed in
    let cycle : cycle_of c 0 ≡ cycle_of d 0 = sym h.cycle in
    let black : IsBlack (cycle_of c 0) q → IsBlack (cycle_of d 0) (d i).local =
    λ b. subst (λ (k : ℕ). IsBlack k (d i).local) cycle
    (subst (IsBlack (cycle_of c 0)) (sym now) b) in
    let passive : IsPassive (cycle_of c 0) q → IsPassive (cycle_of d 0) (d i).local =
    λ p. subst (λ (k : ℕ). IsPassive k (d i).local) cycle
    (subst (IsPassive (cycle_of c 0)) (sym now) p) in
    let owed : (d i).local.ring.earlier ≡ q.ring.earlier =
    ap (λ (p : LocalState). p.ring.earlier) now in
    let step : NodeStep n (ringed c) (ringed d) i t = record {
      inside = h.inside;
      passive = λ j other p.
          subst (λ (k : ℕ). IsPassive k (d j).local) cycle
          (subst (λ (s : NodeState). IsPassive (cycle_of c 0) s.local)
          (sym (h.turn.becomes.others j other)) p);
      black = λ j other b.
          subst (λ (k : ℕ). IsBlack k (d j).local) cycle
          (subst (λ (s : NodeState). IsBlack (cycle_of c 0) s.local)
          (sym (h.turn.becomes.others j other)) b);
      owed = λ j other.
          ap (λ (s : NodeState). s.local.ring.earlier) (h.turn.becomes.others j other);
      near = λ below. ⊎_elim
          {C = (((ringed c).black i → (ringed d).black i)
          × ((c i).local.ring.earlier ≤ℤ (d i).local.ring.earlier)) ⊎ (ringed d).black i}
          (λ kept. inl ((λ b. black (kept.0 b)), omega (arith, ints, kept.1, owed)))
          (λ is. inr (black is))
          (h.near below);
      far = λ above. ⊎_elim
          {C = ((ringed c).passive i
          → (ringed d).passive i × ((d i).local.ring.earlier ≡ (c i).local.ring.earlier))
          ⊎ Loud n (ringed c) t}
          (λ calm. inl (λ p. (passive (calm p).0, owed ∙ (calm p).1)))
          (λ loud. inr loud)
          (h.far above);
    } in
    safra-step step
