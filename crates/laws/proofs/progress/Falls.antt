-- Each receipt and each scan takes something off the work that is left, more than it sends. Only
-- the receipt of the token by a node that has joined doesn't.
use Rattle.std.proofs.Common.{◌≡◌, ℕ, ◌+◌, ◌<◌, ◌≤◌, ◌⊎◌, ltb, false, List, [], length, set, Some, refl, sym, ap, ◌∙◌, subst, ⊎_elim, arith, pos, ◌+ℤ◌, le_refl}
use Rattle.std.proofs.lemmas.Bool.{cond-false, le-ltb}
use Rattle.ids.specs.Limits.{Shaped}
use Rattle.ids.specs.declared.names.Ref.{Ref}
use Rattle.msg.specs.declared.body.Body.TheVariants as body
use Rattle.msg.specs.declared.body.Token.{Token}
use Rattle.msg.specs.declared.body.Message.{Message}
use Rattle.model.specs.declared.event.Answer.TheVariants as answer
use Rattle.model.specs.State.{LocalState, NodeState, got_from}
use Rattle.model.specs.Effects.{Work, Effect, at_rest, answers, then}
use Rattle.model.specs.Shading.{is_calm, see_to, join}
use Rattle.model.specs.Collecting.{scan, scanned}
use Rattle.model.specs.References.{IfAny}
use Rattle.model.specs.Steps.{counted, target_of, count_in, take_body, settled, taken_in, append_all}
use Rattle.model.specs.Cuts.{Cut, taken}
use Rattle.model.proofs.Shading.{see_to-none}
use Rattle.laws.proofs.Turns.{Turn, at_turn}
use Rattle.std.proofs.lemmas.Int.{ints}
use Rattle.model.specs.Agreement.{weighed, in_flight, load}
use Rattle.laws.proofs.Acting.{put, put-here, becomes-put}
use Rattle.laws.proofs.Flights.{load_sent, load-takes, flight-inside}
use Rattle.laws.proofs.Invariant.{cycle_of, Inv}
use Rattle.laws.proofs.Inner.{open-joined}
use Rattle.laws.proofs.Deliveries.{target-own}
use Rattle.laws.specs.Bounds.{sum_to, weight, flight, node_work, whole_node_work, work_left, whole_work}
use Rattle.laws.proofs.progress.Flights.{sum-one, total-sums, flight-sends}
use Rattle.laws.proofs.progress.Hearing.{Took, fit, stamp-latest, got-it, took-cycle}
use Rattle.laws.proofs.progress.Costs.{cost_sent, is_token, Receives, taken-pays, scan-pays}

-- ---- sums over nodes, of which one has changed

pub nodes-turn : {c d : Cut} {i : ℕ} {q : LocalState} {ms : List (ℕ × Message)} (n : ℕ)
    (f : LocalState → ℕ) → i < n → Turn c d i q ms
    → sum_to n (λ j. f (d j).local) + f (c i).local ≡ sum_to n (λ j. f (c j).local) + f q
nodes-turn {c = c} {d = d} {i = i} {q = q} n f inside turn =
    sum-one n (λ j. f (c j).local) (λ j. f (d j).local) i inside
    (λ j _ other. ap (λ (s : NodeState). f s.local) (turn.becomes.others j other))
    ∙ ap (λ (s : NodeState). sum_to n (λ j. f (c j).local) + f s.local) turn.becomes.changed

-- The work falls by more than the messages that were sent. It doesn't grow together with what the
-- next cycle may have to do.
pub record Falls (n : ℕ) (c d : Cut) (ms : List (ℕ × Message)) : Type 0 where
  pub cycle : cycle_of d 0 ≡ cycle_of c 0
  pub work : work_left n d + length ms + 1 ≤ work_left n c
  pub both : work_left n d + whole_work n d ≤ work_left n c + whole_work n c

-- the work in terms of a cycle that the first node is in
abbrev work_in : ℕ → ℕ → Cut → ℕ
work_in n cycle c = flight n c + sum_to n (λ i. node_work cycle (c i).local)

-- the work after a step, in terms of the changed node
pub record Change (n : ℕ) (c d : Cut) (p q : LocalState) (ms : List (ℕ × Message)) (paid : ℕ)
    : Type 0 where
  pub cycle : cycle_of d 0 ≡ cycle_of c 0
  pub flown : flight n d + paid ≤ flight n c + load_sent weight ms
  pub nodes : sum_to n (λ j. node_work (cycle_of c 0) (d j).local) + node_work (cycle_of c 0) p
      ≡ sum_to n (λ j. node_work (cycle_of c 0) (c j).local) + node_work (cycle_of c 0) q
  pub held : whole_work n d + whole_node_work p ≡ whole_work n c + whole_node_work q

pub change-work : {n : ℕ} {c d : Cut} {p q : LocalState} {ms : List (ℕ × Message)} {paid : ℕ}
    → Change n c d p q ms paid
    → work_left n d + node_work (cycle_of c 0) p + paid
    ≤ work_left n c + node_work (cycle_of c 0) q + load_sent weight ms
change-work {n = n} {c = c} {d = d} {p = p} h =
    let same : work_left n d ≡ work_in n (cycle_of c 0) d = ap (λ (z : ℕ). work_in n z d) h.cycle in
    omega (arith, same, h.flown, h.nodes)

pub falls-by : {n : ℕ} {c d : Cut} {p q : LocalState} {ms : List (ℕ × Message)} {paid : ℕ}
    → Change n c d p q ms paid
    → node_work (cycle_of c 0) q + cost_sent ms + 1 ≤ node_work (cycle_of c 0) p + paid
    → node_work (cycle_of c 0) q + whole_node_work q + cost_sent ms + 1
    ≤ node_work (cycle_of c 0) p + whole_node_work p + paid
    → Falls n c d ms
falls-by h work both = record {
  cycle = h.cycle;
  work = omega (arith, change-work h, work);
  both = omega (arith, change-work h, h.held, both);
}

-- nothing is received
pub event-change : {c d : Cut} {i : ℕ} {q : LocalState} {ms : List (ℕ × Message)} (n : ℕ) → i < n
    → Turn c d i q ms → q.got ≡ (c i).local.got → q.phases.cycle ≡ cycle_of c i
    → Change n c d (c i).local q ms 0
event-change {c = c} n inside turn got cycle = record {
  cycle = at_turn (λ j s. s.local.phases.cycle ≡ cycle_of c j) turn cycle (λ j _. refl) 0;
  flown = omega (arith, flight-sends n inside turn got);
  nodes = nodes-turn n (node_work (cycle_of c 0)) inside turn;
  held = nodes-turn n whole_node_work inside turn;
}

-- ---- a receipt

module _ {shape : Shaped} {c d : Cut} {from to : ℕ} {x : Message} (h : Took shape c d from to x)
  where
    abbrev n : ℕ
    n = shape.nodes

    abbrev effect_of : Effect
    effect_of = taken_in (c to).local from (taken c from to + 1) x.stamp x.body

    pub flight-takes : flight n d + weight x ≤ flight n c + load_sent weight effect_of.sends
    flight-takes =
        let q : LocalState = effect_of.local in
        let ms : List (ℕ × Message) = effect_of.sends in
        let between : NodeState = record { local = q; sent = (c to).sent } in
        let middle : Cut = put c to between in
        let here : middle to ≡ between = put-here c to between in
        let first : Turn c middle to q [] =
        record { becomes = becomes-put c to between; heard = h.turn.heard } in
        let last : Turn middle d to q ms = record {
          becomes = record {
            changed =
                h.turn.becomes.changed
                ∙ ap (λ (z : NodeState). record { local = q; sent = append_all z.sent ms })
                (sym here);
            others = λ k other.
                h.turn.becomes.others k other
                ∙ sym ((becomes-put c to between).others k other);
          };
          heard = λ k.
              subst (λ (z : NodeState). got_from z.local k ≤ got_from q k) (sym here) (le_refl _);
        } in
        let sender = (flight-inside from to (taken c from to) x h.inv.base h.flight).0 in
        let takes : load n weight c ≡ load n weight middle +ℤ pos (weight x) =
        load-takes weight h.inv.base h.inside sender first h.flight (got-it h) in
        let before = total-sums n n (λ i j. weighed weight (in_flight c i j)) in
        let after = total-sums n n (λ i j. weighed weight (in_flight middle i j)) in
        let sends = flight-sends n h.inside last
        (ap (λ (z : NodeState). z.local.got) (sym here)) in
        let k : flight n c ≡ flight n middle + weight x =
        omega (arith, ints, takes, before, after) in
        omega (arith, k, sends)

    pub took-change : Change n c d (c to).local effect_of.local effect_of.sends (weight x)
    took-change = record {
      cycle = took-cycle h;
      flown = flight-takes;
      nodes = nodes-turn n (node_work (cycle_of c 0)) h.inside h.turn;
      held = nodes-turn n whole_node_work h.inside h.turn;
    }

    receives : Receives (cycle_of c 0) x.stamp x.body (c to).local
    receives = record {
      own =
          subst (λ (z : ℕ). IfAny (λ (r : Ref). r.node ≡ z) (target_of x.body))
          (sym (h.inv.base.own to h.inside))
          (target-own n c from to x.stamp x.body (fit h));
      timed = open-joined h.inv h.inside;
      ahead = λ ahead.
          (let s = stamp-latest h in
          ⊎_elim {C = x.stamp ≡ cycle_of c 0}
          (λ there. absurd (omega (arith, there, ahead, s)))
          (λ behind. omega (arith, behind.1, ahead, s))
          (h.inv.phased.apart to h.inside));
    }

    pub took-falls : (is_token x.body ≡ false) ⊎ (cycle_of c to < x.stamp)
        → Falls n c d effect_of.sends
    took-falls either =
        let spends = taken-pays (cycle_of c 0) from (taken c from to + 1) x.stamp x.body
        (c to).local receives either in
        falls-by took-change spends.work spends.both

-- ---- a scan

scan-cycle : (p : LocalState) → (scanned p).local.phases.cycle ≡ p.phases.cycle
unfolding scanned scan see_to
scan-cycle p = refl

pub scan-falls : {shape : Shaped} {c d : Cut} {i : ℕ} → Inv shape c → i < shape.nodes
    → is_calm (c i).local.heap ≡ false
    → Turn c d i (scanned (c i).local).local (scanned (c i).local).sends
    → (scanned (c i).local).local.got ≡ (c i).local.got
    → Falls shape.nodes c d (scanned (c i).local).sends
scan-falls {shape = shape} {c = c} {d = d} {i = i} inv inside grey turn got =
    let p : LocalState = (c i).local in
    let pays = scan-pays (cycle_of c 0) p grey (open-joined inv inside) in
    falls-by (event-change shape.nodes inside turn got (scan-cycle p)) (omega (arith, pays.0))
    (omega (arith, pays.0, pays.1))

-- ---- the token comes to a node that has joined

pub token-taken : (p : LocalState) (from number stamp : ℕ) (t : Token) → stamp ≤ p.phases.cycle
    → taken_in p from number stamp (body.Token t)
    ≡ record {
      local = record p {
        got = set p.got from number;
        ring = record p.ring { token = Some t };
      };
      sends = [];
      answer = answer.Received;
    }
unfolding taken_in settled count_in take_body
token-taken p from number stamp t here =
    ap (λ (w : Work). answers (then w (settled from number stamp (body.Token t))) answer.Received)
    (cond-false (ltb p.phases.cycle stamp) (join p stamp) (at_rest p) (le-ltb _ _ here))
    ∙ ap (λ (w : Work).
    answers
    (then (at_rest p) (λ _.
    counted from number stamp (body.Token t) (then w (take_body from stamp (body.Token t)))))
    answer.Received) (see_to-none (ltb stamp p.phases.cycle) p)
