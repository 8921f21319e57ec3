-- The token comes in at a node, or is passed. It takes one move of its budget, and nothing else
-- changes; or node 0 concludes.
use Rattle.std.proofs.Common.{◌≡◌, ◌≢◌, ℕ, zero, suc, ◌+◌, ◌-◌, ◌*◌, ◌<◌, ◌≤◌, ◌⊎◌, ◌==◌, true, false, List, [], ◌∷◌, length, map, set, Some, refl, sym, ap, ◌∙◌, subst, inl, inr, arith, suc-mul}
use Rattle.std.specs.List.{AllByRecursion}
use Rattle.std.proofs.lemmas.Bool.{both_ways, cond_both}
use Rattle.ids.specs.Limits.{Shaped, IsShape}
use Rattle.msg.specs.declared.body.Body.{Body}
use Rattle.msg.specs.declared.body.Body.TheVariants as body
use Rattle.msg.specs.declared.body.Token.{Token}
use Rattle.msg.specs.declared.body.Message.{Message}
use Rattle.model.specs.declared.event.Event.TheVariants as event
use Rattle.model.specs.declared.event.Answer.TheVariants as answer
use Rattle.model.specs.State.{Heap, LocalState, NodeState}
use Rattle.model.specs.Effects.{Effect}
use Rattle.model.specs.Counting.{stamped, to_others}
use Rattle.model.specs.Collecting.{whitened, without_token, new_token, forwarded, is_concluded, passed}
use Rattle.model.specs.Cuts.{Cut, taken, IsInFlight}
use Rattle.model.specs.Agreement.{is_counted}
use Rattle.laws.proofs.Turns.{Turn, at_turn, StandsAt, sent-flies}
use Rattle.model.proofs.Leaving.{own-stands}
use Rattle.laws.proofs.Flights.{load_sent}
use Rattle.laws.proofs.Invariant.{phases_of, cycle_of, Marking, at_node, on_way, IsAt, is_held, is_sent}
use Rattle.laws.proofs.Rounds.{some-of}
use Rattle.laws.proofs.Unwrapping.{unwrapped}
use Rattle.laws.proofs.Live.{Whole, several}
use Rattle.laws.specs.Strategy.{has_token}
use Rattle.laws.specs.Bounds.{weight, flight, node_work, whole_node_work, work_left, whole_work}
use Rattle.laws.proofs.progress.Flights.{taken-same}
use Rattle.model.proofs.References.{all-append}
use Rattle.laws.proofs.progress.Choices.{Still}
use Rattle.laws.proofs.progress.Spaces.{taking}
use Rattle.laws.proofs.progress.Hearing.{Took}
use Rattle.laws.proofs.progress.Costs.{others-few, others-load}
use Rattle.laws.proofs.progress.Falls.{Change, change-work, event-change, took-change, token-taken}
use Rattle.laws.proofs.progress.Stages.{Stage, stage-same, SameRing, ring-turn, budget-at, AtSpot, Passing, sends_on, concludes, passing, Holding, sure-concludes, handed-stage, probed-stage, Budget}

-- A step in which a node keeps its heap and its cycle, and that sends no counted messages.
pub record Idles (n : ℕ) (c d : Cut) (i : ℕ) (q : LocalState) (ms : List (ℕ × Message)) : Type 0
  where
    pub turn : Turn c d i q ms
    pub heap : q.heap ≡ (c i).local.heap
    pub cycle : (j : ℕ) → cycle_of d j ≡ cycle_of c j
    pub grey : (j : ℕ) → (d j).local.heap.grey ≡ (c j).local.heap.grey
    pub work : work_left n d ≤ work_left n c + load_sent weight ms
    pub held : whole_work n d ≡ whole_work n c
    pub flown : flight n d ≤ flight n c + load_sent weight ms
    pub uncounted : (cycle : ℕ) → AllByRecursion (λ m. is_counted cycle m.1 ≡ false) ms

pub data TokenMove (n : ℕ) (c d : Cut) (left budget : ℕ) : Type 0 where
  moves_on : (i : ℕ) (q : LocalState) (ms : List (ℕ × Message)) → Idles n c d i q ms
      → length ms ≤ 1 → load_sent weight ms ≡ 0 → Budget n d left (budget - 1)
      → TokenMove n c d left budget
  ends : (i : ℕ) (q : LocalState) (ms : List (ℕ × Message)) → Idles n c d i q ms
      → length ms ≤ n → load_sent weight ms ≤ n → (phases_of d 0).ended ≡ cycle_of c 0
      → TokenMove n c d left budget

-- if the changed node keeps its heap and its cycle
idles-by : {n : ℕ} {c d : Cut} {i paid : ℕ} {q : LocalState} {ms : List (ℕ × Message)}
    → Turn c d i q ms → Change n c d (c i).local q ms paid
    → q.phases.cycle ≡ (c i).local.phases.cycle → q.heap ≡ (c i).local.heap
    → ((cycle : ℕ) → AllByRecursion (λ m. is_counted cycle m.1 ≡ false) ms)
    → Idles n c d i q ms
idles-by {c = c} {i = i} {q = q} turn change cycle heap uncounted =
    let p : LocalState = (c i).local in
    let first : ℕ = cycle_of c 0 in
    let work : node_work first q ≡ node_work first p =
    ap (λ (z : ℕ). node_work first (record q { phases = record q.phases { cycle = z } })) cycle
    ∙ ap (λ (z : Heap). node_work first (record p { heap = z })) heap in
    let same : whole_node_work q ≡ whole_node_work p =
    ap (λ (z : Heap). whole_node_work (record p { heap = z })) heap in
    record {
      turn = turn;
      heap = heap;
      cycle = at_turn (λ j s. s.local.phases.cycle ≡ cycle_of c j) turn cycle (λ j _. refl);
      grey = at_turn (λ j s. s.local.heap.grey ≡ (c j).local.heap.grey) turn
          (ap (λ z. z.grey) heap) (λ j _. refl);
      work = omega (arith, change-work change, work);
      held = omega (arith, change.held, same);
      flown = omega (arith, change.flown);
      uncounted = uncounted;
    }

-- ---- the token comes in

-- the node holds the token afterwards
abbrev pub holding : Cut → ℕ → ℕ → Token → LocalState
holding c from to t =
    record (c to).local {
      got = set (c to).local.got from (taken c from to + 1);
      ring = record (c to).local.ring { token = Some t };
    }

-- the effect, at a node that has joined
pub token-effect : (c : Cut) (from to : ℕ) (x : Message) (t : Token) → x.body ≡ body.Token t
    → x.stamp ≤ cycle_of c to
    → taking c from to x
    ≡ record { local = holding c from to t; sends = []; answer = answer.Received }
token-effect c from to x t is here =
    ap (λ (b : Body). taking c from to (record { stamp = x.stamp; body = b })) is
    ∙ token-taken (c to).local from (taken c from to + 1) x.stamp t here

module _ {shape : Shaped} {c d : Cut} {from to : ℕ} {x : Message} (h : Took shape c d from to x)
    (t : Token) (is : x.body ≡ body.Token t) (here : x.stamp ≤ cycle_of c to) where
  abbrev n : ℕ
  n = shape.nodes

  token-turn : Turn c d to (holding c from to t) []
  token-turn =
      subst (λ (y : Effect). Turn c d to y.local y.sends) (token-effect c from to x t is here)
      h.turn

  pub token-idles : Idles n c d to (holding c from to t) []
  token-idles =
      idles-by token-turn
      (subst (λ (y : Effect). Change n c d (c to).local y.local y.sends (weight x))
      (token-effect c from to x t is here) (took-change h)) refl refl (λ _. tt)

  pub token-comes : {left budget : ℕ} → Marking (phases_of c 0) → Budget n c left budget
      → TokenMove n c d left budget
  token-comes {left} {budget} marking s =
      let whole : x ≡ record { stamp = x.stamp; body = body.Token t } =
      ap (λ (b : Body). record { stamp = x.stamp; body = b }) is in
      let at : IsAt c t (on_way from to (taken c from to)) =
      is_sent from to (taken c from to) x.stamp
      (subst (IsInFlight c from to (taken c from to)) whole h.flight) in
      let b = budget-at t (on_way from to (taken c from to)) h.inv marking at s in
      let idle = token-idles in
      let same : SameRing c d = ring-turn idle.turn refl refl refl in
      moves_on to (holding c from to t) [] idle
      (omega arith) refl
      (record {
        token = t;
        spot = at_node to;
        there = is_held to (ap (λ (z : NodeState). z.local.ring.token) idle.turn.becomes.changed);
        stage = b.stage;
        is = subst (λ (z : ℕ). Stage n z d to t b.stage) (sym (idle.cycle 0))
            (stage-same b.stage same b.is);
        near = h.inside;
        enough = omega (arith, b.enough);
      })

-- ---- the token is passed

pub record Passes (shape : Shaped) (c d : Cut) (i : ℕ) : Type 0 where
  pub limits : IsShape shape
  pub whole : Whole shape c
  pub inside : i < shape.nodes
  pub has : has_token c i ≡ true
  pub turn : Turn c d i (passed (c i).local).local (passed (c i).local).sends

-- a pass sends few messages
pub passed-few : (p : LocalState) → 1 ≤ p.shape.nodes → length (passed p).sends ≤ p.shape.nodes
passed-few p several = by (passing p)
  where
    by : Passing p (passed p) → length (passed p).sends ≤ p.shape.nodes
    by (sends_on t u why local sends) = omega (arith, ap length sends, several)
    by (concludes first local sends) =
        (let l = others-few (passed p).local body.Ended p.shape.nodes in
        omega (arith, ap length sends, l))

others-uncounted : (q : LocalState) (k : ℕ) (cycle : ℕ)
    → AllByRecursion (λ y. is_counted cycle y.1 ≡ false) (to_others q body.Ended k)
others-uncounted q zero cycle = tt
others-uncounted q (suc k) cycle =
    all-append (λ y. is_counted cycle y.1 ≡ false) (to_others q body.Ended k) _
    (others-uncounted q k cycle)
    (cond_both (k == q.own) [] ((k, stamped q body.Ended) ∷ [])
    (λ (z : List (ℕ × Message)). AllByRecursion (λ y. is_counted cycle y.1 ≡ false) z)
    (λ _. tt) (λ _. (refl, tt)))

-- what passing does: the token is sent on, or node 0 concludes
pub data PassMove (n : ℕ) (c d : Cut) (i : ℕ) : Type 0 where
  goes_on : (t : ℕ) (u : Token)
      → (((c i).local.own ≢ 0) × (t ≡ (c i).local.own - 1) × (u ≡ forwarded (c i).local.ring))
      ⊎ (((c i).local.own ≡ 0) × (is_concluded (c i).local.ring ≡ false)
      × (t ≡ (c i).local.shape.nodes - 1) × (u ≡ new_token))
      → Idles n c d i (record (c i).local { ring = whitened (without_token (c i).local.ring) })
      ((t, stamped (c i).local (body.Token u)) ∷ []) → PassMove n c d i
  concluded : (ms : List (ℕ × Message)) → Idles n c d i (passed (c i).local).local ms
      → length ms ≤ n → load_sent weight ms ≤ n → (phases_of d 0).ended ≡ cycle_of c 0
      → PassMove n c d i

module _ {shape : Shaped} {c d : Cut} {i : ℕ} (h : Passes shape c d i) where
  abbrev m : ℕ
  m = shape.nodes

  abbrev p : LocalState
  p = (c i).local

  own : p.own ≡ i
  own = h.whole.inv.base.own i h.inside

  nodes : p.shape.nodes ≡ m
  nodes = ap (λ (z : Shaped). z.nodes) (h.whole.inv.base.shapes i h.inside)

  idles : (q : LocalState) (ms : List (ℕ × Message)) → Turn c d i q ms → q.got ≡ p.got
      → q.phases.cycle ≡ p.phases.cycle → q.heap ≡ p.heap
      → ((cycle : ℕ) → AllByRecursion (λ m. is_counted cycle m.1 ≡ false) ms)
      → Idles m c d i q ms
  idles q ms turn got cycle heap uncounted =
      idles-by turn (event-change m h.inside turn got cycle) cycle heap uncounted

  pub pass-move : PassMove m c d i
  pass-move = by (passing p)
    where
      by : Passing p (passed p) → PassMove m c d i
      by (sends_on t u why local sends) =
          let sent : List (ℕ × Message) = (t, stamped p (body.Token u)) ∷ [] in
          let whiter : LocalState = record p { ring = whitened (without_token p.ring) } in
          let turn : Turn c d i whiter sent =
          subst (λ (z : LocalState). Turn c d i z sent) local
          (subst (Turn c d i (passed p).local) sends h.turn) in
          goes_on t u why (idles whiter sent turn refl refl refl (λ _. (refl, tt)))
      by (concludes first local sends) =
          let few : length (passed p).sends ≤ m =
          (let l = passed-few p (let k = several h.limits in omega (arith, k, nodes)) in
          omega (arith, l, nodes)) in
          let load : load_sent weight (passed p).sends ≤ m =
          (let l = others-load (passed p).local body.Ended p.shape.nodes (omega arith) in
          omega (arith, ap (load_sent weight) sends, l, nodes)) in
          concluded (passed p).sends
          (idles (passed p).local (passed p).sends h.turn
          (own-stands p (map length (c i).sent) event.Pass refl).got
          (ap (λ (z : LocalState). z.phases.cycle) local) (ap (λ (z : LocalState). z.heap) local)
          (λ cycle.
          subst (λ (z : List (ℕ × Message)). AllByRecursion (λ y. is_counted cycle y.1 ≡ false) z)
          (sym sends) (others-uncounted (passed p).local p.shape.nodes cycle)))
          few load
          (ap (λ (j : ℕ). (phases_of d j).ended) (sym (sym own ∙ first))
          ∙ ap (λ (s : NodeState). s.local.phases.ended) h.turn.becomes.changed
          ∙ ap (λ (z : LocalState). z.phases.ended) local
          ∙ ap (cycle_of c) (sym own ∙ first))

  module _ {left budget : ℕ} (marking : Marking (phases_of c 0)) (spends : Budget m c left budget)
      (still : Still m c) where
    abbrev token_here : Token
    token_here = (some-of p.ring.token h.has).0

    holder : Holding shape c i token_here
    holder = record {
      inv = h.whole.inv;
      several = several h.limits;
      marking = marking;
      inside = h.inside;
      held = (some-of p.ring.token h.has).1;
      unwrapped = unwrapped h.limits h.whole.inv h.whole.numbered i token_here
          (some-of p.ring.token h.has).1;
    }

    here : AtSpot m c left budget token_here (at_node i)
    here = budget-at token_here (at_node i) h.whole.inv marking (is_held i holder.held) spends

    -- the token is sent on
    sent-move : {t z : ℕ} {u : Token}
        → Idles m c d i (record p { ring = whitened (without_token p.ring) })
        ((t, stamped p (body.Token u)) ∷ []) → t < m → Stage m (cycle_of c 0) d t u z
        → z * (2 * m) + 2 * t + 1 < here.stage * (2 * m) + 2 * i
        → TokenMove m c d left budget
    sent-move {t} {z} {u} idle near stage less =
        let at : StandsAt d i t (stamped p (body.Token u)) =
        sent-flies idle.turn t (stamped p (body.Token u))
        (omega (arith, h.whole.inv.base.width i h.inside, near))
        (omega (arith, h.whole.inv.base.within i t, taken-same idle.turn refl i t))
        (inl refl) in
        moves_on i (record p { ring = whitened (without_token p.ring) })
        ((t, stamped p (body.Token u)) ∷ []) idle (omega arith) (omega arith)
        (record {
          token = u;
          spot = on_way i t at.place;
          there = is_sent i t at.place p.phases.cycle at.flight;
          stage = z;
          is = subst (λ (y : ℕ). Stage m y d t u z) (sym (idle.cycle 0)) stage;
          near = near;
          enough = omega (arith, here.enough, less);
        })

    pub token-passes : TokenMove m c d left budget
    token-passes = by pass-move
      where
        by : PassMove m c d i → TokenMove m c d left budget
        by (goes_on t u (inl why) idle) =
            let below : i ≡ suc t = omega (arith, own, why.0, why.1) in
            sent-move idle (omega (arith, below, h.inside))
            (handed-stage holder idle.turn below why.2 here.stage here.is)
            (omega (arith, below))
        by (goes_on t u (inr why) idle) =
            let zero_is : i ≡ 0 = sym own ∙ why.0 in
            let last : suc t ≡ m = omega (arith, nodes, why.2, h.inside) in
            let next =
            probed-stage holder idle.turn zero_is why.3 last here.stage
            here.is
            (λ e.
            both_ways _ why.1
            (sure-concludes holder still zero_is
            (subst (Stage m (cycle_of c 0) c i token_here) e here.is))) in
            let z : ℕ = next.0 in
            let rounds : suc z * (2 * m) ≡ here.stage * (2 * m) =
            ap (λ (y : ℕ). y * (2 * m)) next.1 in
            let one : suc z * (2 * m) ≡ z * (2 * m) + 2 * m = suc-mul z (2 * m) in
            sent-move idle (omega (arith, last)) next.2
            (omega (arith, rounds, one, zero_is, last))
        by (concluded ms idle few load ended) = ends i (passed p).local ms idle few load ended
