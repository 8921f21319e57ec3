-- The balances and the token's sum are at most what was ever sent and received.
use Rattle.std.proofs.Common.{◌≡◌, ◌≢◌, ℕ, suc, ℤ, pos, ◌+◌, ◌+ℤ◌, ◌-ℤ◌, ◌<◌, ◌≤◌, cond, ltb, List, [], ◌∷◌, ◌++◌, length, get_or, set, sym, ap, ◌∙◌, subst, ⊎_elim, arith, length-set, length-append, get_or-set_same, get_or-set_other}
use Rattle.std.specs.Prelude.{◌≤ℤ◌}
use Rattle.std.specs.List.{AllByRecursion}
use Rattle.std.proofs.lemmas.Int.{ints}
use Rattle.std.proofs.lemmas.Bool.{cases_Bool, cases_eq, cases_lt, cond-true, cond-false, lt-ltb, le-ltb}
use Rattle.ids.specs.Limits.{Shaped}
use Rattle.msg.specs.declared.body.Message.{Message}
use Rattle.model.specs.State.{LocalState, NodeState, got_from, sent_to}
use Rattle.model.specs.Steps.{append_all}
use Rattle.model.specs.Cuts.{Cut, taken}
use Rattle.model.specs.Agreement.{total}
use Rattle.laws.proofs.StepFacts.{append_all-grows}
use Rattle.laws.proofs.Sums.{total-one, total-le, total-nonneg}
use Rattle.laws.proofs.Turns.{Turn, at_turn}
use Rattle.laws.proofs.Invariant.{Base, numbers, Tally, above, Bound}

-- what was sent and received only grows
pub numbers-turn : {c d : Cut} {i : ℕ} {q : LocalState} {ms : List (ℕ × Message)} (n : ℕ)
    → Turn c d i q ms → (j : ℕ) → numbers n (c j) ≤ℤ numbers n (d j)
numbers-turn {c = c} {d = d} {i = i} {q = q} {ms = ms} n turn =
    at_turn (λ j s. numbers n (c j) ≤ℤ numbers n s) turn
    (total-le n (λ k. pos (length (sent_to (c i) k) + got_from (c i).local k))
    (λ k. pos (length (get_or (append_all (c i).sent ms) k []) + got_from q k))
    (λ k _.
    (let more = append_all-grows (c i).sent ms k in
    let wide : length (get_or (append_all (c i).sent ms) k [])
    ≡ length (sent_to (c i) k) + length more.0 =
    ap (λ (z : List Message). length z) more.1 ∙ length-append (sent_to (c i) k) more.0 in
    let heard = turn.heard k in
    omega (arith, ints, wide, heard))))
    (λ j _. omega (arith, ints))

above-le : (n t : ℕ) (f g : ℕ → ℤ) → ((j : ℕ) → f j ≤ℤ g j) → above n t f ≤ℤ above n t g
above-le n t f g all =
    total-le n (λ i. cond (ltb t i) (f i) (pos 0)) (λ i. cond (ltb t i) (g i) (pos 0))
    (λ j _. ⊎_elim {C = cond (ltb t j) (f j) (pos 0) ≤ℤ cond (ltb t j) (g j) (pos 0)}
    (λ yes_is.
    let a = cond-true (ltb t j) (f j) (pos 0) yes_is in
    let b = cond-true (ltb t j) (g j) (pos 0) yes_is in
    omega (arith, ints, a, b, all j))
    (λ no_is.
    let a = cond-false (ltb t j) (f j) (pos 0) no_is in
    let b = cond-false (ltb t j) (g j) (pos 0) no_is in
    omega (arith, ints, a, b))
    (cases_Bool (ltb t j)))

pub numbers-nonneg : (n : ℕ) (s : NodeState) → pos 0 ≤ℤ numbers n s
numbers-nonneg n s =
    total-nonneg n (λ k. pos (length (sent_to s k) + got_from s.local k))
    (λ k _. omega (arith, ints))

pub bound-turn : {c d : Cut} {i : ℕ} {q : LocalState} {ms : List (ℕ × Message)} {n t : ℕ} {z : ℤ}
    → Turn c d i q ms → Bound n c t z → Bound n d t z
bound-turn {c = c} {d = d} {n = n} {t = t} turn b =
    let more = above-le n t (λ i. numbers n (c i)) (λ i. numbers n (d i)) (numbers-turn n turn) in
    record { most = omega (arith, ints, more, b.most); least = omega (arith, ints, more, b.least) }

-- a token that has counted nothing
pub bound-none : (n : ℕ) (c : Cut) (t : ℕ) → Bound n c t (pos 0)
bound-none n c t =
    let least : pos 0 ≤ℤ above n t (λ i. numbers n (c i)) =
    total-nonneg n (λ i. cond (ltb t i) (numbers n (c i)) (pos 0))
    (λ j _. ⊎_elim {C = pos 0 ≤ℤ cond (ltb t j) (numbers n (c j)) (pos 0)}
    (λ yes_is.
    let a = cond-true (ltb t j) (numbers n (c j)) (pos 0) yes_is in
    let b = numbers-nonneg n (c j) in
    omega (arith, ints, a, b))
    (λ no_is.
    let a = cond-false (ltb t j) (numbers n (c j)) (pos 0) no_is in omega (arith, ints, a))
    (cases_Bool (ltb t j))) in
    record { most = least; least = omega (arith, ints, least) }

-- the token passes a node
pub above-next : (n t : ℕ) (f : ℕ → ℤ) → suc t < n → above n t f ≡ above n (suc t) f +ℤ f (suc t)
above-next n t f inside =
    total-one n (λ i. cond (ltb (suc t) i) (f i) (pos 0)) (λ i. cond (ltb t i) (f i) (pos 0))
    (suc t)
    (f (suc t)) inside
    (let a = cond-true (ltb t (suc t)) (f (suc t)) (pos 0) (lt-ltb t (suc t) (omega arith)) in
    let b =
    cond-false (ltb (suc t) (suc t)) (f (suc t)) (pos 0) (le-ltb (suc t) (suc t) (omega arith)) in
    omega (arith, ints, a, b))
    (λ j _ other. ⊎_elim {C = cond (ltb t j) (f j) (pos 0) ≡ cond (ltb (suc t) j) (f j) (pos 0)}
    (λ (past : suc t < j).
    cond-true (ltb t j) (f j) (pos 0) (lt-ltb t j (omega (arith, past)))
    ∙ sym (cond-true (ltb (suc t) j) (f j) (pos 0) (lt-ltb (suc t) j past)))
    (λ (before : j ≤ suc t).
    cond-false (ltb t j) (f j) (pos 0) (le-ltb t j (omega (arith, before, other)))
    ∙ sym (cond-false (ltb (suc t) j) (f j) (pos 0) (le-ltb (suc t) j before)))
    (cases_lt (suc t) j))

pub bound-forward : {c : Cut} {n t : ℕ} {z : ℤ} → suc t < n → Bound n c (suc t) z
    → Tally n (c (suc t)) → Bound n c t (z +ℤ (c (suc t)).local.ring.earlier)
bound-forward {c = c} {n = n} {t = t} {z = z} inside b tally =
    let step = above-next n t (λ i. numbers n (c i)) inside in
    record {
      most = omega (arith, ints, step, b.most, tally.plus_plus, tally.plus_minus);
      least = omega (arith, ints, step, b.least, tally.minus_plus, tally.minus_minus);
    }

-- ---- balances

-- nothing new is counted
pub tally-same : {c d : Cut} {i : ℕ} {q : LocalState} {ms : List (ℕ × Message)} {n : ℕ}
    → Turn c d i q ms → q.ring.earlier ≡ (c i).local.ring.earlier
    → q.ring.recent ≡ (c i).local.ring.recent → Tally n (c i) → Tally n (d i)
tally-same {c = c} {d = d} {i = i} {q = q} {n = n} turn earlier recent t =
    let more = numbers-turn n turn i in
    let e : (d i).local.ring.earlier ≡ (c i).local.ring.earlier =
    ap (λ (z : NodeState). z.local.ring.earlier) turn.becomes.changed ∙ earlier in
    let r : (d i).local.ring.recent ≡ (c i).local.ring.recent =
    ap (λ (z : NodeState). z.local.ring.recent) turn.becomes.changed ∙ recent in
    record {
      plus_plus = omega (arith, ints, more, e, r, t.plus_plus);
      plus_minus = omega (arith, ints, more, e, r, t.plus_minus);
      minus_plus = omega (arith, ints, more, e, r, t.minus_plus);
      minus_minus = omega (arith, ints, more, e, r, t.minus_minus);
    }

-- the node joins a cycle
pub tally-enter : {c d : Cut} {i : ℕ} {q : LocalState} {ms : List (ℕ × Message)} {n : ℕ}
    → Turn c d i q ms
    → q.ring.earlier ≡ (c i).local.ring.earlier +ℤ (c i).local.ring.recent
    → q.ring.recent ≡ pos 0 → Tally n (c i) → Tally n (d i)
tally-enter {c = c} {d = d} {i = i} {q = q} {n = n} turn earlier recent t =
    let more = numbers-turn n turn i in
    let e : (d i).local.ring.earlier ≡ (c i).local.ring.earlier +ℤ (c i).local.ring.recent =
    ap (λ (z : NodeState). z.local.ring.earlier) turn.becomes.changed ∙ earlier in
    let r : (d i).local.ring.recent ≡ pos 0 =
    ap (λ (z : NodeState). z.local.ring.recent) turn.becomes.changed ∙ recent in
    record {
      plus_plus = omega (arith, ints, more, e, r, t.plus_plus);
      plus_minus = omega (arith, ints, more, e, r, t.plus_plus);
      minus_plus = omega (arith, ints, more, e, r, t.minus_minus);
      minus_minus = omega (arith, ints, more, e, r, t.minus_minus);
    }

lengths-sent : (n : ℕ) (g : ℕ → ℕ) (sent : List (List Message)) (ms : List (ℕ × Message))
    → length sent ≡ n → AllByRecursion (λ m. m.0 < n) ms
    → total n (λ j. pos (length (get_or (append_all sent ms) j []) + g j))
    ≡ total n (λ j. pos (length (get_or sent j []) + g j)) +ℤ pos (length ms)
lengths-sent n g sent [] width all = omega (arith, ints)
lengths-sent n g sent ((to, x) ∷ ms) width all =
    let longer : List Message = get_or sent to [] ++ x ∷ [] in
    let one : total n (λ j. pos (length (get_or (set sent to longer) j []) + g j))
    ≡ total n (λ j. pos (length (get_or sent j []) + g j)) +ℤ pos 1 =
    total-one n (λ j. pos (length (get_or sent j []) + g j))
    (λ j. pos (length (get_or (set sent to longer) j []) + g j)) to (pos 1) all.0
    (let here : length (get_or (set sent to longer) to []) ≡ length (get_or sent to []) + 1 =
    ap (λ (z : List Message). length z)
    (get_or-set_same sent to longer []
    (let w : to < length sent = omega (arith, width, all.0) in w))
    ∙ length-append (get_or sent to []) (x ∷ []) in
    omega (arith, ints, here))
    (λ j _ other.
    ap (λ (z : List Message). pos (length z + g j)) (get_or-set_other sent to j longer [] other)) in
    let rest = lengths-sent n g (set sent to longer) ms (length-set sent to longer ∙ width) all.1 in
    omega (arith, ints, one, rest)

-- messages are sent, each counted once
pub record Sends (shape : Shaped) (c d : Cut) (i : ℕ) (q : LocalState) (ms : List (ℕ × Message))
    : Type 0 where
  pub base : Base shape c
  pub inside : i < shape.nodes
  pub turn : Turn c d i q ms
  pub got : q.got ≡ (c i).local.got
  pub all : AllByRecursion (λ m. m.0 < shape.nodes) ms
  pub earlier_more : ℕ
  pub recent_more : ℕ
  pub earlier : q.ring.earlier ≡ (c i).local.ring.earlier +ℤ pos earlier_more
  pub recent : q.ring.recent ≡ (c i).local.ring.recent +ℤ pos recent_more
  pub together : earlier_more + recent_more ≡ length ms

pub tally-sends : {shape : Shaped} {c d : Cut} {i : ℕ} {q : LocalState} {ms : List (ℕ × Message)}
    → Sends shape c d i q ms → Tally shape.nodes (c i) → Tally shape.nodes (d i)
tally-sends {shape = shape} {c = c} {d = d} {i = i} {q = q} {ms = ms} h t =
    let n : ℕ = shape.nodes in
    let more : numbers n (d i) ≡ numbers n (c i) +ℤ pos (length ms) =
    ap (λ (z : NodeState). numbers n z) h.turn.becomes.changed
    ∙ ap (λ (z : List ℕ).
    total n (λ j. pos (length (get_or (append_all (c i).sent ms) j []) + get_or z j 0))) h.got
    ∙ lengths-sent n (λ j. got_from (c i).local j) (c i).sent ms (h.base.width i h.inside) h.all in
    let e : (d i).local.ring.earlier ≡ (c i).local.ring.earlier +ℤ pos h.earlier_more =
    ap (λ (z : NodeState). z.local.ring.earlier) h.turn.becomes.changed ∙ h.earlier in
    let r : (d i).local.ring.recent ≡ (c i).local.ring.recent +ℤ pos h.recent_more =
    ap (λ (z : NodeState). z.local.ring.recent) h.turn.becomes.changed ∙ h.recent in
    record {
      plus_plus = omega (arith, ints, more, e, r, h.together, t.plus_plus);
      plus_minus = omega (arith, ints, more, e, r, h.together, t.plus_minus);
      minus_plus = omega (arith, ints, more, e, r, h.together, t.minus_plus);
      minus_minus = omega (arith, ints, more, e, r, h.together, t.minus_minus);
    }

-- one message is received, and counted at most once
pub record TakesOne (shape : Shaped) (c d : Cut) (i : ℕ) (q : LocalState) (j : ℕ) : Type 0 where
  pub base : Base shape c
  pub inside : i < shape.nodes
  pub sender : j < shape.nodes
  pub turn : Turn c d i q []
  pub got : q.got ≡ set (c i).local.got j (taken c j i + 1)
  pub earlier_less : ℕ
  pub recent_less : ℕ
  pub earlier : q.ring.earlier ≡ (c i).local.ring.earlier -ℤ pos earlier_less
  pub recent : q.ring.recent ≡ (c i).local.ring.recent -ℤ pos recent_less
  pub together : earlier_less + recent_less ≤ 1

pub tally-takes : {shape : Shaped} {c d : Cut} {i : ℕ} {q : LocalState} {j : ℕ}
    → TakesOne shape c d i q j → Tally shape.nodes (c i) → Tally shape.nodes (d i)
tally-takes {shape = shape} {c = c} {d = d} {i = i} {q = q} {j = j} h t =
    let n : ℕ = shape.nodes in
    let more : numbers n (d i) ≡ numbers n (c i) +ℤ pos 1 =
    ap (λ (z : NodeState). numbers n z) h.turn.becomes.changed
    ∙ ap (λ (z : List ℕ). total n (λ k. pos (length (sent_to (c i) k) + get_or z k 0))) h.got
    ∙ total-one n (λ k. pos (length (sent_to (c i) k) + got_from (c i).local k))
    (λ k. pos (length (sent_to (c i) k) + get_or (set (c i).local.got j (taken c j i + 1)) k 0)) j
    (pos 1) h.sender
    (let here : get_or (set (c i).local.got j (taken c j i + 1)) j 0 ≡ taken c j i + 1 =
    get_or-set_same (c i).local.got j (taken c j i + 1) 0
    (let w = h.sender in let v = h.base.heard i h.inside in omega (arith, w, v)) in
    omega (arith, ints, here))
    (λ k _ other.
    ap (λ (z : ℕ). pos (length (sent_to (c i) k) + z))
    (get_or-set_other (c i).local.got j k (taken c j i + 1) 0 other)) in
    let e : (d i).local.ring.earlier ≡ (c i).local.ring.earlier -ℤ pos h.earlier_less =
    ap (λ (z : NodeState). z.local.ring.earlier) h.turn.becomes.changed ∙ h.earlier in
    let r : (d i).local.ring.recent ≡ (c i).local.ring.recent -ℤ pos h.recent_less =
    ap (λ (z : NodeState). z.local.ring.recent) h.turn.becomes.changed ∙ h.recent in
    record {
      plus_plus = omega (arith, ints, more, e, r, h.together, t.plus_plus);
      plus_minus = omega (arith, ints, more, e, r, h.together, t.plus_minus);
      minus_plus = omega (arith, ints, more, e, r, h.together, t.minus_plus);
      minus_minus = omega (arith, ints, more, e, r, h.together, t.minus_minus);
    }

-- the other nodes are as they were
pub tallies-turn : {c d : Cut} {i : ℕ} {q : LocalState} {ms : List (ℕ × Message)} (n : ℕ)
    → Turn c d i q ms → Tally n (d i)
    → ((j : ℕ) → j < n → Tally n (c j))
    → (j : ℕ) → j < n → Tally n (d j)
tallies-turn {d = d} {i = i} n turn here all j inside = ⊎_elim {C = Tally n (d j)}
    (λ (e : j ≡ i). subst (λ (z : ℕ). Tally n (d z)) (sym e) here)
    (λ (other : j ≢ i).
    subst (λ (z : NodeState). Tally n z) (sym (turn.becomes.others j other)) (all j inside))
    (cases_eq j i)
