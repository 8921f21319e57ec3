-- How many messages that pass a test are in flight, before and after one node sends messages or
-- receives one. The balances change with that number.
use Rattle.std.proofs.Common.{◌≡◌, ◌≢◌, ℕ, ℤ, pos, ◌+◌, ◌-◌, ◌+ℤ◌, ◌-ℤ◌, ◌<◌, ◌≤◌, Bool, true, cond, List, [], ◌∷◌, ◌++◌, length, drop, get_or, set, Some, slice_get, refl, sym, ap, ◌∙◌, subst, ⊎_elim, arith, length-set, length-append, get_or-set_same, get_or-set_other}
use Rattle.std.specs.Prelude.{◌<ℤ◌, ◌≤ℤ◌}
use Rattle.std.specs.List.{AllByRecursion}
use Rattle.std.proofs.lemmas.Int.{ints}
use Rattle.std.proofs.lemmas.Bool.{cases_lt}
use Rattle.std.proofs.lemmas.List.{get_or_past}
use Rattle.ids.specs.Limits.{Shaped}
use Rattle.msg.specs.declared.body.Message.{Message}
use Rattle.model.specs.State.{LocalState, NodeState, got_from, sent_to}
use Rattle.model.specs.Steps.{append_all}
use Rattle.model.specs.Cuts.{Cut, taken, IsInFlight}
use Rattle.model.specs.Agreement.{total, weighed, in_flight, load, flow, is_counted, balance}
use Rattle.model.proofs.Lookups.{at_set_if, slice_get-drop}
use Rattle.laws.proofs.Sums.{total-same, total-one, total-part, total-nonneg, weighed-push, weighed-take, weighed-at}
use Rattle.laws.proofs.Turns.{Turn, at_turn}
use Rattle.laws.proofs.Base.{inside-where}
use Rattle.laws.proofs.Invariant.{cycle_of, Base, Flows, is_fresh, fresh_balance}

-- the weights of sent messages, added
abbrev pub load_sent : (Message → ℕ) → List (ℕ × Message) → ℕ
load_sent g [] = 0
load_sent g (m ∷ ms) = g m.1 + load_sent g ms

-- how many of the sent messages pass
abbrev pub number_sent : (Message → Bool) → List (ℕ × Message) → ℕ
number_sent f ms = load_sent (λ x. cond (f x) 1 0) ms

-- the weights of one sender's messages from the given places on
abbrev row : ℕ → (Message → ℕ) → (ℕ → ℕ) → List (List Message) → ℤ
row n f g sent = total n (λ to. pos (weighed f (drop (g to) (get_or sent to []))))

row-one : {n : ℕ} (f : Message → ℕ) (g : ℕ → ℕ) (sent : List (List Message)) (to : ℕ)
    (x : Message) → length sent ≡ n → to < n → g to ≤ length (get_or sent to [])
    → row n f g (set sent to (get_or sent to [] ++ x ∷ []))
    ≡ row n f g sent +ℤ pos (f x)
row-one {n = n} f g sent to x width inside within =
    let longer : List Message = get_or sent to [] ++ x ∷ [] in
    let here : get_or (set sent to longer) to [] ≡ longer =
    get_or-set_same sent to longer []
    (let k : to < length sent = omega (arith, width, inside) in k) in
    total-one n (λ k. pos (weighed f (drop (g k) (get_or sent k []))))
    (λ k. pos (weighed f (drop (g k) (get_or (set sent to longer) k []))))
    to (pos (f x)) inside
    (let e : weighed f (drop (g to) (get_or (set sent to longer) to []))
    ≡ weighed f (drop (g to) (get_or sent to [])) + f x =
    ap (λ (z : List Message). weighed f (drop (g to) z)) here
    ∙ weighed-push f (g to) (get_or sent to []) x within in
    omega (arith, ints, e))
    (λ k _ other.
    ap (λ (z : List Message). pos (weighed f (drop (g k) z)))
    (get_or-set_other sent to k longer [] other))

row-sends : (n : ℕ) (f : Message → ℕ) (g : ℕ → ℕ) (sent : List (List Message))
    (ms : List (ℕ × Message)) → length sent ≡ n → ((to : ℕ) → g to ≤ length (get_or sent to []))
    → AllByRecursion (λ m. m.0 < n) ms
    → row n f g (append_all sent ms) ≡ row n f g sent +ℤ pos (load_sent f ms)
row-sends n f g sent [] width within all = omega (arith, ints)
row-sends n f g sent ((to, x) ∷ ms) width within all =
    let longer : List Message = get_or sent to [] ++ x ∷ [] in
    let first = row-one f g sent to x width all.0 (within to) in
    let rest = row-sends n f g (set sent to longer) ms (length-set sent to longer ∙ width)
    (λ k.
    at_set_if (λ z. g k ≤ length z) sent to k longer []
    (λ (e : to ≡ k).
    let w : g k ≤ length (get_or sent to []) =
    subst (λ (z : ℕ). g k ≤ length (get_or sent z [])) (sym e) (within k) in
    omega (arith, w, length-append (get_or sent to []) (x ∷ []))) (within k))
    all.1 in
    omega (arith, ints, first, rest)

-- messages are sent, and none is received
pub load-sends : {shape : Shaped} {c d : Cut} {i : ℕ} {q : LocalState} {ms : List (ℕ × Message)}
    (f : Message → ℕ) → Base shape c → i < shape.nodes → Turn c d i q ms
    → q.got ≡ (c i).local.got → AllByRecursion (λ m. m.0 < shape.nodes) ms
    → load shape.nodes f d ≡ load shape.nodes f c +ℤ pos (load_sent f ms)
load-sends {shape = shape} {c = c} {d = d} {i = i} {ms = ms} f base inside turn got all =
    let n : ℕ = shape.nodes in
    let heard : (from to : ℕ) → taken d from to ≡ taken c from to =
    λ from to.
    at_turn (λ j s. got_from s.local from ≡ taken c from j) turn
    (ap (λ (z : List ℕ). get_or z from 0) got) (λ j _. refl) to in
    total-one n (λ from. total n (λ to. pos (weighed f (in_flight c from to))))
    (λ from. total n (λ to. pos (weighed f (in_flight d from to))))
    i (pos (load_sent f ms)) inside
    (total-same n
    (λ to. pos (weighed f (drop (taken c i to) (get_or (append_all (c i).sent ms) to []))))
    (λ to. pos (weighed f (in_flight d i to)))
    (λ to _.
    ap (λ (z : ℕ). pos (weighed f (drop z (sent_to (d i) to)))) (heard i to)
    ∙ ap (λ (z : NodeState). pos (weighed f (drop (taken c i to) (sent_to z to))))
    turn.becomes.changed)
    ∙ row-sends n f (λ to. taken c i to) (c i).sent ms (base.width i inside)
    (λ to. base.within i to) all)
    (λ j _ other.
    total-same n (λ to. pos (weighed f (in_flight c j to)))
    (λ to. pos (weighed f (in_flight d j to)))
    (λ to _.
    ap (λ (z : ℕ). pos (weighed f (drop z (sent_to (d j) to)))) (heard j to)
    ∙ ap (λ (z : NodeState). pos (weighed f (drop (taken c j to) (sent_to z to))))
    (turn.becomes.others j other)))

-- one message is received, and none is sent
pub load-takes : {shape : Shaped} {c d : Cut} {i j : ℕ} {q : LocalState} {x : Message}
    (f : Message → ℕ) → Base shape c → i < shape.nodes → j < shape.nodes
    → Turn c d i q [] → IsInFlight c j i (taken c j i) x
    → q.got ≡ set (c i).local.got j (taken c j i + 1)
    → load shape.nodes f c ≡ load shape.nodes f d +ℤ pos (f x)
load-takes {shape = shape} {c = c} {d = d} {i = i} {j = j} {q = q} {x = x} f base inside sender turn
    flight got =
    let n : ℕ = shape.nodes in
    let sent : (from to : ℕ) → sent_to (d from) to ≡ sent_to (c from) to =
    λ from to.
    at_turn (λ l s. sent_to s to ≡ sent_to (c l) to) turn refl (λ l _. refl) from in
    let here : got_from q j ≡ taken c j i + 1 =
    ap (λ (z : List ℕ). get_or z j 0) got
    ∙ get_or-set_same (c i).local.got j (taken c j i + 1) 0
    (let w : j < length (c i).local.got = omega (arith, sender, base.heard i inside) in w) in
    let there : taken d j i ≡ taken c j i + 1 =
    ap (λ (z : NodeState). got_from z.local j) turn.becomes.changed ∙ here in
    let elsewhere : (from to : ℕ) → (from ≡ j → to ≢ i) → taken d from to ≡ taken c from to =
    λ from to apart.
    at_turn (λ l s. (from ≡ j → l ≢ i) → got_from s.local from ≡ taken c from l) turn
    (λ a.
    ap (λ (z : List ℕ). get_or z from 0) got
    ∙ get_or-set_other (c i).local.got j from (taken c j i + 1) 0 (λ (e : from ≡ j). a e refl))
    (λ l _ a. refl) to apart in
    total-one n (λ from. total n (λ to. pos (weighed f (in_flight d from to))))
    (λ from. total n (λ to. pos (weighed f (in_flight c from to))))
    j (pos (f x)) sender
    (total-one n (λ to. pos (weighed f (in_flight d j to)))
    (λ to. pos (weighed f (in_flight c j to))) i (pos (f x)) inside
    (let e : weighed f (in_flight c j i) ≡ weighed f (in_flight d j i) + f x =
    weighed-take f (taken c j i) (sent_to (c j) i) x flight.there
    ∙ ap (λ (z : ℕ). weighed f (drop z (sent_to (c j) i)) + f x) (sym there)
    ∙ ap (λ (z : List Message). weighed f (drop (taken d j i) z) + f x)
    (sym (sent j i)) in
    omega (arith, ints, e))
    (λ to _ other.
    ap (λ (z : ℕ). pos (weighed f (drop z (sent_to (c j) to))))
    (sym (elsewhere j to (λ _. other)))
    ∙ ap (λ (z : List Message). pos (weighed f (drop (taken d j to) z))) (sym (sent j to))))
    (λ k _ other.
    total-same n (λ to. pos (weighed f (in_flight d k to)))
    (λ to. pos (weighed f (in_flight c k to)))
    (λ to _.
    ap (λ (z : ℕ). pos (weighed f (drop z (sent_to (c k) to))))
    (sym (elsewhere k to (λ (e : k ≡ j). absurd (other e))))
    ∙ ap (λ (z : List Message). pos (weighed f (drop (taken d k to) z))) (sym (sent k to))))

-- messages are in flight only between nodes of the space
pub flight-inside : {shape : Shaped} {c : Cut} (from to place : ℕ) (x : Message) → Base shape c
    → IsInFlight c from to place x → (from < shape.nodes) × (to < shape.nodes)
flight-inside {shape = shape} {c = c} from to place x base flight =
    let sender : from < shape.nodes =
    inside-where from (λ z. slice_get (sent_to z to) place ≡ Some x) base flight.there
    (λ e. absurd cc) in (
      sender,
      ⊎_elim {C = to < shape.nodes} (λ inside. inside)
          (λ (past : shape.nodes ≤ to).
          absurd (let none : sent_to (c from) to ≡ [] =
          get_or_past (c from).sent to []
          (let w : length (c from).sent ≤ to = omega (arith, past, base.width from sender) in w) in
          let never : slice_get [] place ≡ Some x =
          subst (λ (z : List Message). slice_get z place ≡ Some x) none flight.there in
          cc))
          (cases_lt to shape.nodes),
    )

-- what is in flight weighs at most as much as all that is
pub load-holds : {shape : Shaped} {c : Cut} (f : Message → ℕ) (from to place : ℕ) (x : Message)
    → Base shape c → IsInFlight c from to place x → pos (f x) ≤ℤ load shape.nodes f c
load-holds {shape = shape} {c = c} f from to place x base flight =
    let n : ℕ = shape.nodes in
    let inside = flight-inside from to place x base flight in
    let offset : ℕ = place - taken c from to in
    let there : slice_get (in_flight c from to) offset ≡ Some x =
    slice_get-drop (sent_to (c from) to) (taken c from to) offset
    ∙ ap (slice_get (sent_to (c from) to))
    (let e : taken c from to + offset ≡ place = omega (arith, flight.later) in e)
    ∙ flight.there in
    let some : f x ≤ weighed f (in_flight c from to) =
    weighed-at f (in_flight c from to) offset x there in
    let in_row : pos (weighed f (in_flight c from to))
    ≤ℤ total n (λ k. pos (weighed f (in_flight c from k))) =
    total-part n (λ k. pos (weighed f (in_flight c from k))) to inside.1
    (λ k _. omega (arith, ints)) in
    let rows : total n (λ k. pos (weighed f (in_flight c from k))) ≤ℤ load n f c =
    total-part n (λ j. total n (λ k. pos (weighed f (in_flight c j k)))) from inside.0
    (λ j _.
    total-nonneg n (λ k. pos (weighed f (in_flight c j k))) (λ k _. omega (arith, ints))) in
    omega (arith, ints, some, in_row, rows)

pub flow-positive : {shape : Shaped} {c : Cut} (f : Message → Bool) (from to place : ℕ)
    (x : Message) → Base shape c → IsInFlight c from to place x → f x ≡ true
    → pos 0 <ℤ flow shape.nodes f c
flow-positive f from to place x base flight passes =
    let one : ◌≡◌ {A = ℕ} (cond (f x) 1 0) 1 = ap (λ (b : Bool). cond b 1 0) passes in
    omega (arith, ints, one, load-holds (λ y. cond (f y) 1 0) from to place x base flight)

-- ---- balances change with what is in flight

total-turn : {c d : Cut} {i : ℕ} {q : LocalState} {ms : List (ℕ × Message)} (n : ℕ)
    (b : LocalState → ℤ) (z : ℤ) → Turn c d i q ms → i < n → b q ≡ b (c i).local +ℤ z
    → total n (λ j. b (d j).local) ≡ total n (λ j. b (c j).local) +ℤ z
total-turn {c = c} {d = d} {i = i} n b z turn inside here =
    total-one n (λ j. b (c j).local) (λ j. b (d j).local) i z inside
    (ap (λ (s : NodeState). b s.local) turn.becomes.changed ∙ here)
    (λ j _ other. ap (λ (s : NodeState). b s.local) (turn.becomes.others j other))

pub record SendsCounted (shape : Shaped) (c d : Cut) (i : ℕ) (q : LocalState)
    (ms : List (ℕ × Message)) : Type 0 where
  pub base : Base shape c
  pub inside : i < shape.nodes
  pub turn : Turn c d i q ms
  pub cycle : cycle_of d 0 ≡ cycle_of c 0
  pub got : q.got ≡ (c i).local.got
  pub all : AllByRecursion (λ m. m.0 < shape.nodes) ms
  pub counted : balance (cycle_of c 0) q
      ≡ balance (cycle_of c 0) (c i).local +ℤ pos (number_sent (is_counted (cycle_of c 0)) ms)
  pub fresh : fresh_balance (cycle_of c 0) q
      ≡ fresh_balance (cycle_of c 0) (c i).local +ℤ pos (number_sent (is_fresh (cycle_of c 0)) ms)

abbrev FlowsAt : ℕ → Cut → ℕ → Type 0
FlowsAt n c cycle =
    (total n (λ i. balance cycle (c i).local) ≡ flow n (is_counted cycle) c)
    × (total n (λ i. fresh_balance cycle (c i).local) ≡ flow n (is_fresh cycle) c)

flows-at : (n : ℕ) (c : Cut) (cycle : ℕ) → cycle_of c 0 ≡ cycle → FlowsAt n c cycle → Flows n c
flows-at n c cycle same at =
    let back = subst (FlowsAt n c) (sym same) at in record { counted = back.0; fresh = back.1 }

pub flows-sent : {shape : Shaped} {c d : Cut} {i : ℕ} {q : LocalState} {ms : List (ℕ × Message)}
    → SendsCounted shape c d i q ms → Flows shape.nodes c → Flows shape.nodes d
flows-sent {shape = shape} {c = c} {d = d} {ms = ms} h flows =
    let cycle : ℕ = cycle_of c 0 in
    let counted = load-sends (λ x. cond (is_counted cycle x) 1 0) h.base h.inside h.turn h.got
    h.all in
    let fresh = load-sends (λ x. cond (is_fresh cycle x) 1 0) h.base h.inside h.turn h.got h.all in
    let owed = total-turn shape.nodes (balance cycle) _ h.turn h.inside h.counted in
    let new = total-turn shape.nodes (fresh_balance cycle) _ h.turn h.inside h.fresh in
    flows-at shape.nodes d cycle h.cycle (
      omega (arith, ints, counted, owed, flows.counted),
      omega (arith, ints, fresh, new, flows.fresh),
    )

pub record TakesCounted (shape : Shaped) (c d : Cut) (i : ℕ) (q : LocalState) (j : ℕ) (x : Message)
    : Type 0 where
  pub base : Base shape c
  pub inside : i < shape.nodes
  pub turn : Turn c d i q []
  pub cycle : cycle_of d 0 ≡ cycle_of c 0
  pub flight : IsInFlight c j i (taken c j i) x
  pub got : q.got ≡ set (c i).local.got j (taken c j i + 1)
  pub counted : balance (cycle_of c 0) (c i).local
      ≡ balance (cycle_of c 0) q +ℤ pos (cond (is_counted (cycle_of c 0) x) 1 0)
  pub fresh : fresh_balance (cycle_of c 0) (c i).local
      ≡ fresh_balance (cycle_of c 0) q +ℤ pos (cond (is_fresh (cycle_of c 0) x) 1 0)

pub flows-taken : {shape : Shaped} {c d : Cut} {i : ℕ} {q : LocalState} {j : ℕ} {x : Message}
    → TakesCounted shape c d i q j x → Flows shape.nodes c → Flows shape.nodes d
flows-taken {shape = shape} {c = c} {d = d} {i = i} {q = q} {j = j} {x = x} h flows =
    let cycle : ℕ = cycle_of c 0 in
    let sender = (flight-inside j i (taken c j i) x h.base h.flight).0 in
    let counted = load-takes (λ x. cond (is_counted cycle x) 1 0) h.base h.inside sender h.turn
    h.flight h.got in
    let fresh = load-takes (λ x. cond (is_fresh cycle x) 1 0) h.base h.inside sender h.turn h.flight
    h.got in
    let k : ℤ = pos (cond (is_counted cycle x) 1 0) in
    let l : ℤ = pos (cond (is_fresh cycle x) 1 0) in
    let owed : total shape.nodes (λ a. balance cycle (d a).local)
    ≡ total shape.nodes (λ a. balance cycle (c a).local) +ℤ (pos 0 -ℤ k) =
    total-turn shape.nodes (balance cycle) (pos 0 -ℤ k) h.turn h.inside
    (omega (arith, ints, h.counted)) in
    let new : total shape.nodes (λ a. fresh_balance cycle (d a).local)
    ≡ total shape.nodes (λ a. fresh_balance cycle (c a).local) +ℤ (pos 0 -ℤ l) =
    total-turn shape.nodes (fresh_balance cycle) (pos 0 -ℤ l) h.turn h.inside
    (omega (arith, ints, h.fresh)) in
    flows-at shape.nodes d cycle h.cycle (
      omega (arith, ints, counted, owed, flows.counted),
      omega (arith, ints, fresh, new, flows.fresh),
    )
