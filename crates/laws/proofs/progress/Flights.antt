-- Sums over nodes, and what is in flight after a node has received or sent messages.
use Rattle.std.proofs.Common.{◌≡◌, ◌≢◌, ℕ, zero, suc, pos, ◌+◌, ◌*◌, ◌<◌, ◌≤◌, refl, sym, ap, ◌∙◌, subst, ⊎_elim, arith, true, List, [], ◌∷◌, ◌++◌, length, map, drop, get_or, set, length-append, get_or-set_other, lt-ltb}
use Rattle.std.proofs.lemmas.Int.{ints}
use Rattle.std.proofs.lemmas.Bool.{cases_eq, cases_lt, and_from}
use Rattle.model.specs.Agreement.{total, weighed, in_flight}
use Rattle.laws.specs.Bounds.{weight, flight, sum_to, HasRoom}
use Rattle.ids.specs.declared.limits.TheConstants.{GREATEST_NUMBER}
use Rattle.msg.specs.declared.body.Message.{Message}
use Rattle.model.specs.State.{LocalState, NodeState, got_from, sent_to}
use Rattle.model.specs.Steps.{fits, append_all}
use Rattle.model.specs.Cuts.{Cut, taken}
use Rattle.model.proofs.Lookups.{at_set_if}
use Rattle.laws.proofs.Turns.{Turn, at_turn}
use Rattle.laws.proofs.Flights.{load_sent}

pub sum-same : (n : ℕ) (f g : ℕ → ℕ) → ((j : ℕ) → j < n → g j ≡ f j) → sum_to n g ≡ sum_to n f
sum-same zero f g same = refl
sum-same (suc n) f g same =
    let before = sum-same n f g (λ j h. same j (let k : j < suc n = omega (arith, h) in k)) in
    omega (arith, before, same n (let k : n < suc n = omega arith in k))

-- one summand differs
pub sum-one : (n : ℕ) (f g : ℕ → ℕ) (i : ℕ) → i < n
    → ((j : ℕ) → j < n → j ≢ i → g j ≡ f j) → sum_to n g + f i ≡ sum_to n f + g i
sum-one zero f g i inside same = absurd (omega (arith, inside))
sum-one (suc n) f g i inside same = ⊎_elim {C = sum_to (suc n) g + f i ≡ sum_to (suc n) f + g i}
    (λ (e : n ≡ i).
    let before : sum_to n g ≡ sum_to n f =
    sum-same n f g (λ j h. same j (let k : j < suc n = omega (arith, h) in k)
    (λ (q : j ≡ i). let k : n < n = subst (λ (z : ℕ). z < n) (q ∙ sym e) h in omega (arith, k))) in
    let a : f i ≡ f n = ap f (sym e) in
    let b : g i ≡ g n = ap g (sym e) in
    omega (arith, before, a, b))
    (λ (other : n ≢ i).
    let less : i < n = omega (arith, inside, other) in
    let before : sum_to n g + f i ≡ sum_to n f + g i =
    sum-one n f g i less (λ j h. same j (let k : j < suc n = omega (arith, h) in k)) in
    omega (arith, before, same n (let k : n < suc n = omega arith in k) other))
    (cases_eq n i)

pub sum-le : (n : ℕ) (f g : ℕ → ℕ) → ((j : ℕ) → j < n → f j ≤ g j) → sum_to n f ≤ sum_to n g
sum-le zero f g some = omega arith
sum-le (suc n) f g some =
    let before = sum-le n f g (λ j q. some j (let k : j < suc n = omega (arith, q) in k)) in
    omega (arith, before, some n (let k : n < suc n = omega arith in k))

pub sum-add : (n : ℕ) (f g : ℕ → ℕ) → sum_to n (λ j. f j + g j) ≡ sum_to n f + sum_to n g
sum-add zero f g = omega arith
sum-add (suc n) f g = omega (arith, sum-add n f g)

-- each summand is at most the sum
pub sum-at : (n : ℕ) (f : ℕ → ℕ) (i : ℕ) → i < n → f i ≤ sum_to n f
sum-at zero f i inside = absurd (omega (arith, inside))
sum-at (suc n) f i inside = ⊎_elim {C = f i ≤ sum_to (suc n) f}
    (λ (e : n ≡ i). let a : f i ≡ f n = ap f (sym e) in omega (arith, a))
    (λ (other : n ≢ i).
    let before = sum-at n f i (let k : i < n = omega (arith, inside, other) in k) in
    omega (arith, before))
    (cases_eq n i)

-- each summand is the same number
pub sum-const : (n k : ℕ) → sum_to n (λ _. k) ≡ n * k
sum-const zero k = omega arith
sum-const (suc n) k = omega (arith, sum-const n k)

pub total-sum : (n : ℕ) (f : ℕ → ℕ) → total n (λ j. pos (f j)) ≡ pos (sum_to n f)
total-sum zero f = refl
total-sum (suc n) f = omega (arith, ints, total-sum n f)

pub total-sums : (n m : ℕ) (f : ℕ → ℕ → ℕ)
    → total n (λ i. total m (λ j. pos (f i j))) ≡ pos (sum_to n (λ i. sum_to m (f i)))
total-sums zero m f = refl
total-sums (suc n) m f = omega (arith, ints, total-sums n m f, total-sum m (f n))

-- ---- messages that are sent

-- one more message, however many were received
push-most : (w : Message → ℕ) (k : ℕ) (xs : List Message) (x : Message)
    → weighed w (drop k (xs ++ x ∷ [])) ≤ weighed w (drop k xs) + w x
push-most w zero [] x = omega arith
push-most w zero (y ∷ xs) x = omega (arith, push-most w zero xs x)
push-most w (suc zero) [] x = omega arith
push-most w (suc (suc k)) [] x = omega arith
push-most w (suc k) (y ∷ xs) x = push-most w k xs x

-- of one sender's messages, those from the given places on
abbrev row : ℕ → (Message → ℕ) → (ℕ → ℕ) → List (List Message) → ℕ
row n w g sent = sum_to n (λ to. weighed w (drop (g to) (get_or sent to [])))

row-one : (n : ℕ) (w : Message → ℕ) (g : ℕ → ℕ) (sent : List (List Message)) (to : ℕ)
    (x : Message) → row n w g (set sent to (get_or sent to [] ++ x ∷ [])) ≤ row n w g sent + w x
row-one n w g sent to x =
    let longer : List Message = get_or sent to [] ++ x ∷ [] in
    let f : ℕ → ℕ = λ k. weighed w (drop (g k) (get_or sent k [])) in
    let h : ℕ → ℕ = λ k. weighed w (drop (g k) (get_or (set sent to longer) k [])) in
    let other : (k : ℕ) → k ≢ to → h k ≡ f k =
    λ k e. ap (λ (z : List Message). weighed w (drop (g k) z))
    (get_or-set_other sent to k longer [] e) in
    ⊎_elim {C = sum_to n h ≤ sum_to n f + w x}
    (λ (inside : to < n).
    let one = sum-one n f h to inside (λ k _ e. other k e) in
    let more : h to ≤ f to + w x =
    at_set_if (λ z. weighed w (drop (g to) z) ≤ f to + w x) sent to to longer []
    (λ _. push-most w (g to) (get_or sent to []) x) (omega arith) in
    omega (arith, one, more))
    (λ (past : n ≤ to).
    let same = sum-same n f h
    (λ k below. other k (λ (e : k ≡ to). omega (arith, past, below, e))) in
    omega (arith, same))
    (cases_lt to n)

row-sends : (n : ℕ) (w : Message → ℕ) (g : ℕ → ℕ) (sent : List (List Message))
    (ms : List (ℕ × Message)) → row n w g (append_all sent ms) ≤ row n w g sent + load_sent w ms
row-sends n w g sent [] = omega arith
row-sends n w g sent ((to, x) ∷ ms) =
    let rest = row-sends n w g (set sent to (get_or sent to [] ++ x ∷ [])) ms in
    omega (arith, row-one n w g sent to x, rest)

-- nothing is received
pub taken-same : {c d : Cut} {i : ℕ} {q : LocalState} {ms : List (ℕ × Message)} → Turn c d i q ms
    → q.got ≡ (c i).local.got → (from to : ℕ) → taken d from to ≡ taken c from to
taken-same {c = c} turn got from =
    at_turn (λ j s. got_from s.local from ≡ taken c from j) turn
    (ap (λ (z : List ℕ). get_or z from 0) got) (λ j _. refl)

pub flight-sends : {c d : Cut} {i : ℕ} {q : LocalState} {ms : List (ℕ × Message)} (n : ℕ)
    → i < n → Turn c d i q ms → q.got ≡ (c i).local.got
    → flight n d ≤ flight n c + load_sent weight ms
flight-sends {c = c} {d = d} {i = i} {ms = ms} n inside turn got =
    let w : Message → ℕ = weight in
    let f : ℕ → ℕ = λ from. sum_to n (λ to. weighed w (in_flight c from to)) in
    let g : ℕ → ℕ = λ from. sum_to n (λ to. weighed w (in_flight d from to)) in
    let one = sum-one n f g i inside
    (λ j _ other.
    sum-same n (λ to. weighed w (in_flight c j to)) (λ to. weighed w (in_flight d j to))
    (λ to _.
    ap (λ (z : ℕ). weighed w (drop z (sent_to (d j) to))) (taken-same turn got j to)
    ∙ ap (λ (z : NodeState). weighed w (drop (taken c j to) (sent_to z to)))
    (turn.becomes.others j other))) in
    let here : g i ≡ row n w (λ to. taken c i to) (append_all (c i).sent ms) =
    sum-same n
    (λ to. weighed w (drop (taken c i to) (get_or (append_all (c i).sent ms) to [])))
    (λ to. weighed w (in_flight d i to))
    (λ to _.
    ap (λ (z : ℕ). weighed w (drop z (sent_to (d i) to))) (taken-same turn got i to)
    ∙ ap (λ (z : NodeState). weighed w (drop (taken c i to) (sent_to z to)))
    turn.becomes.changed) in
    omega (arith, one, here, row-sends n w (λ to. taken c i to) (c i).sent ms)

-- ---- room

sent-most : (sent : List (List Message)) (ms : List (ℕ × Message)) (k : ℕ)
    → length (get_or (append_all sent ms) k []) ≤ length (get_or sent k []) + length ms
sent-most sent [] k = omega arith
sent-most sent ((to, x) ∷ ms) k =
    let longer : List Message = get_or sent to [] ++ x ∷ [] in
    let rest = sent-most (set sent to longer) ms k in
    let one : length (get_or (set sent to longer) k []) ≤ length (get_or sent k []) + 1 =
    at_set_if (λ z. length z ≤ length (get_or sent k []) + 1) sent to k longer []
    (λ (e : to ≡ k).
    let a : length longer ≡ length (get_or sent to []) + 1 =
    length-append (get_or sent to []) (x ∷ []) in
    let b : length (get_or sent to []) ≡ length (get_or sent k []) =
    ap (λ (z : ℕ). length (get_or sent z [])) e in
    omega (arith, a, b)) (omega arith) in
    omega (arith, rest, one)

pub room-after : {c d : Cut} {i : ℕ} {q : LocalState} {ms : List (ℕ × Message)} (more less : ℕ)
    → Turn c d i q ms → less + length ms ≤ more → HasRoom more c → HasRoom less d
room-after {c = c} {i = i} {ms = ms} more less turn le room from to =
    at_turn (λ j s. length (sent_to s to) + less ≤ GREATEST_NUMBER) turn
    (omega (arith, sent-most (c i).sent ms to, room i to, le))
    (λ j _. omega (arith, room j to, le)) from

pub room-less : (c : Cut) (more less : ℕ) → less ≤ more → HasRoom more c → HasRoom less c
room-less c more less le room from to = (omega (arith, room from to, le))

lengths-at : (sent : List (List Message)) (k : ℕ)
    → get_or (map length sent) k 0 ≡ length (get_or sent k [])
lengths-at [] k = refl
lengths-at (xs ∷ sent) zero = refl
lengths-at (xs ∷ sent) (suc k) = lengths-at sent k

fits-room : (counts : List ℕ) (ms : List (ℕ × Message))
    → ((k : ℕ) → get_or counts k 0 + length ms ≤ GREATEST_NUMBER) → fits counts ms ≡ true
fits-room counts [] room = refl
fits-room counts ((to, x) ∷ ms) room =
    and_from _ _
    (lt-ltb (get_or counts to 0) GREATEST_NUMBER (omega (arith, room to)))
    (fits-room (set counts to (get_or counts to 0 + 1)) ms
    (λ k.
    at_set_if (λ z. z + length ms ≤ GREATEST_NUMBER) counts to k (get_or counts to 0 + 1) 0
    (λ _. omega (arith, room to))
    (omega (arith, room k))))

pub numbers-fit : (c : Cut) (i : ℕ) (ms : List (ℕ × Message)) → HasRoom (length ms) c
    → fits (map length (c i).sent) ms ≡ true
numbers-fit c i ms room =
    fits-room (map length (c i).sent) ms
    (λ k. omega (arith, room i k, lengths-at (c i).sent k))
