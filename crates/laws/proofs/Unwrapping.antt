-- Within the limits of a space, no sum that a token carries on wraps.
use Rattle.std.proofs.Common.{◌≡◌, ℕ, zero, suc, ℤ, pos, negsuc, ◌+◌, ◌*◌, ◌+ℤ◌, ◌-ℤ◌, ◌<◌, ◌≤◌, true, cond, ltb, ltb-true, List, [], ◌∷◌, ◌++◌, length, length-append, map, get_or, set, refl, sym, ap, ◌∙◌, subst, ⊎_elim, arith, mul-le-mul_right, suc-mul}
use Rattle.std.specs.Prelude.{◌≤ℤ◌}
use Rattle.std.specs.Int.{w64, int_wrap}
use Rattle.std.proofs.lemmas.Int.{ints, int_wrap_fits, fits_signed_from_abs}
use Rattle.std.specs.Int.RustNames.{FitsSigned}
use Rattle.std.proofs.lemmas.Bool.{cases_Bool, cases_eq, cond-true, cond-false, and_parts}
use Rattle.ids.specs.Limits.{Shaped, IsShape}
use Rattle.ids.specs.declared.limits.TheConstants.{GREATEST_NODES, GREATEST_NUMBER}
use Rattle.ids.specs.declared.limits.TheConstants.{GREATEST_COUNTED, GREATEST_SUM}
use Rattle.msg.specs.declared.body.Token.{Token}
use Rattle.msg.specs.declared.body.Message.{Message}
use Rattle.model.specs.State.{LocalState, NodeState, got_from, sent_to}
use Rattle.model.specs.Steps.{fits, append_all}
use Rattle.model.specs.Cuts.{Cut, Becomes, PlainStep, acts, delivers}
use Rattle.model.specs.Agreement.{total}
use Rattle.model.proofs.Lookups.{at_set_if}
use Rattle.laws.proofs.StepFacts.{act-ok, Receipt, repeated, next, receipt-cases}
use Rattle.laws.proofs.Turns.{at_becomes}
use Rattle.laws.proofs.Base.{first_in_flight}
use Rattle.laws.proofs.Invariant.{phases_of, Marking, Resting, numbers, above, Bound, Tally, Spot, at_node, place_of_spot, IsAt, is_held, Inv}
use Rattle.laws.proofs.RingSteps.{at-once}
use Rattle.laws.proofs.Plain.{Unwrapped}

-- ---- no link has more messages than the greatest number

abbrev pub Numbered : Cut → Type 0
Numbered c = (i k : ℕ) → length (sent_to (c i) k) ≤ GREATEST_NUMBER

lengths-at : (sent : List (List Message)) (k : ℕ)
    → get_or (map length sent) k 0 ≡ length (get_or sent k [])
lengths-at [] k = refl
lengths-at (xs ∷ sent) zero = refl
lengths-at (xs ∷ sent) (suc k) = lengths-at sent k

lengths-set : (sent : List (List Message)) (k : ℕ) (xs : List Message)
    → map length (set sent k xs) ≡ set (map length sent) k (length xs)
lengths-set [] k xs = refl
lengths-set (ys ∷ sent) zero xs = refl
lengths-set (ys ∷ sent) (suc k) xs = ap (λ (z : List ℕ). length ys ∷ z) (lengths-set sent k xs)

fits-numbered : (sent : List (List Message)) (ms : List (ℕ × Message))
    → fits (map length sent) ms ≡ true
    → ((k : ℕ) → length (get_or sent k []) ≤ GREATEST_NUMBER)
    → (k : ℕ) → length (get_or (append_all sent ms) k []) ≤ GREATEST_NUMBER
fits-numbered sent [] h all k = all k
fits-numbered sent ((to, x) ∷ ms) h all k =
    let parts = and_parts (ltb (get_or (map length sent) to 0) GREATEST_NUMBER) _ h in
    let longer : List Message = get_or sent to [] ++ x ∷ [] in
    let below : get_or (map length sent) to 0 < GREATEST_NUMBER = ltb-true _ _ parts.0 in
    let count : length longer ≡ get_or (map length sent) to 0 + 1 =
    length-append (get_or sent to []) (x ∷ []) ∙ ap (λ (z : ℕ). z + 1) (sym (lengths-at sent to)) in
    let counts : map length (set sent to longer)
    ≡ set (map length sent) to (get_or (map length sent) to 0 + 1) =
    lengths-set sent to longer ∙ ap (λ (z : ℕ). set (map length sent) to z) count in
    fits-numbered (set sent to longer) ms
    (subst (λ (z : List ℕ). fits z ms ≡ true) (sym counts) parts.1)
    (λ j.
    at_set_if (λ z. length z ≤ GREATEST_NUMBER) sent to j longer []
    (λ _. omega (arith, count, below)) (all j)) k

numbered-becomes : {c d : Cut} {i : ℕ} (q : LocalState) (ms : List (ℕ × Message))
    → Becomes c d i (record { local = q; sent = append_all (c i).sent ms })
    → fits (map length (c i).sent) ms ≡ true → Numbered c → Numbered d
numbered-becomes {c = c} {i = i} q ms b fit all =
    at_becomes (λ j s. (k : ℕ) → length (sent_to s k) ≤ GREATEST_NUMBER) b
    (fits-numbered (c i).sent ms fit (all i)) (λ j _. all j)

pub plain-numbered : {c d : Cut} → PlainStep c d → Numbered c → Numbered d
plain-numbered {c = c} {d = d} (acts i e s a own answered becomes) all =
    let found = act-ok (c i) e s a answered in
    numbered-becomes _ _ (subst (λ (z : NodeState). Becomes c d i z) found.state becomes)
    found.numbered all
plain-numbered {c = c} {d = d} (delivers from to x s a flight answered becomes) all =
    by (receipt-cases (c to) (first_in_flight c from to x) s a answered)
  where
    by : Receipt (c to) (first_in_flight c from to x) s a → Numbered d
    by (repeated same says) =
        at_becomes (λ j z. (k : ℕ) → length (sent_to z k) ≤ GREATEST_NUMBER) becomes
        (subst (λ (z : NodeState). (k : ℕ) → length (sent_to z k) ≤ GREATEST_NUMBER) (sym same)
        (all to))
        (λ j _. all j)
    by (next turn may found) =
        numbered-becomes _ _ (subst (λ (z : NodeState). Becomes c d to z) found.state becomes)
        found.numbered all

-- ---- so no sum wraps

total-most : (n k : ℕ) (f : ℕ → ℤ) → ((j : ℕ) → j < n → f j ≤ℤ pos k) → total n f ≤ℤ pos (n * k)
total-most zero k f all = omega (arith, ints)
total-most (suc n) k f all =
    let before = total-most n k f (λ j h. all j (let w : j < suc n = omega (arith, h) in w)) in
    let last = all n (let w : n < suc n = omega arith in w) in
    let more : suc n * k ≡ n * k + k = suc-mul n k in
    omega (arith, ints, before, last, more)

-- the most numbers that the two directions of a link can have
abbrev link_most : ℕ
link_most = 2 * GREATEST_NUMBER

numbers-most : {shape : Shaped} {c : Cut} → IsShape shape → Inv shape c → Numbered c → (i : ℕ)
    → numbers shape.nodes (c i) ≤ℤ pos GREATEST_COUNTED
numbers-most {shape = shape} {c = c} limits inv all i =
    let each = total-most shape.nodes link_most
    (λ j. pos (length (sent_to (c i) j) + got_from (c i).local j))
    (λ j _.
    (let a = all i j in
    let b = inv.base.within j i in
    let e = all j i in
    omega (arith, ints, a, b, e))) in
    let few : shape.nodes * link_most ≤ GREATEST_NODES * link_most =
    mul-le-mul_right link_most limits.most_nodes in
    omega (arith, ints, each, few)

above-most : {shape : Shaped} {c : Cut} → IsShape shape → Inv shape c → Numbered c → (t : ℕ)
    → above shape.nodes t (λ i. numbers shape.nodes (c i)) ≤ℤ pos GREATEST_SUM
above-most {shape = shape} {c = c} limits inv all t =
    let each = total-most shape.nodes GREATEST_COUNTED
    (λ i. cond (ltb t i) (numbers shape.nodes (c i)) (pos 0))
    (λ j _. ⊎_elim {C = cond (ltb t j) (numbers shape.nodes (c j)) (pos 0) ≤ℤ pos GREATEST_COUNTED}
    (λ is.
    (let a = cond-true (ltb t j) (numbers shape.nodes (c j)) (pos 0) is in
    let b = numbers-most limits inv all j in
    omega (arith, ints, a, b)))
    (λ isnt.
    (let a = cond-false (ltb t j) (numbers shape.nodes (c j)) (pos 0) isnt in
    omega (arith, ints, a)))
    (cases_Bool (ltb t j))) in
    let few : shape.nodes * GREATEST_COUNTED ≤ GREATEST_NODES * GREATEST_COUNTED =
    mul-le-mul_right GREATEST_COUNTED limits.most_nodes in
    omega (arith, ints, each, few)

-- the sum that a token carries, plus the balance of the node that holds it
abbrev held_most : ℕ
held_most = GREATEST_SUM + GREATEST_COUNTED

fits-signed : (z : ℤ) → z ≤ℤ pos held_most → (pos 0 -ℤ z) ≤ℤ pos held_most → FitsSigned w64 z
fits-signed (pos n) most least =
    fits_signed_from_abs w64 (pos n)
    (let w : n < 9223372036854775808 = omega (arith, ints, most) in w)
fits-signed (negsuc n) most least =
    fits_signed_from_abs w64 (negsuc n)
    (let w : suc n < 9223372036854775808 = omega (arith, ints, least) in w)

sum-fits : (z : ℤ) → z ≤ℤ pos held_most → (pos 0 -ℤ z) ≤ℤ pos held_most → int_wrap w64 z ≡ z
sum-fits z most least = int_wrap_fits w64 z (fits-signed z most least)

pub unwrapped : {shape : Shaped} {c : Cut} → IsShape shape → Inv shape c → Numbered c → Unwrapped c
unwrapped {shape = shape} {c = c} limits inv all i t held =
    let marking : Marking (phases_of c 0) = ⊎_elim {C = Marking (phases_of c 0)}
    (λ (rest : Resting (phases_of c 0)).
    absurd (inv.tokens.rest t (at_node i) rest (is_held i held)))
    (λ other. (let w = inv.phased.ended 0 in omega (arith, other, w)))
    (cases_eq (phases_of c 0).ended (phases_of c 0).cycle) in
    let round = inv.tokens.round marking in
    let spot : round.spot ≡ at_node i = sym (round.only t (at_node i) (is_held i held)) in
    let token : round.token ≡ t =
    at-once c round.token t (at_node i) (subst (IsAt c round.token) spot round.there)
    (is_held i held) in
    let bound : Bound shape.nodes c i t.q =
    subst (λ (z : Token). Bound shape.nodes c i z.q) token
    (subst (λ (z : Spot). Bound shape.nodes c (place_of_spot z) round.token.q) spot round.bound) in
    let inside : i < shape.nodes =
    subst (λ (z : Spot). place_of_spot z < shape.nodes) spot round.near in
    let tally : Tally shape.nodes (c i) = inv.tallies i inside in
    let a = above-most limits inv all i in
    let b = numbers-most limits inv all i in
    sum-fits (t.q +ℤ (c i).local.ring.earlier)
    (omega (arith, ints, a, b, bound.most, tally.plus_plus, tally.plus_minus))
    (omega (arith, ints, a, b, bound.least, tally.minus_plus, tally.minus_minus))
