-- Which move is chosen, and what is known then.
use Rattle.std.proofs.Common.{◌≡◌, ◌≢◌, ℕ, ◌<◌, ltb, ◌≤◌, Bool, true, false, ltb-true, length, get_or, sym, ap, ◌∙◌, ⊎_elim, arith, eq-eqb}
use Rattle.std.specs.Prelude.{is_some}
use Rattle.std.proofs.lemmas.Bool.{cond_both, cases_Bool, ltb-false, not-true, both_ways}
use Rattle.std.specs.List.{range_with_len}
use Rattle.std.proofs.lemmas.List.FromFn.{length-range_with_len, get_or-range_with_len}
use Rattle.std.proofs.lemmas.List.Sums.{fails_before_first, passes_at_first}
use Rattle.std.proofs.lemmas.Option.{slice_get_within}
use Rattle.ids.specs.Limits.{Shaped}
use Rattle.msg.specs.declared.body.Token.{Token}
use Rattle.msg.specs.declared.body.Message.{Message}
use Rattle.model.specs.declared.event.Event.TheVariants as event
use Rattle.model.specs.State.{sent_to}
use Rattle.model.specs.Shading.{is_open}
use Rattle.model.specs.Cuts.{Cut, taken, IsInFlight}
use Rattle.laws.proofs.Flights.{flight-inside}
use Rattle.laws.proofs.Invariant.{phases_of, Marking, Base, Spot, place_of_spot, at_node, on_way, IsAt, is_held, is_sent, Inv}
use Rattle.laws.specs.Strategy.{least, Move, Bring, Do, is_waiting, has_waiting, is_grey, has_token, is_unswept, mark_move, next_move}

-- ---- the least number that passes

pub number-at : (n k : ℕ) → k < n → get_or (range_with_len 0 n) k 0 ≡ k
number-at n k below = omega (arith, get_or-range_with_len 0 n k 0 below)

pub first-passes : (n : ℕ) (f : ℕ → Bool) → ltb (least n f) n ≡ true
    → (least n f < n) × (f (least n f) ≡ true)
first-passes n f found =
    let below = ltb-true (least n f) n found in
    let many = length-range_with_len 0 n in (
      below,
      ap f (sym (number-at n (least n f) below))
          ∙ passes_at_first f (range_with_len 0 n) 0 (omega (arith, below, many)),
    )

pub first-none : (n : ℕ) (f : ℕ → Bool) → ltb (least n f) n ≡ false → (k : ℕ) → k < n
    → f k ≡ false
first-none n f none k below =
    let all = ltb-false (least n f) n none in
    ap f (sym (number-at n k below))
    ∙ fails_before_first f (range_with_len 0 n) k 0 (omega (arith, all, below))

-- ---- nothing is in flight

abbrev pub Still : ℕ → Cut → Type 0
Still n c = (from to : ℕ) → from < n → to < n → is_waiting c from to ≡ false

pub still-none : {shape : Shaped} {c : Cut} (from to place : ℕ) (x : Message) → Base shape c
    → Still shape.nodes c → IsInFlight c from to place x → ⊥
still-none {c = c} from to place x base still flight =
    let inside = flight-inside from to place x base flight in
    let all : length (sent_to (c from) to) ≤ taken c from to =
    ltb-false _ _ (still from to inside.0 inside.1) in
    omega (arith, all, slice_get_within (sent_to (c from) to) place x flight.there, flight.later)

-- ---- the choice

pub data Chosen (n : ℕ) (c : Cut) : Move → Type 0 where
  brings : (from to : ℕ) → from < n → to < n → is_waiting c from to ≡ true
      → Chosen n c (Bring from to)
  scans : (i : ℕ) → i < n → is_open (c 0).local ≡ true → is_grey c i ≡ true
      → Chosen n c (Do i event.Scan)
  passes : (i : ℕ) → i < n → Still n c → is_open (c 0).local ≡ true
      → ((j : ℕ) → j < n → is_grey c j ≡ false) → has_token c i ≡ true
      → Chosen n c (Do i event.Pass)
  sweeps : (i : ℕ) → i < n → Still n c → is_open (c 0).local ≡ false → is_unswept c i ≡ true
      → Chosen n c (Do i (event.Sweep (length (c i).local.heap.slots)))
  begins : Still n c → is_open (c 0).local ≡ false
      → ((j : ℕ) → j < n → is_unswept c j ≡ false) → Chosen n c (Do 0 event.Begin)

-- while marking goes on and nothing is in flight, a node holds the token
token-held : {shape : Shaped} {c : Cut} → Inv shape c → Still shape.nodes c
    → is_open (c 0).local ≡ true → ((i : ℕ) → i < shape.nodes → has_token c i ≡ false) → ⊥
token-held {shape = shape} {c = c} inv still opened none =
    let apart : (c 0).local.phases.ended ≢ (c 0).local.phases.cycle =
    λ e. both_ways _ (not-true _ opened) (eq-eqb _ _ e) in
    let marking : Marking (phases_of c 0) = omega (arith, inv.phased.ended 0, apart) in
    let round = inv.tokens.round marking in
    by round.token round.spot round.there round.near
  where
    by : (t : Token) (s : Spot) → IsAt c t s
        → place_of_spot s < shape.nodes → ⊥
    by t (at_node i) (is_held i0 held) near =
        let some : has_token c i ≡ true = ap is_some held in
        both_ways _ (none i near) some
    by t (on_way from to place) (is_sent f0 t0 p0 stamp flight) near =
        still-none from to place _ inv.base still flight

module _ {shape : Shaped} {c : Cut} (inv : Inv shape c) where
  abbrev n : ℕ
  n = shape.nodes

  marks : Still n c → is_open (c 0).local ≡ true → Chosen n c (mark_move n c (least n (is_grey c)))
  marks still opened =
      cond_both (ltb (least n (is_grey c)) n) _ _ (Chosen n c)
      (λ some.
      let found = first-passes n (is_grey c) some in
      scans (least n (is_grey c)) found.0 opened found.1)
      (λ none.
      ⊎_elim {C = Chosen n c (Do (least n (has_token c)) event.Pass)}
      (λ held.
      let found = first-passes n (has_token c) held in
      passes (least n (has_token c)) found.0 still opened (first-none n (is_grey c) none) found.1)
      (λ lost. absurd (token-held inv still opened (first-none n (has_token c) lost)))
      (cases_Bool (ltb (least n (has_token c)) n)))

  pub chosen : Chosen n c (next_move n c)
  chosen =
      cond_both (ltb (least n (has_waiting n c)) n) _ _ (Chosen n c)
      (λ some.
      let from : ℕ = least n (has_waiting n c) in
      let found = first-passes n (has_waiting n c) some in
      let there = first-passes n (is_waiting c from) found.1 in
      brings from (least n (is_waiting c from)) found.0 there.0 there.1)
      (λ none.
      let still : Still n c =
      λ from to f t.
      first-none n (is_waiting c from) (first-none n (has_waiting n c) none from f) to t in
      cond_both (is_open (c 0).local) _ _ (Chosen n c) (marks still)
      (λ shut.
      cond_both (ltb (least n (is_unswept c)) n) _ _ (Chosen n c)
      (λ unswept.
      let found = first-passes n (is_unswept c) unswept in
      sweeps (least n (is_unswept c)) found.0 still shut found.1)
      (λ all. begins still shut (first-none n (is_unswept c) all))))
