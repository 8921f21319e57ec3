-- How far the token has come. Three rounds are enough: in the first, nodes become white; in the
-- second, the token adds up what they owe; in the third, node 0 finds that nothing is owed.
use Rattle.std.proofs.Common.{◌≡◌, ◌≢◌, ℕ, suc, ℤ, pos, ◌+◌, ◌-◌, ◌*◌, ◌+ℤ◌, ◌<◌, ◌≤◌, ◌⊎◌, ◌==◌, true, false, cond, List, [], ◌∷◌, Option, Some, refl, sym, ap, ◌∙◌, subst, inl, inr, arith, eqb-true, eq-eqb}
use Rattle.std.specs.Int.{w64, int_wrap}
use Rattle.std.specs.Ordering.{int_eq}
use Rattle.std.proofs.lemmas.Int.{ints}
use Rattle.std.proofs.lemmas.Bool.{cond_both, cond-true, and_from, ltb-false, eqb-false}
use Rattle.std.proofs.lemmas.List.{drop_all}
use Rattle.std.specs.Option.{unwrap_or}
use Rattle.ids.specs.Limits.{Shaped}
use Rattle.msg.specs.declared.body.Body.TheVariants as body
use Rattle.msg.specs.declared.body.Colour.TheVariants.{White, Black}
use Rattle.msg.specs.declared.body.Token.{Token}
use Rattle.msg.specs.declared.body.Message.{Message}
use Rattle.model.specs.State.{Ring, LocalState, sent_to}
use Rattle.model.specs.Effects.{Effect}
use Rattle.model.specs.Counting.{stamped, append, announce, to_others}
use Rattle.model.specs.Collecting.{is_white, whitened, without_token, new_token, token_of, sum_of, forwarded, is_concluded, judged, handed_on, probe, conclude, passed}
use Rattle.model.specs.Cuts.{Cut, taken}
use Rattle.model.specs.Agreement.{total, flow, load, weighed, in_flight, is_counted, balance}
use Rattle.laws.proofs.Turns.{Turn, at_turn}
use Rattle.laws.proofs.Sums.{total-same, total-zero}
use Rattle.laws.proofs.Invariant.{phases_of, cycle_of, Marking, Spot, at_node, on_way, place_of_spot, IsAt, is_held, Inv}
use Rattle.laws.proofs.RingSteps.{at-once}
use Rattle.laws.proofs.progress.Choices.{Still}

-- ---- stages

pub record IsWhite (cycle : ℕ) (p : LocalState) : Type 0 where
  pub joined : p.phases.cycle ≡ cycle
  pub white : p.ring.colour ≡ White

abbrev pub owed : Cut → ℕ → ℤ
owed c i = (c i).local.ring.earlier

-- Nothing is known. Or the nodes above the token's place are white. Or all are, and so is the
-- token, and its sum is what the nodes above its place owe.
pub data Stage (n cycle : ℕ) (c : Cut) (t : ℕ) (k : Token) : ℕ → Type 0 where
  unsure : Stage n cycle c t k 2
  clean : ((i : ℕ) → t < i → i < n → IsWhite cycle (c i).local) → Stage n cycle c t k 1
  sure : ((i : ℕ) → i < n → IsWhite cycle (c i).local) → k.colour ≡ White
      → total n (owed c) ≡ total (suc t) (owed c) +ℤ k.q → Stage n cycle c t k 0

abbrev pub under_way : Spot → ℕ
under_way (at_node i) = 0
under_way (on_way from to place) = 1

-- the moves of the token that may be left while nothing else happens
abbrev pub ring_left : ℕ → ℕ → Spot → ℕ
ring_left n stage s = stage * (2 * n) + 2 * place_of_spot s + under_way s

-- nodes keep their cycle, colour and balance
pub record SameRing (c d : Cut) : Type 0 where
  pub cycle : (j : ℕ) → cycle_of d j ≡ cycle_of c j
  pub colour : (j : ℕ) → (d j).local.ring.colour ≡ (c j).local.ring.colour
  pub owes : (j : ℕ) → owed d j ≡ owed c j

white-same : {cycle : ℕ} {c d : Cut} → SameRing c d → (j : ℕ) → IsWhite cycle (c j).local
    → IsWhite cycle (d j).local
white-same same j w = record { joined = same.cycle j ∙ w.joined; white = same.colour j ∙ w.white }

pub stage-same : {n cycle : ℕ} {c d : Cut} {t : ℕ} {k : Token} (s : ℕ) → SameRing c d
    → Stage n cycle c t k s → Stage n cycle d t k s
stage-same s same unsure = unsure
stage-same {cycle = cycle} {c = c} {d = d} s same (clean all) =
    clean (λ i above inside. white-same same i (all i above inside))
stage-same {n = n} {c = c} {d = d} {t = t} s same (sure all w sum) =
    sure (λ i inside. white-same same i (all i inside)) w
    (let a = total-same n (owed c) (owed d) (λ j _. same.owes j) in
    omega (arith, ints, a, total-same (suc t) (owed c) (owed d) (λ j _. same.owes j), sum))

pub ring-turn : {c d : Cut} {i : ℕ} {q : LocalState} {ms : List (ℕ × Message)} → Turn c d i q ms
    → q.phases.cycle ≡ cycle_of c i → q.ring.colour ≡ (c i).local.ring.colour
    → q.ring.earlier ≡ owed c i → SameRing c d
ring-turn {c = c} turn cycle colour owes = record {
  cycle = at_turn (λ j s. s.local.phases.cycle ≡ cycle_of c j) turn cycle (λ j _. refl);
  colour = at_turn (λ j s. s.local.ring.colour ≡ (c j).local.ring.colour) turn colour (λ j _. refl);
  owes = at_turn (λ j s. s.local.ring.earlier ≡ owed c j) turn owes (λ j _. refl);
}

-- ---- the spot of the token

pub one-spot : {shape : Shaped} {c : Cut} → Inv shape c → Marking (phases_of c 0)
    → (k u : Token) (s z : Spot) → IsAt c k s → IsAt c u z → (s ≡ z) × (k ≡ u)
one-spot {c = c} inv marking k u s z a b =
    let round = inv.tokens.round marking in
    let same : s ≡ z = round.only k s a ∙ sym (round.only u z b) in
    (same, at-once c k u z (subst (IsAt c k) same a) b)

-- ---- what passing the token leaves

-- what the node that holds the token does
pub data Passing (p : LocalState) (x : Effect) : Type 0 where
  sends_on : (t : ℕ) (k : Token)
      → ((p.own ≢ 0) × (t ≡ p.own - 1) × (k ≡ forwarded p.ring))
      ⊎ ((p.own ≡ 0) × (is_concluded p.ring ≡ false) × (t ≡ p.shape.nodes - 1)
      × (k ≡ new_token))
      → x.local ≡ record p { ring = whitened (without_token p.ring) }
      → x.sends ≡ (t, stamped p (body.Token k)) ∷ [] → Passing p x
  concludes : p.own ≡ 0
      → x.local
      ≡ record p {
        phases = record p.phases { ended = p.phases.cycle };
        ring = without_token p.ring;
      }
      → x.sends ≡ to_others x.local body.Ended p.shape.nodes → Passing p x

pub passing : (p : LocalState) → Passing p (passed p)
unfolding passed append probe conclude announce
passing p =
    cond_both (p.own == 0) (judged p) (handed_on p) (Passing p)
    (λ first.
    let here : p.own ≡ 0 = eqb-true p.own 0 first in
    cond_both (is_concluded p.ring) _ _ (Passing p)
    (λ _. concludes here refl refl)
    (λ more.
    sends_on (p.shape.nodes - 1) new_token (inr (here, more, refl, refl)) refl refl))
    (λ above.
    sends_on (p.own - 1) (forwarded p.ring) (inl (eqb-false p.own 0 above, refl, refl)) refl refl)

-- ---- nothing is in flight

pub still-load : (n : ℕ) (w : Message → ℕ) (c : Cut) → Still n c → load n w c ≡ pos 0
still-load n w c still =
    total-zero n (λ from. total n (λ to. pos (weighed w (in_flight c from to))))
    (λ from f.
    total-zero n (λ to. pos (weighed w (in_flight c from to)))
    (λ to t.
    ap (λ (z : List Message). pos (weighed w z))
    (drop_all (taken c from to) (sent_to (c from) to) (ltb-false _ _ (still from to f t)))))

-- ---- the holder

-- a node holds the token while marking goes on
pub record Holding (shape : Shaped) (c : Cut) (i : ℕ) (k : Token) : Type 0 where
  pub inv : Inv shape c
  pub several : 2 ≤ shape.nodes
  pub marking : Marking (phases_of c 0)
  pub inside : i < shape.nodes
  pub held : (c i).local.ring.token ≡ Some k
  pub unwrapped : int_wrap w64 (k.q +ℤ owed c i) ≡ k.q +ℤ owed c i

module _ {shape : Shaped} {c : Cut} {i : ℕ} {k : Token} (h : Holding shape c i k) where
  abbrev n : ℕ
  n = shape.nodes

  abbrev ring : Ring
  ring = (c i).local.ring

  pub holder-joined : cycle_of c i ≡ cycle_of c 0
  holder-joined =
      let round = h.inv.tokens.round h.marking in
      round.joined i
      (one-spot h.inv h.marking round.token k round.spot (at_node i) round.there
      (is_held i h.held)).0

  holder-token : token_of ring ≡ k
  holder-token = ap (λ (z : Option Token). unwrap_or z new_token) h.held

  holder-sum : sum_of ring ≡ k.q +ℤ owed c i
  holder-sum = ap (λ (z : Token). int_wrap w64 (z.q +ℤ owed c i)) holder-token ∙ h.unwrapped

  -- At node 0 nothing is owed, if nothing is in flight. So node 0 concludes.
  pub sure-concludes : Still n c → i ≡ 0 → Stage n (cycle_of c 0) c i k 0
      → is_concluded ring ≡ true
  sure-concludes still first (sure white k_white sum) =
      let none : flow n (is_counted (cycle_of c 0)) c ≡ pos 0 =
      still-load n (λ x. cond (is_counted (cycle_of c 0) x) 1 0) c still in
      let joined : total n (λ j. balance (cycle_of c 0) (c j).local) ≡ total n (owed c) =
      total-same n (owed c) (λ j. balance (cycle_of c 0) (c j).local)
      (λ j inside.
      cond-true (cycle_of c j == cycle_of c 0) (owed c j)
      (owed c j +ℤ (c j).local.ring.recent) (eq-eqb _ _ (white j inside).joined)) in
      let here : owed c i ≡ owed c 0 = ap (owed c) first in
      let front : total (suc i) (owed c) ≡ total 1 (owed c) =
      ap (λ (z : ℕ). total (suc z) (owed c)) first in
      let zero_is : sum_of ring ≡ pos 0 =
      holder-sum ∙ omega (arith, ints, none, joined, h.inv.flows.counted, here, front, sum) in
      and_from _ _ (ap is_white (white i h.inside).white)
      (and_from _ _
      (ap (λ (z : Token). is_white z.colour) holder-token ∙ ap is_white k_white)
      (ap (λ (z : ℤ). int_eq z (pos 0)) zero_is))

  -- what the token takes with it
  module _ {d : Cut} {t : ℕ} {u : Token}
      (turn : Turn c d i (record (c i).local { ring = whitened (without_token ring) })
      ((t, stamped (c i).local (body.Token u)) ∷ [])) where
    white-after : (j : ℕ) → (j ≢ i → IsWhite (cycle_of c 0) (c j).local)
        → IsWhite (cycle_of c 0) (d j).local
    white-after j others =
        at_turn (λ l s. (l ≢ i → IsWhite (cycle_of c 0) (c l).local)
        → IsWhite (cycle_of c 0) s.local) turn
        (λ _. record { joined = holder-joined; white = refl }) (λ l other w. w other) j others

    owed-after : (j : ℕ) → owed d j ≡ owed c j
    owed-after = at_turn (λ j s. s.local.ring.earlier ≡ owed c j) turn refl (λ j _. refl)

    totals : (m : ℕ) → total m (owed d) ≡ total m (owed c)
    totals m = total-same m (owed c) (owed d) (λ j _. owed-after j)

    -- to the node below
    pub handed-stage : i ≡ suc t → u ≡ forwarded ring → (s : ℕ)
        → Stage n (cycle_of c 0) c i k s → Stage n (cycle_of c 0) d t u s
    handed-stage below is s unsure = unsure
    handed-stage below is s (clean all) =
        clean (λ j above inside.
        white-after j (λ other.
        all j (let a : i < j = omega (arith, above, other, below) in a) inside))
    handed-stage below is s (sure all k_white sum) =
        sure (λ j inside. white-after j (λ _. all j inside))
        (ap (λ (z : Token). z.colour) is
        ∙ cond-true (is_white ring.colour) (token_of ring).colour Black
        (ap is_white (all i h.inside).white)
        ∙ ap (λ (z : Token). z.colour) holder-token ∙ k_white)
        (let q : u.q ≡ k.q +ℤ owed c i = ap (λ (z : Token). z.q) is ∙ holder-sum in
        let o : owed c i ≡ owed c (suc t) = ap (owed c) below in
        let f : total (suc i) (owed c) ≡ total (suc (suc t)) (owed c) =
        ap (λ (z : ℕ). total (suc z) (owed c)) below in
        omega (arith, ints, totals n, totals (suc t), q, o, f, sum))

    -- from node 0 to the last one
    pub probed-stage : i ≡ 0 → u ≡ new_token → suc t ≡ n → (s : ℕ) → Stage n (cycle_of c 0) c i k s
        → (s ≡ 0 → ⊥)
        → (z : ℕ) × (suc z ≡ s) × Stage n (cycle_of c 0) d t u z
    probed-stage first is last s unsure more =
        (1, refl, clean (λ j above inside. absurd (omega (arith, above, inside, last))))
    probed-stage first is last s (clean all) more = (
      0,
      refl,
      sure
          (λ j inside.
          white-after j (λ other.
          all j (let a : i < j = omega (arith, first, other) in a) inside))
          (ap (λ (z : Token). z.colour) is)
          (let q : u.q ≡ pos 0 = ap (λ (z : Token). z.q) is in
          let e : total (suc t) (owed d) ≡ total n (owed d) =
          ap (λ (z : ℕ). total z (owed d)) last in
          omega (arith, ints, q, e)),
    )
    probed-stage first is last s (sure all w sum) more = absurd (more refl)

-- ---- moves enough

-- The place of the token, how far it has come, and that there are moves enough for it, and for
-- what else is to be done.
pub record Budget (n : ℕ) (c : Cut) (else_left budget : ℕ) : Type 0 where
  pub token : Token
  pub spot : Spot
  pub there : IsAt c token spot
  pub stage : ℕ
  pub is : Stage n (cycle_of c 0) c (place_of_spot spot) token stage
  pub near : place_of_spot spot < n
  pub enough : else_left + ring_left n stage spot < budget

-- as long as marking goes on, six times as many moves as nodes are enough for the token
pub budget-new : {shape : Shaped} {c : Cut} (left budget : ℕ) → Inv shape c
    → Marking (phases_of c 0) → left + 6 * shape.nodes ≤ budget
    → Budget shape.nodes c left budget
budget-new {shape = shape} {c = c} left budget inv marking le =
    let round = inv.tokens.round marking in
    record {
      token = round.token;
      spot = round.spot;
      there = round.there;
      stage = 2;
      is = unsure;
      near = round.near;
      enough = omega (arith, round.near, under-way round.spot, le);
    }
  where
    under-way : (s : Spot) → under_way s ≤ 1
    under-way (at_node i) = omega arith
    under-way (on_way from to place) = omega arith

-- the same at the spot at which a token is known to be
pub record AtSpot (n : ℕ) (c : Cut) (left budget : ℕ) (t : Token) (z : Spot) : Type 0 where
  pub stage : ℕ
  pub is : Stage n (cycle_of c 0) c (place_of_spot z) t stage
  pub enough : left + ring_left n stage z < budget

pub budget-at : {shape : Shaped} {c : Cut} {left budget : ℕ} (t : Token) (z : Spot) → Inv shape c
    → Marking (phases_of c 0) → IsAt c t z → Budget shape.nodes c left budget
    → AtSpot shape.nodes c left budget t z
budget-at {shape = shape} {c = c} t z inv marking at s =
    let one = one-spot inv marking s.token t s.spot z s.there at in
    record {
      stage = s.stage;
      is =
          subst (λ k. Stage shape.nodes (cycle_of c 0) c (place_of_spot z) k s.stage) one.1
          (subst (λ y. Stage shape.nodes (cycle_of c 0) c (place_of_spot y) s.token s.stage)
          one.0 s.is);
      enough = omega (arith, s.enough, ap (ring_left shape.nodes s.stage) one.0);
    }

pub budget-less : {n : ℕ} {c : Cut} (left less budget : ℕ) → less ≤ left → Budget n c left budget
    → Budget n c less budget
budget-less left less budget le b = record {
  token = b.token;
  spot = b.spot;
  there = b.there;
  stage = b.stage;
  is = b.is;
  near = b.near;
  enough = omega (arith, b.enough, le);
}

pub budget-more : {n : ℕ} {c : Cut} {left : ℕ} (less more : ℕ) → less ≤ more → Budget n c left less
    → Budget n c left more
budget-more less more le b = record {
  token = b.token;
  spot = b.spot;
  there = b.there;
  stage = b.stage;
  is = b.is;
  near = b.near;
  enough = omega (arith, b.enough, le);
}
