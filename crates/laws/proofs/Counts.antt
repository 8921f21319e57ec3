-- The invariant after a node has sent a message with references. Also after it has counted a
-- received one, or a received Mark, whose references and target it has already dealt with.
use Rattle.std.proofs.Common.{◌≡◌, ◌≢◌, ℕ, ℤ, pos, ◌+◌, ◌+ℤ◌, ◌-ℤ◌, ◌<◌, ◌≤◌, ◌⊎◌, ◌==◌, ltb, cond, Bool, true, false, [], ◌∷◌, length, length-set, set, Option, Some, slice_get, refl, sym, ap, ◌∙◌, subst, ⊎_elim, inl, inr, arith, le_refl}
use Rattle.std.specs.Prelude.{◌≤ℤ◌}
use Rattle.std.specs.List.{AllByRecursion}
use Rattle.std.proofs.lemmas.Int.{ints}
use Rattle.std.proofs.lemmas.Bool.{eq-eqb, ne_eqb, cases_eq, lt-ltb, le-ltb, cond-true, cond-false}
use Rattle.std.proofs.lemmas.Option.{slice_get_within}
use Rattle.ids.specs.Limits.{Shaped}
use Rattle.ids.specs.declared.names.Ref.{Ref}
use Rattle.msg.specs.declared.body.Body.{Body}
use Rattle.msg.specs.declared.body.Body.TheVariants as body
use Rattle.msg.specs.declared.body.Colour.TheVariants.{Black}
use Rattle.msg.specs.declared.body.Token.{Token}
use Rattle.msg.specs.declared.body.Message.{Message}
use Rattle.model.specs.declared.balance.Balance.{Balance}
use Rattle.model.specs.declared.balance.Balance.TheVariants.{Earlier, Recent}
use Rattle.model.specs.State.{Object, Occupied, Ring, LocalState, slot_at, got_from, sent_to}
use Rattle.model.specs.Counting.{is_reference, reference_balance, balance_of, counted_down, counted_up, append}
use Rattle.model.specs.Steps.{carried, append_all}
use Rattle.model.specs.Cuts.{Cut, taken, IsInFlight, Becomes}
use Rattle.model.specs.Agreement.{counts, is_counted, balance}
use Rattle.model.proofs.Lookups.{at_set_if}
use Rattle.laws.proofs.Lookups.{set-no_fewer}
use Rattle.laws.proofs.Turns.{Turn, at_turn}
use Rattle.laws.proofs.Tallies.{TakesOne, tally-takes}
use Rattle.laws.proofs.Flights.{number_sent, TakesCounted, flows-taken, flight-inside}
use Rattle.laws.proofs.Rings.{counted-loud, RingStep, safra-turn, counted-first}
use Rattle.laws.proofs.Safra.{Loud}
use Rattle.laws.proofs.Invariant.{phases_of, cycle_of, Joined, Covered, is_marked, StampFits, fresh_balance, is_fresh, Tally, IsPassive, IsBlack, ringed, Inv}
use Rattle.laws.proofs.Inner.{Known, unshaded, Sent, sends_reference, TargetsAt, Inner}
use Rattle.laws.proofs.Acting.{outer-inner, Keeps, covered-kept, balance-joined, balance-apart, fresh-joined, fresh-apart, latest}

-- ---- messages with references

pub reference-balance : (cycle stamp : ℕ) (b : Body) → is_reference b ≡ true
    → balance_of cycle stamp b ≡ Some (reference_balance cycle stamp)
reference-balance cycle stamp (body.Give label reference) is = refl
reference-balance cycle stamp (body.Put target place reference) is = refl
reference-balance cycle stamp (body.Get target place label) is = refl
reference-balance cycle stamp (body.Post label references bytes) is = refl
reference-balance cycle stamp (body.Fetch target label offset count) is = refl
reference-balance cycle stamp b is = absurd cc

pub reference-counts : (cycle stamp : ℕ) (b : Body) → is_reference b ≡ true
    → counts cycle stamp b ≡ ltb stamp cycle
reference-counts cycle stamp (body.Give label reference) is = refl
reference-counts cycle stamp (body.Put target place reference) is = refl
reference-counts cycle stamp (body.Get target place label) is = refl
reference-counts cycle stamp (body.Post label references bytes) is = refl
reference-counts cycle stamp (body.Fetch target label offset count) is = refl
reference-counts cycle stamp b is = absurd cc

pub reference-fresh : (cycle : ℕ) (x : Message) → is_reference x.body ≡ true
    → is_fresh cycle x ≡ (x.stamp == cycle)
reference-fresh cycle x is = cond-true (is_reference x.body) (x.stamp == cycle) false is

-- ---- one is sent

abbrev pub with_recent : LocalState → ℤ → LocalState
with_recent p z = record p { ring = record p.ring { recent = z } }

pub append-reference : (to : ℕ) (b : Body) (p : LocalState) → is_reference b ≡ true
    → append to b p ≡ record {
      local = with_recent p (p.ring.recent +ℤ pos 1);
      sends = (to, record { stamp = p.phases.cycle; body = b }) ∷ [];
    }
unfolding append
append-reference to b p is =
    let same : balance_of p.phases.cycle p.phases.cycle b ≡ Some Recent =
    reference-balance p.phases.cycle p.phases.cycle b is
    ∙ ap Some (cond-false (ltb p.phases.cycle p.phases.cycle) Earlier Recent
    (le-ltb p.phases.cycle p.phases.cycle (le_refl _))) in
    ap (λ (z : Option Balance). record {
      local = record p { ring = counted_up z p.ring };
      sends = (to, record { stamp = p.phases.cycle; body = b }) ∷ [];
    }) same

pub record Sending (shape : Shaped) (c : Cut) (i to : ℕ) (b : Body) : Type 0 where
  pub inv : Inv shape c
  pub inside : i < shape.nodes
  pub receiver : to < shape.nodes
  pub reference : is_reference b ≡ true
  pub known : AllByRecursion (Known c i) (carried b)
  pub targets : TargetsAt to b

pub send-inner : {shape : Shaped} {c d : Cut} {i to : ℕ} {b : Body} → Sending shape c i to b
    → Becomes c d i (record {
      local = with_recent (c i).local ((c i).local.ring.recent +ℤ pos 1);
      sent = append_all (c i).sent ((to, record { stamp = cycle_of c i; body = b }) ∷ []);
    })
    → Inner shape c d i (with_recent (c i).local ((c i).local.ring.recent +ℤ pos 1))
    ((to, record { stamp = cycle_of c i; body = b }) ∷ [])
send-inner {shape = shape} {c = c} {i = i} {to = to} {b = b} s becomes =
    let p : LocalState = (c i).local in
    let q : LocalState = with_recent p (p.ring.recent +ℤ pos 1) in
    let x : Message = record { stamp = cycle_of c i; body = b } in
    let cycle : ℕ = cycle_of c 0 in
    let is_new : ◌≡◌ {A = ℕ} (number_sent (is_fresh cycle) ((to, x) ∷ []))
    (cond (cycle_of c i == cycle) 1 0) =
    (let e : ◌≡◌ {A = ℕ} (cond (is_fresh cycle x) 1 0) (cond (cycle_of c i == cycle) 1 0) =
    ap (λ (z : Bool). cond {A = ℕ} z 1 0) (reference-fresh cycle x s.reference) in omega
    (arith, e)) in
    let is_old : ◌≡◌ {A = ℕ} (number_sent (is_counted cycle) ((to, x) ∷ []))
    (cond (ltb (cycle_of c i) cycle) 1 0) =
    (let e : ◌≡◌ {A = ℕ} (cond (is_counted cycle x) 1 0) (cond (ltb (cycle_of c i) cycle) 1 0) =
    ap (λ (z : Bool). cond {A = ℕ} z 1 0) (reference-counts cycle (cycle_of c i) b s.reference)
    in omega (arith, e)) in
    outer-inner (record {
      inv = s.inv;
      inside = s.inside;
      becomes = becomes;
      same = record { shape = refl; own = refl; phases = refl; token = refl };
      got = refl;
      preserves = unshaded s.inv (
          λ k y a. ⊎_elim {C = Sent shape.nodes c i k y}
          (λ (e : (k, y) ≡ (to, x)).
          let at : k ≡ to = ap (λ (z : ℕ × Message). z.0) e in
          let is : y ≡ x = ap (λ (z : ℕ × Message). z.1) e in
          subst (λ (z : ℕ). Sent shape.nodes c i z y) (sym at)
          (subst (λ (z : Message). Sent shape.nodes c i to z) (sym is)
          (sends_reference refl s.reference s.receiver s.known s.targets)))
          (λ never. absurd never) a);
      counts = record {
        earlier_more = 0;
        recent_more = 1;
        earlier = omega (arith, ints);
        recent = refl;
        together = refl;
        colour = refl;
        owes = omega (arith, ints);
        counted = ⊎_elim {C = balance cycle q
            ≡ balance cycle p +ℤ pos (number_sent (is_counted cycle) ((to, x) ∷ []))}
            (λ (there : cycle_of c i ≡ cycle).
            let none : ◌≡◌ {A = ℕ} (cond (ltb (cycle_of c i) cycle) 1 0) 0 =
            cond-false (ltb (cycle_of c i) cycle) 1 0
            (le-ltb (cycle_of c i) cycle (omega (arith, there))) in
            let a = balance-joined cycle q there in
            let z = balance-joined cycle p there in
            omega (arith, ints, none, is_old, a, z))
            (λ (apart : cycle_of c i ≢ cycle).
            let one : ◌≡◌ {A = ℕ} (cond (ltb (cycle_of c i) cycle) 1 0) 1 =
            cond-true (ltb (cycle_of c i) cycle) 1 0
            (lt-ltb (cycle_of c i) cycle (omega (arith, apart, latest s.inv i s.inside))) in
            let a = balance-apart cycle q apart in
            let z = balance-apart cycle p apart in
            omega (arith, ints, one, is_old, a, z))
            (cases_eq (cycle_of c i) cycle);
        fresh = ⊎_elim {C = fresh_balance cycle q
            ≡ fresh_balance cycle p +ℤ pos (number_sent (is_fresh cycle) ((to, x) ∷ []))}
            (λ (there : cycle_of c i ≡ cycle).
            let one : ◌≡◌ {A = ℕ} (cond (cycle_of c i == cycle) 1 0) 1 =
            cond-true (cycle_of c i == cycle) 1 0 (eq-eqb _ _ there) in
            let a = fresh-joined cycle q there in
            let z = fresh-joined cycle p there in
            omega (arith, ints, one, is_new, a, z))
            (λ (apart : cycle_of c i ≢ cycle).
            let none : ◌≡◌ {A = ℕ} (cond (cycle_of c i == cycle) 1 0) 0 =
            cond-false (cycle_of c i == cycle) 1 0 (ne_eqb _ _ apart) in
            let a = fresh-apart cycle q apart in
            let z = fresh-apart cycle p apart in
            omega (arith, ints, none, is_new, a, z))
            (cases_eq (cycle_of c i) cycle);
      };
      far = inl (λ _ grey. (grey, refl));
    })

-- ---- one is counted as received

-- the balance in which the node counts the message, and how the cycle counts it
pub data Kind (c : Cut) (i : ℕ) (x : Message) : Type 0 where
  counts_earlier : balance_of (cycle_of c i) x.stamp x.body ≡ Some Earlier → Joined c i
      → is_counted (cycle_of c 0) x ≡ true → is_fresh (cycle_of c 0) x ≡ false → Kind c i x
  counts_fresh : balance_of (cycle_of c i) x.stamp x.body ≡ Some Recent → Joined c i
      → is_counted (cycle_of c 0) x ≡ false → is_fresh (cycle_of c 0) x ≡ true → Kind c i x
  counts_recent : balance_of (cycle_of c i) x.stamp x.body ≡ Some Recent
      → cycle_of c i ≢ cycle_of c 0 → is_counted (cycle_of c 0) x ≡ true
      → is_fresh (cycle_of c 0) x ≡ false → Kind c i x

pub mark-kind : (c : Cut) (i : ℕ) (r : Ref) → Joined c i
    → Kind c i (record { stamp = cycle_of c 0; body = body.Mark r })
mark-kind c i r joined = counts_earlier refl joined (eq-eqb _ _ refl) refl

pub reference-kind : {shape : Shaped} {c : Cut} {i : ℕ} (x : Message) → Inv shape c
    → i < shape.nodes → is_reference x.body ≡ true → StampFits (phases_of c 0) x.stamp
    → x.stamp ≤ cycle_of c i → Kind c i x
reference-kind {c = c} {i = i} x inv inside is (inl now) reached =
    let joined : Joined c i = omega (arith, now, reached, latest inv i inside) in
    counts_fresh
    (reference-balance (cycle_of c i) x.stamp x.body is
    ∙ ap Some (cond-false (ltb x.stamp (cycle_of c i)) Earlier Recent
    (le-ltb x.stamp (cycle_of c i) (omega (arith, now, joined)))))
    joined
    (reference-counts (cycle_of c 0) x.stamp x.body is
    ∙ le-ltb x.stamp (cycle_of c 0) (omega (arith, now)))
    (reference-fresh (cycle_of c 0) x is ∙ eq-eqb _ _ now)
reference-kind {c = c} {i = i} x inv inside is (inr before) reached = ⊎_elim {C = Kind c i x}
    (λ (joined : cycle_of c i ≡ cycle_of c 0).
    counts_earlier
    (reference-balance (cycle_of c i) x.stamp x.body is
    ∙ ap Some (cond-true (ltb x.stamp (cycle_of c i)) Earlier Recent
    (lt-ltb x.stamp (cycle_of c i) (omega (arith, before.1, joined)))))
    joined counted stale)
    (λ (apart : cycle_of c i ≢ cycle_of c 0).
    counts_recent
    (reference-balance (cycle_of c i) x.stamp x.body is
    ∙ ap Some (cond-false (ltb x.stamp (cycle_of c i)) Earlier Recent
    (le-ltb x.stamp (cycle_of c i)
    (omega (arith, before.1, apart, reached, latest inv i inside)))))
    apart counted stale)
    (cases_eq (cycle_of c i) (cycle_of c 0))
  where
    counted : is_counted (cycle_of c 0) x ≡ true
    counted =
        reference-counts (cycle_of c 0) x.stamp x.body is
        ∙ lt-ltb x.stamp (cycle_of c 0) (omega (arith, before.1))

    stale : is_fresh (cycle_of c 0) x ≡ false
    stale =
        reference-fresh (cycle_of c 0) x is
        ∙ ne_eqb x.stamp (cycle_of c 0) (λ e. omega (arith, before.1, e))

-- The message x is the first in flight from node j. If it is a Mark, its object is marked; what it
-- carries has been shaded or vouched for.
pub record Counting (shape : Shaped) (c : Cut) (i j : ℕ) (x : Message) : Type 0 where
  pub inv : Inv shape c
  pub inside : i < shape.nodes
  pub flight : IsInFlight c j i (taken c j i) x
  pub kind : Kind c i x
  pub no_token : (t : Token) → x.body ≡ body.Token t → ⊥
  pub target : (r : Ref) → x.body ≡ body.Mark r
      → (o : Object) × (slot_at (c r.node).local.heap r.slot ≡ Occupied r.generation o)
      × (o.mark ≡ cycle_of c 0)

abbrev pub counted_local : LocalState → ℕ → ℕ → ℕ → Body → LocalState
counted_local p from number stamp b =
    record p {
      got = set p.got from number;
      ring = counted_down (balance_of p.phases.cycle stamp b) p.ring;
    }

module _ {shape : Shaped} {c d : Cut} {i j : ℕ} {x : Message} (s : Counting shape c i j x)
    (becomes : Becomes c d i (record {
      local = counted_local (c i).local j (taken c j i + 1) x.stamp x.body;
      sent = (c i).sent;
    })) where
  abbrev after_count : LocalState
  after_count = counted_local (c i).local j (taken c j i + 1) x.stamp x.body

  -- the ring, by cases
  ring-earlier : balance_of (cycle_of c i) x.stamp x.body ≡ Some Earlier
      → after_count.ring
      ≡ record (c i).local.ring { colour = Black; earlier = (c i).local.ring.earlier -ℤ pos 1 }
  ring-earlier e = ap (λ (z : Option Balance). counted_down z (c i).local.ring) e

  ring-recent : balance_of (cycle_of c i) x.stamp x.body ≡ Some Recent
      → after_count.ring ≡ record (c i).local.ring { recent = (c i).local.ring.recent -ℤ pos 1 }
  ring-recent e = ap (λ (z : Option Balance). counted_down z (c i).local.ring) e

  -- one balance is this much less, and the other one this much
  count-less : Turn c d i after_count [] → (earlier_less recent_less : ℕ)
      → after_count.ring.earlier ≡ (c i).local.ring.earlier -ℤ pos earlier_less
      → after_count.ring.recent ≡ (c i).local.ring.recent -ℤ pos recent_less
      → earlier_less + recent_less ≤ 1 → Tally shape.nodes (d i)
  count-less turn earlier_less recent_less earlier recent together =
      let taking : TakesOne shape c d i after_count j = record {
        base = s.inv.base;
        inside = s.inside;
        sender = (flight-inside j i (taken c j i) x s.inv.base s.flight).0;
        turn = turn;
        got = refl;
        earlier_less = earlier_less;
        recent_less = recent_less;
        earlier = earlier;
        recent = recent;
        together = together;
      } in
      tally-takes taking (s.inv.tallies i s.inside)

  count-recent : Turn c d i after_count [] → balance_of (cycle_of c i) x.stamp x.body ≡ Some Recent
      → Tally shape.nodes (d i)
  count-recent turn e =
      let r : after_count.ring.earlier ≡ (c i).local.ring.earlier =
      ap (λ (k : Ring). k.earlier) (ring-recent e) in
      count-less turn 0 1 (omega (arith, ints, r)) (ap (λ (k : Ring). k.recent) (ring-recent e))
      (omega arith)

  -- the token stays
  ring-token : after_count.ring.token ≡ (c i).local.ring.token
  ring-token = by s.kind
    where
      by : Kind c i x → after_count.ring.token ≡ (c i).local.ring.token
      by (counts_earlier e joined counted stale) = ap (λ (z : Ring). z.token) (ring-earlier e)
      by (counts_fresh e joined counted new) = ap (λ (z : Ring). z.token) (ring-recent e)
      by (counts_recent e apart counted stale) = ap (λ (z : Ring). z.token) (ring-recent e)

  abbrev Owed : ℤ → ℤ → Bool → Type 0
  Owed before later passes = before ≡ later +ℤ pos (cond passes 1 0)

  counted-owed : Owed (balance (cycle_of c 0) (c i).local) (balance (cycle_of c 0) after_count)
      (is_counted (cycle_of c 0) x)
  counted-owed = by s.kind
    where
      by : Kind c i x → Owed (balance (cycle_of c 0) (c i).local)
          (balance (cycle_of c 0) after_count) (is_counted (cycle_of c 0) x)
      by (counts_earlier e joined counted stale) =
          let a = balance-joined (cycle_of c 0) (c i).local joined in
          let z = balance-joined (cycle_of c 0) after_count joined in
          let r : after_count.ring.earlier ≡ (c i).local.ring.earlier -ℤ pos 1 =
          ap (λ (k : Ring). k.earlier) (ring-earlier e) in
          let k : ◌≡◌ {A = ℕ} (cond (is_counted (cycle_of c 0) x) 1 0) 1 =
          cond-true _ 1 0 counted in
          omega (arith, ints, a, z, r, k)
      by (counts_fresh e joined counted new) =
          let a = balance-joined (cycle_of c 0) (c i).local joined in
          let z = balance-joined (cycle_of c 0) after_count joined in
          let r : after_count.ring.earlier ≡ (c i).local.ring.earlier =
          ap (λ (k : Ring). k.earlier) (ring-recent e) in
          let k : ◌≡◌ {A = ℕ} (cond (is_counted (cycle_of c 0) x) 1 0) 0 =
          cond-false _ 1 0 counted in
          omega (arith, ints, a, z, r, k)
      by (counts_recent e apart counted stale) =
          let a = balance-apart (cycle_of c 0) (c i).local apart in
          let z = balance-apart (cycle_of c 0) after_count apart in
          let r : after_count.ring.earlier ≡ (c i).local.ring.earlier =
          ap (λ (k : Ring). k.earlier) (ring-recent e) in
          let l : after_count.ring.recent ≡ (c i).local.ring.recent -ℤ pos 1 =
          ap (λ (k : Ring). k.recent) (ring-recent e) in
          let k : ◌≡◌ {A = ℕ} (cond (is_counted (cycle_of c 0) x) 1 0) 1 =
          cond-true _ 1 0 counted in
          omega (arith, ints, a, z, r, l, k)

  fresh-owed : Owed (fresh_balance (cycle_of c 0) (c i).local)
      (fresh_balance (cycle_of c 0) after_count) (is_fresh (cycle_of c 0) x)
  fresh-owed = by s.kind
    where
      by : Kind c i x → Owed (fresh_balance (cycle_of c 0) (c i).local)
          (fresh_balance (cycle_of c 0) after_count) (is_fresh (cycle_of c 0) x)
      by (counts_earlier e joined counted stale) =
          let a = fresh-joined (cycle_of c 0) (c i).local joined in
          let z = fresh-joined (cycle_of c 0) after_count joined in
          let r : after_count.ring.recent ≡ (c i).local.ring.recent =
          ap (λ (k : Ring). k.recent) (ring-earlier e) in
          let k : ◌≡◌ {A = ℕ} (cond (is_fresh (cycle_of c 0) x) 1 0) 0 = cond-false _ 1 0 stale in
          omega (arith, ints, a, z, r, k)
      by (counts_fresh e joined counted new) =
          let a = fresh-joined (cycle_of c 0) (c i).local joined in
          let z = fresh-joined (cycle_of c 0) after_count joined in
          let r : after_count.ring.recent ≡ (c i).local.ring.recent -ℤ pos 1 =
          ap (λ (k : Ring). k.recent) (ring-recent e) in
          let k : ◌≡◌ {A = ℕ} (cond (is_fresh (cycle_of c 0) x) 1 0) 1 = cond-true _ 1 0 new in
          omega (arith, ints, a, z, r, k)
      by (counts_recent e apart counted stale) =
          let a = fresh-apart (cycle_of c 0) (c i).local apart in
          let z = fresh-apart (cycle_of c 0) after_count apart in
          let k : ◌≡◌ {A = ℕ} (cond (is_fresh (cycle_of c 0) x) 1 0) 0 = cond-false _ 1 0 stale in
          omega (arith, ints, a, z, k)

  ring-step : (t : ℕ) → Turn c d i after_count [] → cycle_of d 0 ≡ cycle_of c 0
      → RingStep shape.nodes c d i after_count [] t
  ring-step t turn cycle = record {
    turn = turn;
    inside = s.inside;
    cycle = cycle;
    near = λ _. near s.kind;
    far = λ _. far s.kind;
  }
    where
      near : Kind c i x
          → ((IsBlack (cycle_of c 0) (c i).local → IsBlack (cycle_of c 0) after_count)
          × ((c i).local.ring.earlier ≤ℤ after_count.ring.earlier))
          ⊎ IsBlack (cycle_of c 0) after_count
      near (counts_earlier e joined counted stale) =
          inr (inr (ap (λ (k : Ring). k.colour) (ring-earlier e)))
      near (counts_fresh e joined counted new) = inl (
        (λ b. ⊎_elim {C = IsBlack (cycle_of c 0) after_count} (λ apart. inl apart)
            (λ black. inr (ap (λ (k : Ring). k.colour) (ring-recent e) ∙ black)) b),
        (let r : after_count.ring.earlier ≡ (c i).local.ring.earlier =
            ap (λ (k : Ring). k.earlier) (ring-recent e) in
            omega (arith, ints, r)),
      )
      near (counts_recent e apart counted stale) = inr (inl apart)

      far : Kind c i x
          → (IsPassive (cycle_of c 0) (c i).local
          → IsPassive (cycle_of c 0) after_count
          × (after_count.ring.earlier ≡ (c i).local.ring.earlier))
          ⊎ Loud shape.nodes (ringed c) t
      far (counts_earlier e joined counted stale) =
          inr (counted-loud s.inv.base s.inv.flows (counted-first s.flight counted) t)
      far (counts_fresh e joined counted new) =
          inl (λ p. (p, ap (λ (k : Ring). k.earlier) (ring-recent e)))
      far (counts_recent e apart counted stale) =
          inl (λ p. (p, ap (λ (k : Ring). k.earlier) (ring-recent e)))

  count-tally : Turn c d i after_count [] → Kind c i x → Tally shape.nodes (d i)
  count-tally turn (counts_earlier e joined counted stale) =
      let r : after_count.ring.recent ≡ (c i).local.ring.recent =
      ap (λ (k : Ring). k.recent) (ring-earlier e) in
      count-less turn 1 0 (ap (λ (k : Ring). k.earlier) (ring-earlier e)) (omega (arith, ints, r))
      (omega arith)
  count-tally turn (counts_fresh e joined counted new) = count-recent turn e
  count-tally turn (counts_recent e apart counted stale) = count-recent turn e

  pub count-inner : Inner shape c d i after_count []
  count-inner =
      let p : LocalState = (c i).local in
      let number : ℕ = taken c j i + 1 in
      let there : taken c j i < length (sent_to (c j) i) =
      slice_get_within (sent_to (c j) i) (taken c j i) x s.flight.there in
      let turn : Turn c d i after_count [] = record {
        becomes = becomes;
        heard = λ from. set-no_fewer p.got j number (omega arith) from;
      } in
      let cycle : cycle_of d 0 ≡ cycle_of c 0 =
      at_turn (λ l z. z.local.phases.cycle ≡ cycle_of c l) turn refl (λ l _. refl) 0 in
      -- what is still in flight from its place on, apart from x
      let later : (from place : ℕ) (y : Message) → IsInFlight c from i place y
      → (got_from after_count from ≤ place) ⊎ (y ≡ x) =
      λ from place y flight.
      at_set_if (λ z. (z ≤ place) ⊎ (y ≡ x)) p.got j from number 0
      (λ (e : j ≡ from). ⊎_elim {C = (number ≤ place) ⊎ (y ≡ x)}
      (λ (same : taken c j i ≡ place).
      inr (let both : ◌≡◌ {A = Option Message} (Some y) (Some x) =
      sym flight.there ∙ ap (λ (z : ℕ). slice_get (sent_to (c z) i) place) (sym e)
      ∙ ap (slice_get (sent_to (c j) i)) (sym same) ∙ s.flight.there in cc))
      (λ (other : taken c j i ≢ place).
      let w : taken c j i ≤ place = subst (λ (z : ℕ). taken c z i ≤ place) (sym e) flight.later in
      inl (omega (arith, w, other)))
      (cases_eq (taken c j i) place))
      (inl flight.later) in
      let keeps : Keeps shape c d i after_count [] = record {
        inv = s.inv;
        turn = turn;
        cycle = cycle;
        lasting = λ k g y here. record { object = y; there = here; mark = inl refl };
        marks = λ from place r at flight. ⊎_elim
            {C = (got_from after_count from ≤ place) ⊎ Covered d r}
            (λ after. inl after)
            (λ is.
            let found = s.target r (ap (λ (z : Message). z.body) (sym is)) in
            let here : slot_at (d r.node).local.heap r.slot ≡ Occupied r.generation found.0 =
            at_turn (λ l z. slot_at (c l).local.heap r.slot ≡ Occupied r.generation found.0
            → slot_at z.local.heap r.slot ≡ Occupied r.generation found.0) turn (λ a. a)
            (λ l _ a. a) r.node found.1 in
            inr (is_marked found.0 here (found.2 ∙ sym cycle)))
            (later from place _ flight);
      } in
      let taking : TakesCounted shape c d i after_count j x = record {
        base = s.inv.base;
        inside = s.inside;
        turn = turn;
        cycle = cycle;
        flight = s.flight;
        got = refl;
        counted = counted-owed;
        fresh = fresh-owed;
      } in
      record {
        inv = s.inv;
        inside = s.inside;
        turn = turn;
        same = record { shape = refl; own = refl; phases = refl; token = ring-token };
        heard = length-set p.got j number;
        within = λ from.
            at_set_if (λ z. z ≤ length (sent_to (c from) i)) p.got j from number 0
            (λ e. subst (λ (z : ℕ). number ≤ length (sent_to (c z) i)) e (omega (arith, there)))
            (s.inv.base.within from i);
        preserves = unshaded s.inv (λ to y never. absurd never);
        tokens = λ from place stamp t flight. ⊎_elim {C = got_from after_count from ≤ place}
            (λ after. after)
            (λ is. absurd (s.no_token t (ap (λ (z : Message). z.body) (sym is))))
            (later from place _ flight);
        cover = λ _. covered-kept keeps;
        flows = flows-taken taking s.inv.flows;
        tally = count-tally turn s.kind;
        safra = λ t z b. safra-turn (ring-step t turn cycle) z b;
      }
