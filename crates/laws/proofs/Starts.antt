-- The invariant after node 0 has moved to the next cycle, before it has shaded its roots.
use Rattle.std.proofs.Common.{◌≡◌, ◌≢◌, ℕ, pos, ◌+◌, ◌+ℤ◌, ◌<◌, ◌≤◌, ◌⊎◌, Bool, true, false, List, [], ◌∷◌, length, drop, get_or, Some, refl, sym, ap, ◌∙◌, subst, ⊎_elim, inl, inr, arith, le_refl}
use Rattle.std.specs.List.{AllByRecursion}
use Rattle.std.proofs.lemmas.Int.{ints}
use Rattle.std.proofs.lemmas.Bool.{cases_eq, eq-eqb, ne_eqb, both_ways, lt-ltb, le-ltb}
use Rattle.ids.specs.Limits.{Shaped}
use Rattle.msg.specs.declared.body.Body.{Body}
use Rattle.msg.specs.declared.body.Body.TheVariants as body
use Rattle.msg.specs.declared.body.Token.{Token}
use Rattle.msg.specs.declared.body.Message.{Message}
use Rattle.model.specs.State.{Phases, LocalState, NodeState, got_from, sent_to}
use Rattle.model.specs.Counting.{is_reference}
use Rattle.model.specs.Collecting.{new_token}
use Rattle.model.specs.Shading.{is_in}
use Rattle.model.specs.Steps.{carried}
use Rattle.model.specs.Cuts.{Cut, taken, IsInFlight, Becomes}
use Rattle.model.specs.Agreement.{total, number_of, in_flight, flow, counts, is_counted, balance}
use Rattle.model.proofs.Lookups.{slice_get-drop}
use Rattle.laws.proofs.Turns.{Turn, at_turn, flew}
use Rattle.laws.proofs.Sums.{total-same, total-add, total-zero, number-same}
use Rattle.laws.proofs.Safra.{stained}
use Rattle.laws.proofs.Flights.{flight-inside}
use Rattle.laws.proofs.Tallies.{bound-none}
use Rattle.laws.proofs.Inner.{occupied-inside}
use Rattle.laws.proofs.Acting.{balance-joined, balance-apart, fresh-joined, fresh-apart}
use Rattle.laws.proofs.Counts.{reference-counts, reference-fresh}
use Rattle.laws.proofs.Invariant.{phases_of, cycle_of, Marking, Resting, Joined, Covered, Phased, StampFits, BodyFits, Flows, is_fresh, fresh_balance, Spot, at_node, on_way, IsAt, is_held, is_sent, Inv}
use Rattle.laws.proofs.Joins.{entering, enter-turn, enter-inv}

pub record Starting (shape : Shaped) (c d : Cut) (grey : List ℕ) : Type 0 where
  pub inv : Inv shape c
  pub inside : 0 < shape.nodes
  pub resting : Resting (phases_of c 0)
  pub swept : (i : ℕ) → i < shape.nodes → (phases_of c i).swept ≡ cycle_of c 0
  pub reported : (i : ℕ) → 0 < i → i < shape.nodes
      → get_or (phases_of c 0).reports i 0 ≡ cycle_of c 0
  pub becomes : Becomes c d 0 (record {
    local = entering (c 0).local (cycle_of c 0 + 1) grey (Some new_token);
    sent = (c 0).sent;
  })

-- two tests that agree on all messages in flight count the same number of them
flow-same : (n : ℕ) (c d : Cut) (f g : Message → Bool)
    → ((from to : ℕ) → in_flight d from to ≡ in_flight c from to)
    → ((from to place : ℕ) (x : Message) → IsInFlight c from to place x → f x ≡ g x)
    → flow n f d ≡ flow n g c
flow-same n c d f g same alike =
    total-same n (λ from. total n (λ to. pos (number_of g (in_flight c from to))))
    (λ from. total n (λ to. pos (number_of f (in_flight d from to))))
    (λ from _.
    total-same n (λ to. pos (number_of g (in_flight c from to)))
    (λ to. pos (number_of f (in_flight d from to)))
    (λ to _.
    ap (λ (z : List Message). pos (number_of f z)) (same from to)
    ∙ ap pos (number-same f g (in_flight c from to)
    (λ k x there.
    alike from to (taken c from to + k) x (record {
      later = omega arith;
      there = sym (slice_get-drop (sent_to (c from) to) (taken c from to) k) ∙ there;
    })))))

number-none : (xs : List Message) → number_of (λ _. false) xs ≡ 0
number-none [] = refl
number-none (x ∷ xs) = omega (arith, number-none xs)

flow-none : (n : ℕ) (c : Cut) → flow n (λ _. false) c ≡ pos 0
flow-none n c =
    total-zero n (λ from. total n (λ to. pos (number_of (λ _. false) (in_flight c from to))))
    (λ from _.
    total-zero n (λ to. pos (number_of (λ _. false) (in_flight c from to)))
    (λ to _. ap pos (number-none (in_flight c from to))))

module _ {shape : Shaped} {c d : Cut} {grey : List ℕ} (h : Starting shape c d grey) where
  abbrev next_cycle : ℕ
  next_cycle = cycle_of c 0 + 1

  abbrev started : LocalState
  started = entering (c 0).local next_cycle grey (Some new_token)

  start-turn : Turn c d 0 started []
  start-turn = enter-turn h.becomes

  start-first : phases_of d 0 ≡ record (phases_of c 0) { cycle = next_cycle; cursor = 0 }
  start-first = ap (λ (z : NodeState). z.local.phases) h.becomes.changed

  start-cycle : cycle_of d 0 ≡ next_cycle
  start-cycle = ap (λ (z : Phases). z.cycle) start-first

  start-ended : (j : ℕ) → (phases_of d j).ended ≡ (phases_of c j).ended
  start-ended = at_turn (λ j s. s.local.phases.ended ≡ (phases_of c j).ended) start-turn refl
      (λ j _. refl)

  start-swept : (j : ℕ) → (phases_of d j).swept ≡ (phases_of c j).swept
  start-swept = at_turn (λ j s. s.local.phases.swept ≡ (phases_of c j).swept) start-turn refl
      (λ j _. refl)

  start-others : (j : ℕ) → j ≢ 0 → phases_of d j ≡ phases_of c j
  start-others j other = ap (λ (z : NodeState). z.local.phases) (h.becomes.others j other)

  start-joined : (j : ℕ) → j < shape.nodes → Joined c j
  start-joined j inside = ⊎_elim {C = Joined c j} (λ there. there)
      (λ behind. absurd (omega (arith, behind.0, h.resting))) (h.inv.phased.apart j inside)

  start-marking : Marking (phases_of d 0)
  start-marking = omega (arith, start-cycle, start-ended 0, h.resting)

  start-was : (from to place : ℕ) (x : Message) → IsInFlight d from to place x
      → IsInFlight c from to place x
  start-was from to place x flight = ⊎_elim {C = IsInFlight c from to place x}
      (λ before. before) (λ new. absurd new.1) (flew start-turn from to place x flight)

  start-stamp : (z : ℕ) → StampFits (phases_of c 0) z → StampFits (phases_of d 0) z
  start-stamp z (inl now) =
      inr (start-marking, (let e : z + 1 ≡ cycle_of d 0 = omega (arith, now, start-cycle) in e))
  start-stamp z (inr before) = absurd (let w = before.0 in omega (arith, w, h.resting))

  -- no stamp is of the next cycle
  start-stale : (z : ℕ) → StampFits (phases_of c 0) z → z ≡ next_cycle → ⊥
  start-stale z (inl now) e = omega (arith, now, e)
  start-stale z (inr before) e = (let w = before.0 in omega (arith, w, h.resting))

  -- the messages in flight are of the last cycle
  start-fits : (from to place s : ℕ) (b : Body)
      → IsInFlight c from to place (record { stamp = s; body = b })
      → BodyFits shape.nodes (phases_of c) from to s b
      → BodyFits shape.nodes (phases_of d) from to s b
  start-fits from to place s body.Begin flight f =
      (f.0, (let w = f.1 in omega (arith, w, start-cycle)))
  start-fits from to place s (body.Token t) flight f =
      absurd (let w = f.1 in omega (arith, w, h.resting))
  start-fits from to place s (body.Mark r) flight f =
      absurd (let w = f.1 in omega (arith, w, h.resting))
  start-fits from to place s (body.Give label reference) flight f = start-stamp s f
  start-fits from to place s (body.Put target slot reference) flight f = (f.0, start-stamp s f.1)
  start-fits from to place s (body.Get target slot label) flight f = (f.0, start-stamp s f.1)
  start-fits from to place s (body.Post label references bytes) flight f = start-stamp s f
  start-fits from to place s (body.Fetch target label offset count) flight f =
      (f.0, start-stamp s f.1)
  start-fits from to place s body.Ended flight f =
      absurd (let w = f.3 in
      let inside = (flight-inside from to place _ h.inv.base flight).1 in
      omega (arith, w, h.swept to inside, h.inv.phased.swept to))
  start-fits from to place s body.Swept flight f =
      absurd (let w = f.4 in
      let inside = (flight-inside from to place _ h.inv.base flight).0 in
      omega (arith, w, h.reported from (let k = f.1 in omega (arith, k)) inside))

  -- each message in flight with references counts from now on, and none did before
  start-alike : (from to place : ℕ) (x : Message) → IsInFlight c from to place x
      → (is_counted next_cycle x ≡ is_fresh (cycle_of c 0) x)
      × (is_counted (cycle_of c 0) x ≡ false) × (is_fresh next_cycle x ≡ false)
  start-alike from to place x flight = by x.body (h.inv.messages.fits from to place x flight)
    where
      stamp-now : StampFits (phases_of c 0) x.stamp → x.stamp ≡ cycle_of c 0
      stamp-now (inl now) = now
      stamp-now (inr before) = absurd (let w = before.0 in omega (arith, w, h.resting))

      reference : (b : Body) → is_reference b ≡ true → x.stamp ≡ cycle_of c 0
          → (counts next_cycle x.stamp b
          ≡ is_fresh (cycle_of c 0) (record { stamp = x.stamp; body = b }))
          × (counts (cycle_of c 0) x.stamp b ≡ false)
          × (is_fresh next_cycle (record { stamp = x.stamp; body = b }) ≡ false)
      reference b is now = (
        reference-counts next_cycle x.stamp b is
            ∙ lt-ltb x.stamp next_cycle (omega (arith, now))
            ∙ sym (reference-fresh (cycle_of c 0) (record { stamp = x.stamp; body = b }) is
            ∙ eq-eqb x.stamp (cycle_of c 0) now),
        reference-counts (cycle_of c 0) x.stamp b is
            ∙ le-ltb x.stamp (cycle_of c 0) (omega (arith, now)),
        reference-fresh next_cycle (record { stamp = x.stamp; body = b }) is
            ∙ ne_eqb x.stamp next_cycle (λ e. omega (arith, e, now)),
      )

      by : (b : Body) → BodyFits shape.nodes (phases_of c) from to x.stamp b
          → (counts next_cycle x.stamp b
          ≡ is_fresh (cycle_of c 0) (record { stamp = x.stamp; body = b }))
          × (counts (cycle_of c 0) x.stamp b ≡ false)
          × (is_fresh next_cycle (record { stamp = x.stamp; body = b }) ≡ false)
      by (body.Mark r) f = absurd (let w = f.1 in omega (arith, w, h.resting))
      by (body.Give label r) f = reference (body.Give label r) refl (stamp-now f)
      by (body.Put target slot r) f = reference (body.Put target slot r) refl (stamp-now f.1)
      by (body.Get target slot label) f =
          reference (body.Get target slot label) refl (stamp-now f.1)
      by (body.Post label references bytes) f =
          reference (body.Post label references bytes) refl (stamp-now f)
      by (body.Fetch target label offset count) f =
          reference (body.Fetch target label offset count) refl (stamp-now f.1)
      by b f = (refl, refl, refl)

  start-flight : (from to : ℕ) → in_flight d from to ≡ in_flight c from to
  start-flight from to =
      ap (λ (z : ℕ). drop z (sent_to (d from) to))
      (at_turn (λ l s. got_from s.local from ≡ taken c from l) start-turn refl (λ l _. refl) to)
      ∙ ap (drop (taken c from to))
      (at_turn (λ l s. sent_to s to ≡ sent_to (c l) to) start-turn refl (λ l _. refl) from)

  start-flows : Flows shape.nodes d
  start-flows =
      let n : ℕ = shape.nodes in
      let cycle : ℕ = cycle_of c 0 in
      let none : total n (λ i. balance cycle (c i).local) ≡ pos 0 =
      h.inv.flows.counted
      ∙ flow-same n c c (is_counted cycle) (λ _. false) (λ _ _. refl)
      (λ from to place x f. (start-alike from to place x f).1)
      ∙ flow-none n c in
      let owed : (j : ℕ) → j < n
      → balance next_cycle (d j).local
      ≡ balance cycle (c j).local +ℤ fresh_balance cycle (c j).local =
      λ j inside.
      let a = balance-joined cycle (c j).local (start-joined j inside) in
      let b = fresh-joined cycle (c j).local (start-joined j inside) in
      ⊎_elim {C = balance next_cycle (d j).local
      ≡ balance cycle (c j).local +ℤ fresh_balance cycle (c j).local}
      (λ (e : j ≡ 0).
      let k : balance next_cycle started ≡ started.ring.earlier =
      balance-joined next_cycle started refl in
      let there : balance next_cycle (d j).local ≡ balance next_cycle started =
      ap (λ (z : ℕ). balance next_cycle (d z).local) e
      ∙ ap (λ (z : NodeState). balance next_cycle z.local) h.becomes.changed in
      let earlier : (c j).local.ring.earlier ≡ (c 0).local.ring.earlier =
      ap (λ (z : ℕ). (c z).local.ring.earlier) e in
      let recent : (c j).local.ring.recent ≡ (c 0).local.ring.recent =
      ap (λ (z : ℕ). (c z).local.ring.recent) e in
      omega (arith, ints, a, b, k, there, earlier, recent))
      (λ (other : j ≢ 0).
      let there : balance next_cycle (d j).local ≡ balance next_cycle (c j).local =
      ap (λ (z : NodeState). balance next_cycle z.local) (h.becomes.others j other) in
      let k = balance-apart next_cycle (c j).local
      (λ e. (let w = start-joined j inside in omega (arith, e, w))) in
      omega (arith, ints, a, b, k, there))
      (cases_eq j 0) in
      let sum = total-add n (λ i. balance cycle (c i).local) (λ i. fresh_balance cycle (c i).local)
      (λ i. balance next_cycle (d i).local) owed in
      let counted = flow-same n c d (is_counted next_cycle) (is_fresh cycle) start-flight
      (λ from to place x f. (start-alike from to place x f).0) in
      let fresh = flow-same n c d (is_fresh next_cycle) (λ _. false) start-flight
      (λ from to place x f. (start-alike from to place x f).2)
      ∙ flow-none n c in
      let new : total n (λ i. fresh_balance next_cycle (d i).local) ≡ pos 0 =
      total-zero n (λ i. fresh_balance next_cycle (d i).local)
      (λ j inside. ⊎_elim {C = fresh_balance next_cycle (d j).local ≡ pos 0}
      (λ (e : j ≡ 0).
      ap (λ (z : ℕ). fresh_balance next_cycle (d z).local) e
      ∙ ap (λ (z : NodeState). fresh_balance next_cycle z.local) h.becomes.changed
      ∙ fresh-joined next_cycle started refl)
      (λ (other : j ≢ 0).
      ap (λ (z : NodeState). fresh_balance next_cycle z.local) (h.becomes.others j other)
      ∙ fresh-apart next_cycle (c j).local
      (λ e. (let w = start-joined j inside in omega (arith, e, w))))
      (cases_eq j 0)) in
      let at : (z : ℕ) → z ≡ next_cycle
      → (total n (λ i. balance z (d i).local) ≡ flow n (is_counted z) d)
      × (total n (λ i. fresh_balance z (d i).local) ≡ flow n (is_fresh z) d) =
      λ z e.
      subst (λ (y : ℕ). (total n (λ i. balance y (d i).local) ≡ flow n (is_counted y) d)
      × (total n (λ i. fresh_balance y (d i).local) ≡ flow n (is_fresh y) d)) (sym e) (
        omega (arith, ints, sum, none, counted, h.inv.flows.fresh),
        omega (arith, ints, new, fresh),
      ) in
      let both = at (cycle_of d 0) start-cycle in
      record { counted = both.0; fresh = both.1 }

  start-phased : Phased shape.nodes (phases_of d)
  start-phased = record {
    swept = λ j. omega (arith, h.inv.phased.swept j, start-swept j, start-ended j);
    ended = at_turn (λ j s. s.local.phases.ended ≤ s.local.phases.cycle) start-turn
        (let w = h.inv.phased.ended 0 in omega (arith, w)) (λ j _. h.inv.phased.ended j);
    cycle = at_turn (λ j s. s.local.phases.cycle ≤ s.local.phases.swept + 1) start-turn
        (let w = h.swept 0 h.inside in omega (arith, w)) (λ j _. h.inv.phased.cycle j);
    cursor = at_turn (λ j s. s.local.phases.swept ≡ s.local.phases.ended
        → s.local.phases.cursor ≡ 0) start-turn (λ _. refl) (λ j _. h.inv.phased.cursor j);
    first = λ j. omega (arith, h.inv.phased.first j, start-ended j, start-ended 0);
    apart = λ j inside. ⊎_elim {C = (cycle_of d j ≡ cycle_of d 0)
        ⊎ (Marking (phases_of d 0) × (cycle_of d j + 1 ≡ cycle_of d 0)
        × ((phases_of d j).swept + 1 ≡ cycle_of d 0))}
        (λ (e : j ≡ 0). inl (ap (cycle_of d) e))
        (λ (other : j ≢ 0).
        let same : cycle_of d j ≡ cycle_of c j =
        ap (λ (z : Phases). z.cycle) (start-others j other) in
        inr (
          start-marking,
          omega (arith, same, start-joined j inside, start-cycle),
          omega (arith, start-swept j, h.swept j inside, start-cycle),
        ))
        (cases_eq j 0);
    reports = λ j above inside.
        (let same : get_or (phases_of d 0).reports j 0 ≡ get_or (phases_of c 0).reports j 0 =
        ap (λ (z : Phases). get_or z.reports j 0) start-first in
        omega (arith, same, start-swept j, h.inv.phased.reports j above inside));
    reporters = ap (λ (z : Phases). length z.reports) start-first ∙ h.inv.phased.reporters;
  }

  start-only : (k : Token) (s : Spot) → IsAt d k s → s ≡ at_node 0
  start-only k (at_node j) (is_held j0 held) = ⊎_elim {C = at_node j0 ≡ at_node 0}
      (λ (e : j0 ≡ 0). ap at_node e)
      (λ (other : j0 ≢ 0).
      absurd (h.inv.tokens.rest k (at_node j0) h.resting (is_held j0
      (ap (λ (z : NodeState). z.local.ring.token) (sym (h.becomes.others j0 other)) ∙ held))))
      (cases_eq j0 0)
  start-only k (on_way from to place) (is_sent f0 t0 p0 stamp flight) =
      absurd (h.inv.tokens.rest k (on_way f0 t0 p0) h.resting
      (is_sent f0 t0 p0 stamp (start-was f0 t0 p0 _ flight)))

  pub start-inv : Inv shape d
  start-inv = enter-inv (record {
    inv = h.inv;
    inside = h.inside;
    becomes = h.becomes;
    older = omega arith;
    now = start-cycle;
    marking = start-marking;
    clean = λ rest j k g o there.
        h.inv.rested.behind j k g o rest there
        (inr (h.swept j (occupied-inside j k g o h.inv.base there)));
    cover = record {
      asked = λ marking j r inside joined asked. ⊎_elim {C = Covered d r}
          (λ (e : j ≡ 0).
          absurd (let none : is_in r (d j).local.asked ≡ false =
          ap (λ (z : ℕ). is_in r (d z).local.asked) e
          ∙ ap (λ (z : NodeState). is_in r z.local.asked) h.becomes.changed in
          both_ways _ none asked))
          (λ (other : j ≢ 0).
          absurd (let same : cycle_of d j ≡ cycle_of c j =
          ap (λ (z : Phases). z.cycle) (start-others j other) in
          omega (arith, same, joined, start-cycle, start-joined j inside)))
          (cases_eq j 0);
      messages = λ marking from to place x flight stamp.
          (let before = start-was from to place x flight in
          carries-none from to x.stamp x.body (h.inv.messages.fits from to place x before)
          (stamp ∙ start-cycle));
    };
    phased = start-phased;
    messages = record {
      fits = λ from to place x flight.
          (let before = start-was from to place x flight in
          start-fits from to place x.stamp x.body before
          (h.inv.messages.fits from to place x before));
      once = λ from to k l x y fx fy.
          h.inv.messages.once from to k l x y (start-was from to k x fx) (start-was from to l y fy);
    };
    flows = start-flows;
    tokens = record {
      round = λ _. record {
        token = new_token;
        spot = at_node 0;
        there = is_held 0 (ap (λ (z : NodeState). z.local.ring.token) h.becomes.changed);
        only = start-only;
        near = h.inside;
        joined = λ j e. ap (cycle_of d) (node-is j 0 (sym e));
        safra = stained (record {
          node = 0;
          below = le_refl 0;
          black = inr (ap (λ (z : NodeState). z.local.ring.colour) h.becomes.changed);
        });
        bound = bound-none shape.nodes d 0;
      };
      rest = λ k s rest _. absurd (omega (arith, rest, start-marking));
    };
  })
    where
      node-is : (j k : ℕ) → at_node j ≡ at_node k → j ≡ k
      node-is j k e = cc

      carries-none : (from to s : ℕ) (b : Body) → BodyFits shape.nodes (phases_of c) from to s b
          → s ≡ next_cycle → AllByRecursion (Covered d) (carried b)
      carries-none from to s (body.Give label r) f e = absurd (start-stale _ f e)
      carries-none from to s (body.Put target slot r) f e = absurd (start-stale _ f.1 e)
      carries-none from to s (body.Get target slot label) f e = absurd (start-stale _ f.1 e)
      carries-none from to s (body.Post label references bytes) f e = absurd (start-stale _ f e)
      carries-none from to s (body.Fetch target label offset count) f e =
          absurd (start-stale _ f.1 e)
      carries-none from to s b f e = tt
