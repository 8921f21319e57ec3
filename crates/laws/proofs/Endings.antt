-- The invariant after node 0 has found that marking has ended.
use Rattle.std.proofs.Common.{◌≡◌, ◌≢◌, ℕ, pos, ◌+ℤ◌, ◌<◌, ◌≤◌, Bool, true, false, List, [], length, get_or, Option, None, Some, refl, sym, ap, ◌∙◌, subst, ⊎_elim, inl, inr, arith, le_refl}
use Rattle.std.specs.Prelude.{◌<ℤ◌}
use Rattle.std.specs.List.{AllByRecursion}
use Rattle.std.proofs.lemmas.Int.{ints}
use Rattle.std.proofs.lemmas.Bool.{cases_eq, cases_lt, eq-eqb, both_ways, not_from_true, lt-ltb}
use Rattle.ids.specs.Limits.{Shaped}
use Rattle.ids.specs.declared.names.Ref.{Ref}
use Rattle.msg.specs.declared.body.Body.{Body}
use Rattle.msg.specs.declared.body.Body.TheVariants as body
use Rattle.msg.specs.declared.body.Colour.TheVariants.{White, Black}
use Rattle.msg.specs.declared.body.Token.{Token}
use Rattle.msg.specs.declared.body.Message.{Message}
use Rattle.model.specs.State.{Occupied, Heap, Phases, LocalState, NodeState, no_node, slot_at}
use Rattle.model.specs.Counting.{is_reference}
use Rattle.model.specs.Collecting.{without_token}
use Rattle.model.specs.Shading.{is_open}
use Rattle.model.specs.Steps.{carried, mentioned}
use Rattle.model.specs.Cuts.{Cut, IsInFlight, Among, Becomes}
use Rattle.model.specs.Agreement.{total, counts, is_counted, balance}
use Rattle.model.proofs.Lookups.{all-map}
use Rattle.laws.proofs.Lookups.{any-map}
use Rattle.laws.proofs.Turns.{Turn, at_turn, flew}
use Rattle.laws.proofs.Sums.{total-same}
use Rattle.laws.proofs.Safra.{Safra, PassiveAbove, safra-verdict}
use Rattle.laws.proofs.Flights.{flow-positive}
use Rattle.laws.proofs.Base.{base-step, unheard}
use Rattle.laws.proofs.Tallies.{tally-same, tallies-turn}
use Rattle.laws.proofs.Inner.{marking-open, holds-covered, occupied-inside, mentioned-carried, roots-map}
use Rattle.laws.proofs.Acting.{balance-joined}
use Rattle.laws.proofs.Counts.{reference-counts}
use Rattle.laws.proofs.Invariant.{phases_of, cycle_of, Marking, Joined, Safe, Holds, Covered, is_marked, is_asked, RootsAll, PlacesAll, Tidy, Phased, StampFits, BodyFits, Closed, Round, Spot, at_node, on_way, place_of_spot, IsAt, is_held, is_sent, IsPassive, ringed, is_black, Inv}
use Rattle.laws.proofs.Light.{Speaks, speaks-flows}
use Rattle.laws.proofs.RingSteps.{at-once, way-not-node}

-- Node 0 holds the token and finds that marking has ended.
pub record Ending (shape : Shaped) (c d : Cut) (t : Token) : Type 0 where
  pub inv : Inv shape c
  pub inside : 0 < shape.nodes
  pub held : (c 0).local.ring.token ≡ Some t
  pub marking : Marking (phases_of c 0)
  pub calm : (c 0).local.heap.grey ≡ []
  pub white : (c 0).local.ring.colour ≡ White
  pub token_white : t.colour ≡ White
  pub none : t.q +ℤ (c 0).local.ring.earlier ≡ pos 0
  pub becomes : Becomes c d 0 (record {
    local = record (c 0).local {
      phases = record (c 0).local.phases { ended = cycle_of c 0 };
      ring = without_token (c 0).local.ring;
    };
    sent = (c 0).sent;
  })

module _ {shape : Shaped} {c d : Cut} {t : Token} (h : Ending shape c d t) where
  abbrev over : LocalState
  over = record (c 0).local {
    phases = record (c 0).local.phases { ended = cycle_of c 0 };
    ring = without_token (c 0).local.ring;
  }

  end-turn : Turn c d 0 over []
  end-turn = record { becomes = h.becomes; heard = λ from. le_refl _ }

  end-round : Round shape.nodes c
  end-round = h.inv.tokens.round h.marking

  end-spot : end-round.spot ≡ at_node 0
  end-spot = sym (end-round.only t (at_node 0) (is_held 0 h.held))

  end-verdict : PassiveAbove shape.nodes (ringed c) 0 × (total shape.nodes (ringed c).owed ≡ pos 0)
  end-verdict =
      let same : end-round.token ≡ t =
      at-once c end-round.token t (at_node 0)
      (subst (IsAt c end-round.token) end-spot end-round.there) (is_held 0 h.held) in
      let at : Safra shape.nodes (ringed c) 0 t.q (is_black t.colour) =
      subst (λ (z : Token). Safra shape.nodes (ringed c) 0 z.q (is_black z.colour)) same
      (subst (λ (z : Spot). Safra shape.nodes (ringed c) (place_of_spot z) end-round.token.q
      (is_black end-round.token.colour)) end-spot end-round.safra) in
      safra-verdict shape.nodes (ringed c) t.q
      (λ black. ⊎_elim {C = ⊥} (λ apart. apart refl)
      (λ is. absurd (let never : White ≡ Black = sym h.white ∙ is in cc)) black)
      h.none
      (subst (λ (z : Bool). Safra shape.nodes (ringed c) 0 t.q z) (ap is_black h.token_white) at)

  -- all nodes have joined, and none has a grey object
  pub end-passive : (i : ℕ) → i < shape.nodes → IsPassive (cycle_of c 0) (c i).local
  end-passive i inside = ⊎_elim {C = IsPassive (cycle_of c 0) (c i).local}
      (λ (e : i ≡ 0). (ap (cycle_of c) e, ap (λ (z : ℕ). (c z).local.heap.grey) e ∙ h.calm))
      (λ (other : i ≢ 0). end-verdict.0 i (omega (arith, other)) inside)
      (cases_eq i 0)

  -- no counted message is in flight
  end-delivered : (from to place : ℕ) (x : Message) → IsInFlight c from to place x
      → is_counted (cycle_of c 0) x ≡ true → ⊥
  end-delivered from to place x flight counted =
      let positive =
      flow-positive (is_counted (cycle_of c 0)) from to place x h.inv.base flight counted in
      let same : total shape.nodes (λ i. balance (cycle_of c 0) (c i).local)
      ≡ total shape.nodes (ringed c).owed =
      total-same shape.nodes (ringed c).owed (λ i. balance (cycle_of c 0) (c i).local)
      (λ i inside. balance-joined (cycle_of c 0) (c i).local (end-passive i inside).0) in
      let zero_now = end-verdict.1 in
      absurd
      (let never : pos 0 <ℤ pos 0 =
      omega (arith, ints, positive, same, h.inv.flows.counted, zero_now) in
      omega (arith, ints, never))

  -- what is covered is marked
  end-safe : (r : Ref) → Covered c r → Safe d r
  end-safe r (is_marked o there mark) = record {
    object = o;
    there =
        at_turn (λ l s. slot_at (c l).local.heap r.slot ≡ Occupied r.generation o
        → slot_at s.local.heap r.slot ≡ Occupied r.generation o) end-turn (λ a. a) (λ l _ a. a)
        r.node there;
    marked = λ _. mark ∙ sym end-cycle;
  }
    where
      end-cycle : cycle_of d 0 ≡ cycle_of c 0
      end-cycle = ap (λ (z : NodeState). z.local.phases.cycle) h.becomes.changed
  end-safe r (is_asked from place flight) =
      absurd (end-delivered from r.node place _ flight (eq-eqb (cycle_of c 0) (cycle_of c 0) refl))

  end-held : (i : ℕ) → i < shape.nodes → (r : Ref) → Holds (c i).local r → Safe d r
  end-held i inside r holds =
      end-safe r (holds-covered h.inv h.marking inside (end-passive i inside).0 holds)

  -- phases
  end-phases : (j : ℕ) → j ≢ 0 → phases_of d j ≡ phases_of c j
  end-phases j other = ap (λ (z : NodeState). z.local.phases) (h.becomes.others j other)

  end-first : phases_of d 0 ≡ record (phases_of c 0) { ended = cycle_of c 0 }
  end-first = ap (λ (z : NodeState). z.local.phases) h.becomes.changed

  end-cycle : (j : ℕ) → cycle_of d j ≡ cycle_of c j
  end-cycle = at_turn (λ j s. s.local.phases.cycle ≡ cycle_of c j) end-turn refl (λ j _. refl)

  end-ended : (phases_of d 0).ended ≡ cycle_of c 0
  end-ended = ap (λ (z : Phases). z.ended) end-first

  -- no node has swept the cycle
  pub end-unswept : (i : ℕ) → (phases_of c i).swept < cycle_of c 0
  end-unswept i =
      omega (arith, h.inv.phased.swept i, h.inv.phased.first i, h.marking)

  end-swept : (j : ℕ) → (phases_of d j).swept ≡ (phases_of c j).swept
  end-swept = at_turn (λ j s. s.local.phases.swept ≡ (phases_of c j).swept) end-turn refl
      (λ j _. refl)

  end-cursor : (j : ℕ) → (phases_of d j).cursor ≡ (phases_of c j).cursor
  end-cursor = at_turn (λ j s. s.local.phases.cursor ≡ (phases_of c j).cursor) end-turn refl
      (λ j _. refl)

  end-later : (j : ℕ) → (phases_of c j).ended ≤ (phases_of d j).ended
  end-later = at_turn (λ j s. (phases_of c j).ended ≤ s.local.phases.ended) end-turn
      (let w = h.inv.phased.ended 0 in w) (λ j _. le_refl _)

  end-phased : Phased shape.nodes (phases_of d)
  end-phased = record {
    swept = λ i.
        (let a = h.inv.phased.swept i in
        omega (arith, a, end-swept i, end-later i));
    ended = λ i. ⊎_elim {C = (phases_of d i).ended ≤ (phases_of d i).cycle}
        (λ (e : i ≡ 0).
        subst (λ (z : ℕ). (phases_of d z).ended ≤ (phases_of d z).cycle) (sym e)
        (omega (arith, end-ended, end-cycle 0)))
        (λ (other : i ≢ 0).
        subst (λ (z : Phases). z.ended ≤ z.cycle) (sym (end-phases i other)) (h.inv.phased.ended i))
        (cases_eq i 0);
    cycle = λ i. omega (arith, h.inv.phased.cycle i, end-swept i, end-cycle i);
    cursor = λ i same. ⊎_elim {C = (phases_of d i).cursor ≡ 0}
        (λ (e : i ≡ 0).
        let at : (phases_of d 0).swept ≡ (phases_of d 0).ended =
        subst (λ (z : ℕ). (phases_of d z).swept ≡ (phases_of d z).ended) e same in
        absurd (omega (arith, at, end-ended, end-swept 0, end-unswept 0)))
        (λ (other : i ≢ 0).
        end-cursor i
        ∙ h.inv.phased.cursor i
        (sym (end-swept i) ∙ same ∙ ap (λ (z : Phases). z.ended) (end-phases i other)))
        (cases_eq i 0);
    first = λ i. ⊎_elim {C = (phases_of d i).ended ≤ (phases_of d 0).ended}
        (λ (e : i ≡ 0).
        subst (λ (z : ℕ). (phases_of d z).ended ≤ (phases_of d 0).ended) (sym e) (le_refl _))
        (λ (other : i ≢ 0).
        let same : (phases_of d i).ended ≡ (phases_of c i).ended =
        ap (λ (z : Phases). z.ended) (end-phases i other) in
        omega (arith, same, end-ended, h.inv.phased.first i, h.marking))
        (cases_eq i 0);
    apart = λ i inside. inl (end-cycle i ∙ (end-passive i inside).0 ∙ sym (end-cycle 0));
    reports = λ i above inside.
        (let same : get_or (phases_of d 0).reports i 0 ≡ get_or (phases_of c 0).reports i 0 =
        ap (λ (z : Phases). get_or z.reports i 0) end-first in
        omega (arith, same, end-swept i, h.inv.phased.reports i above inside));
    reporters = ap (λ (z : Phases). length z.reports) end-first ∙ h.inv.phased.reporters;
  }

  end-was : (from to place : ℕ) (x : Message) → IsInFlight d from to place x
      → IsInFlight c from to place x
  end-was from to place x flight = ⊎_elim {C = IsInFlight c from to place x}
      (λ before. before) (λ new. absurd new.1) (flew end-turn from to place x flight)

  end-stamps : {from to place stamp : ℕ} {b : Body} → is_reference b ≡ true
      → IsInFlight c from to place (record { stamp = stamp; body = b })
      → StampFits (phases_of c 0) stamp → StampFits (phases_of d 0) stamp
  end-stamps is flight (inl now) = inl (now ∙ sym (end-cycle 0))
  end-stamps {from} {to} {place} {stamp} {b} is flight (inr before) =
      absurd (end-delivered from to place _ flight
      (reference-counts (cycle_of c 0) stamp b is
      ∙ lt-ltb stamp (cycle_of c 0) (let w = before.1 in omega (arith, w))))

  -- the messages in flight now
  end-fits : (from to place stamp : ℕ) (b : Body)
      → IsInFlight c from to place (record { stamp = stamp; body = b })
      → BodyFits shape.nodes (phases_of c) from to stamp b
      → BodyFits shape.nodes (phases_of d) from to stamp b
  end-fits from to place stamp body.Begin flight fits =
      (fits.0, (let w = fits.1 in omega (arith, w, end-cycle 0)))
  end-fits from to place stamp (body.Token k) flight fits =
      absurd (way-not-node from to place 0
      (end-round.only k (on_way from to place) (is_sent from to place stamp flight) ∙ end-spot))
  end-fits from to place stamp (body.Mark r) flight fits =
      absurd (end-delivered from to place _ flight (eq-eqb stamp (cycle_of c 0) fits.2))
  end-fits from to place stamp (body.Give label reference) flight fits =
      end-stamps refl flight fits
  end-fits from to place stamp (body.Put target slot reference) flight fits =
      (fits.0, end-stamps refl flight fits.1)
  end-fits from to place stamp (body.Get target slot label) flight fits =
      (fits.0, end-stamps refl flight fits.1)
  end-fits from to place stamp (body.Post label references bytes) flight fits =
      end-stamps refl flight fits
  end-fits from to place stamp (body.Fetch target label offset count) flight fits =
      (fits.0, end-stamps refl flight fits.1)
  end-fits from to place stamp body.Ended flight fits =
      absurd (let w = fits.1 in omega (arith, w, h.marking))
  end-fits from to place stamp body.Swept flight fits =
      absurd (let w = fits.3 in omega (arith, w, end-unswept from))

  -- references in flight are of this cycle, and so covered
  end-carried : (from to place : ℕ) (x : Message) → IsInFlight c from to place x
      → BodyFits shape.nodes (phases_of c) from to x.stamp x.body
      → AllByRecursion (Safe d) (mentioned x.body)
  end-carried from to place x flight fits = by x.body refl fits
    where
      now : (b : Body) → x.body ≡ b → is_reference b ≡ true → StampFits (phases_of c 0) x.stamp
          → AllByRecursion (Safe d) (mentioned b)
      now b e is (inl stamp) =
          subst (λ (z : List Ref). AllByRecursion (Safe d) z) (sym (mentioned-carried b is))
          (all-map (Covered c) (Safe d) end-safe (carried b)
          (subst (λ (z : Body). AllByRecursion (Covered c) (carried z)) e
          (h.inv.cover.messages h.marking from to place x flight stamp)))
      now b e is (inr before) =
          absurd (end-delivered from to place x flight
          (reference-counts (cycle_of c 0) x.stamp x.body (ap is_reference e ∙ is)
          ∙ lt-ltb x.stamp (cycle_of c 0) (let w = before.1 in omega (arith, w))))

      by : (b : Body) → x.body ≡ b → BodyFits shape.nodes (phases_of c) from to x.stamp b
          → AllByRecursion (Safe d) (mentioned b)
      by (body.Mark r) e f =
          absurd (end-delivered from to place x flight
          (ap (counts (cycle_of c 0) x.stamp) e ∙ eq-eqb x.stamp (cycle_of c 0) f.2))
      by (body.Give label reference) e f = now (body.Give label reference) e refl f
      by (body.Put target slot reference) e f = now (body.Put target slot reference) e refl f.1
      by (body.Get target slot label) e f = now (body.Get target slot label) e refl f.1
      by (body.Post label references bytes) e f = now (body.Post label references bytes) e refl f
      by (body.Fetch target label offset count) e f =
          now (body.Fetch target label offset count) e refl f.1
      by b e f = tt

  end-heap : (j : ℕ) → (d j).local.heap ≡ (c j).local.heap
  end-heap = at_turn (λ j s. s.local.heap ≡ (c j).local.heap) end-turn refl (λ j _. refl)

  no-roots : (P : Ref → Type 0) → RootsAll P no_node.local.heap
  no-roots P = record { registers = λ k. tt; letters = λ k. tt }

  end-closed : Closed d
  end-closed = record {
    roots = λ i.
        subst (RootsAll (Safe d)) (sym (end-heap i))
        (⊎_elim {C = RootsAll (Safe d) (c i).local.heap}
        (λ (inside : i < shape.nodes).
        roots-map (Holds (c i).local) (Safe d) (end-held i inside)
        (h.inv.held.roots i (marking-open h.inv h.marking (end-passive i inside).0)))
        (λ (past : shape.nodes ≤ i).
        subst (λ (z : NodeState). RootsAll (Safe d) z.local.heap) (sym (h.inv.base.none i past))
        (no-roots (Safe d)))
        (cases_lt i shape.nodes));
    places = λ i k g o there marked j.
        (let was : slot_at (c i).local.heap k ≡ Occupied g o =
        ap (λ (z : Heap). slot_at z k) (sym (end-heap i)) ∙ there in
        let inside : i < shape.nodes = occupied-inside i k g o h.inv.base was in
        let passive = end-passive i inside in
        any-map (Holds (c i).local) (Safe d) (end-held i inside) _
        (h.inv.held.blacks i k g o (marking-open h.inv h.marking passive.0) was
        (marked (end-ended ∙ sym (end-cycle 0)) ∙ end-cycle 0 ∙ sym passive.0)
        (λ a. subst (λ (z : List ℕ). Among k z) passive.1 a) j));
    messages = λ from to place x flight.
        (let before = end-was from to place x flight in
        end-carried from to place x before (h.inv.messages.fits from to place x before));
  }

  end-only : (k : Token) (s : Spot) → IsAt d k s → ⊥
  end-only k (at_node j) (is_held j0 held) = ⊎_elim {C = ⊥}
      (λ (e : j0 ≡ 0).
      absurd (let never : ◌≡◌ {A = Option Token} None (Some k) =
      ap (λ (z : NodeState). z.local.ring.token) (sym h.becomes.changed)
      ∙ ap (λ (z : ℕ). (d z).local.ring.token) (sym e) ∙ held in cc))
      (λ (other : j0 ≢ 0).
      let before : (c j0).local.ring.token ≡ Some k =
      ap (λ (z : NodeState). z.local.ring.token) (sym (h.becomes.others j0 other)) ∙ held in
      other (ap place_of_spot (end-round.only k (at_node j0) (is_held j0 before) ∙ end-spot)))
      (cases_eq j0 0)
  end-only k (on_way from to place) (is_sent f0 t0 p0 stamp flight) =
      way-not-node f0 t0 p0 0
      (end-round.only k (on_way f0 t0 p0) (is_sent f0 t0 p0 stamp (end-was f0 t0 p0 _ flight))
      ∙ end-spot)

  end-resting : Marking (phases_of d 0) → ⊥
  end-resting m = omega (arith, m, end-ended, end-cycle 0)

  pub end-inv : Inv shape d
  end-inv = record {
    base = base-step (unheard h.inside end-turn refl refl refl h.inv.base) h.inv.base;
    tidy = at_turn (λ j s. Tidy s.local) end-turn
        (record {
          free = (h.inv.tidy 0).free;
          room = (h.inv.tidy 0).room;
          marks = (h.inv.tidy 0).marks;
          calm = λ _. h.calm;
        })
        (λ j _. h.inv.tidy j);
    phased = end-phased;
    messages = record {
      fits = λ from to place x flight.
          (let before = end-was from to place x flight in
          end-fits from to place x.stamp x.body before
          (h.inv.messages.fits from to place x before));
      once = λ from to k l x y fx fy.
          h.inv.messages.once from to k l x y (end-was from to k x fx) (end-was from to l y fy);
    };
    closed = end-closed;
    cover = record {
      asked = λ marking. absurd (end-resting marking);
      messages = λ marking. absurd (end-resting marking);
    };
    held = record {
      roots = at_turn (λ j s. is_open s.local ≡ true → RootsAll (Holds s.local) s.local.heap)
          end-turn
          (λ opened. absurd (both_ways _ (shut-now) opened)) (λ j _. h.inv.held.roots j);
      blacks = λ j k g o.
          at_turn (λ l s. is_open s.local ≡ true → slot_at s.local.heap k ≡ Occupied g o
          → o.mark ≡ s.local.phases.cycle → (Among k s.local.heap.grey → ⊥)
          → PlacesAll (Holds s.local) o) end-turn
          (λ opened. absurd (both_ways _ (shut-now) opened)) (λ l _. h.inv.held.blacks l k g o) j;
    };
    rested = record {
      grey = λ i _.
          ap (λ (z : Heap). z.grey) (end-heap i)
          ∙ ⊎_elim {C = (c i).local.heap.grey ≡ []}
          (λ (inside : i < shape.nodes). (end-passive i inside).1)
          (λ (past : shape.nodes ≤ i).
          ap (λ (z : NodeState). z.local.heap.grey) (h.inv.base.none i past))
          (cases_lt i shape.nodes);
      behind = λ i k g o rest there past.
          (let was : slot_at (c i).local.heap k ≡ Occupied g o =
          ap (λ (z : Heap). slot_at z k) (sym (end-heap i)) ∙ there in
          let inside : i < shape.nodes = occupied-inside i k g o h.inv.base was in
          let joined : Joined c i = (end-passive i inside).0 in
          let same : (phases_of c i).swept ≡ (phases_of c i).ended =
          omega (
            arith,
            joined,
            h.inv.phased.cycle i,
            h.inv.phased.swept i,
            h.inv.phased.first i,
            h.marking,
          ) in
          let none : (phases_of c i).cursor ≡ 0 = h.inv.phased.cursor i same in
          ⊎_elim {C = o.mark ≡ cycle_of d 0}
          (λ below. absurd (omega (arith, below, none, end-cursor i)))
          (λ done. absurd (omega (arith, done, end-swept i, end-cycle 0, end-unswept i)))
          past);
    };
    flows =
        (let speaks : Speaks shape c d 0 over [] = record {
          inv = h.inv;
          inside = h.inside;
          turn = end-turn;
          cycle = refl;
          got = refl;
          earlier = refl;
          recent = refl;
          all = tt;
          idle = λ to x a. absurd a;
        } in
        speaks-flows speaks);
    tokens = record {
      round = λ marking. absurd (end-resting marking);
      rest = λ k s _ at. end-only k s at;
    };
    tallies = tallies-turn shape.nodes end-turn
        (tally-same end-turn refl refl (h.inv.tallies 0 h.inside)) h.inv.tallies;
  }
    where
      shut-now : is_open over ≡ false
      shut-now = not_from_true _ (eq-eqb (cycle_of c 0) (cycle_of c 0) refl)
