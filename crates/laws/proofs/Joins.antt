-- The invariant after a node other than node 0 has joined a cycle, before it has shaded its roots.
-- Until then its registers and letters are set aside, and it counts as active.
use Rattle.std.proofs.Common.{◌≡◌, ◌≢◌, ℕ, ◌+◌, ◌<◌, ◌≤◌, ◌⊎◌, true, List, [], length, get_or, Option, refl, sym, ap, ◌∙◌, subst, ⊎_elim, inl, inr, arith, le_refl}
use Rattle.std.specs.List.{AllByRecursion}
use Rattle.std.proofs.lemmas.Int.{ints}
use Rattle.std.proofs.lemmas.Bool.{ne_eqb, both_ways, not_from_false}
use Rattle.ids.specs.Limits.{Shaped}
use Rattle.ids.specs.declared.names.Ref.{Ref}
use Rattle.msg.specs.declared.body.Body.TheVariants as body
use Rattle.msg.specs.declared.body.Token.{Token}
use Rattle.msg.specs.declared.body.Message.{Message}
use Rattle.model.specs.State.{Object, Occupied, Phases, LocalState, NodeState, slot_at, got_from}
use Rattle.model.specs.Shading.{is_in, is_open, entered}
use Rattle.model.specs.Steps.{carried, mentioned}
use Rattle.model.specs.Cuts.{Cut, IsInFlight, Among, Becomes}
use Rattle.model.proofs.Lookups.{all-map}
use Rattle.laws.proofs.Lookups.{any-map}
use Rattle.laws.proofs.Turns.{Turn, at_turn, flew, flies}
use Rattle.laws.proofs.Rings.{RingStep, safra-turn}
use Rattle.laws.proofs.Flights.{SendsCounted, flows-sent}
use Rattle.laws.proofs.Base.{base-step, unheard}
use Rattle.laws.proofs.Tallies.{bound-turn, tally-enter, tallies-turn}
use Rattle.laws.proofs.Inner.{roots-map}
use Rattle.laws.proofs.Acting.{balance-joined, balance-apart, fresh-joined, fresh-apart}
use Rattle.laws.proofs.Invariant.{phases_of, cycle_of, Marking, Resting, Safe, Holds, Covered, is_marked, is_asked, RootsAll, PlacesAll, Tidy, Phased, Messages, Cover, Flows, Tokens, Inv}
use Rattle.laws.proofs.RingSteps.{token-back, token-on}
use Rattle.laws.proofs.PhaseSteps.{SaidAlike, fits-moved}

-- the node in the new cycle, with its registers and letters set aside
abbrev pub entering : LocalState → ℕ → List ℕ → Option Token → LocalState
entering p cycle grey token =
    record p {
      heap = record p.heap { registers = []; letters = []; grey = grey };
      asked = [];
      phases = record p.phases { cycle = cycle; cursor = 0 };
      ring = record (entered p.ring) { token = token };
    }

-- ---- what is the same for node 0 and for the others

pub record Entering (shape : Shaped) (c d : Cut) (i cycle : ℕ) (grey : List ℕ)
    (token : Option Token) : Type 0 where
  pub inv : Inv shape c
  pub inside : i < shape.nodes
  pub becomes : Becomes c d i (record {
    local = entering (c i).local cycle grey token;
    sent = (c i).sent;
  })
  pub older : cycle_of c i < cycle
  pub now : cycle_of d 0 ≡ cycle
  pub marking : Marking (phases_of d 0)
  pub clean : Resting (phases_of c 0) → (j k g : ℕ) (o : Object)
      → slot_at (c j).local.heap k ≡ Occupied g o → o.mark ≡ cycle_of c 0
  pub cover : Cover shape.nodes d
  pub phased : Phased shape.nodes (phases_of d)
  pub messages : Messages shape.nodes d
  pub flows : Flows shape.nodes d
  pub tokens : Tokens shape.nodes d

pub enter-turn : {c d : Cut} {i cycle : ℕ} {grey : List ℕ} {token : Option Token}
    → Becomes c d i (record { local = entering (c i).local cycle grey token; sent = (c i).sent })
    → Turn c d i (entering (c i).local cycle grey token) []
enter-turn becomes = record { becomes = becomes; heard = λ from. le_refl _ }

-- slots stay
pub enter-slots : {c d : Cut} {i cycle : ℕ} {grey : List ℕ} {token : Option Token}
    → Becomes c d i (record { local = entering (c i).local cycle grey token; sent = (c i).sent })
    → (j k : ℕ) → slot_at (d j).local.heap k ≡ slot_at (c j).local.heap k
enter-slots {c = c} becomes j k =
    at_turn (λ l s. slot_at s.local.heap k ≡ slot_at (c l).local.heap k) (enter-turn becomes) refl
    (λ l _. refl) j

pub enter-inv : {shape : Shaped} {c d : Cut} {i cycle : ℕ} {grey : List ℕ} {token : Option Token}
    → Entering shape c d i cycle grey token → Inv shape d
enter-inv {shape = shape} {c = c} {d = d} {i = i} {cycle = cycle} {grey = grey} {token = token} h =
    let q : LocalState = entering (c i).local cycle grey token in
    let turn : Turn c d i q [] = enter-turn h.becomes in
    let slots : (j k : ℕ) → slot_at (d j).local.heap k ≡ slot_at (c j).local.heap k =
    enter-slots h.becomes in
    let rested : Resting (phases_of d 0) → ⊥ = λ rest. omega (arith, rest, h.marking) in
    let safe : (r : Ref) → Safe c r → Safe d r = λ r s. record {
      object = s.object;
      there = slots r.node r.slot ∙ s.there;
      marked = λ rest. absurd (rested rest);
    } in
    record {
      base = base-step (unheard h.inside turn refl refl refl h.inv.base) h.inv.base;
      tidy = at_turn (λ j s. Tidy s.local) turn
          (record {
            free = (h.inv.tidy i).free;
            room = (h.inv.tidy i).room;
            marks = λ k g o there.
                (let old = (h.inv.tidy i).marks k g o there in omega (arith, old, h.older));
            calm = λ shut.
                absurd (both_ways _ shut (not_from_false _ (ne_eqb (c i).local.phases.ended cycle
                (λ e. omega (arith, e, h.inv.phased.ended i, h.older)))));
          })
          (λ j _. h.inv.tidy j);
      phased = h.phased;
      messages = h.messages;
      closed = record {
        roots = at_turn (λ j s. RootsAll (Safe d) s.local.heap) turn
            (record { registers = λ k. tt; letters = λ k. tt })
            (λ j _. roots-map (Safe c) (Safe d) safe (h.inv.closed.roots j));
        places = λ j k g o there _ l.
            (let was : slot_at (c j).local.heap k ≡ Occupied g o = sym (slots j k) ∙ there in
            any-map (Safe c) (Safe d) safe _
            (h.inv.closed.places j k g o was (λ rest. h.clean rest j k g o was) l));
        messages = λ from to place x flight. ⊎_elim {C = AllByRecursion (Safe d) (mentioned x.body)}
            (λ before.
            all-map (Safe c) (Safe d) safe (mentioned x.body)
            (h.inv.closed.messages from to place x before))
            (λ new. absurd new.1)
            (flew turn from to place x flight);
      };
      cover = h.cover;
      held = record {
        roots = at_turn (λ j s. is_open s.local ≡ true → RootsAll (Holds s.local) s.local.heap) turn
            (λ _. record { registers = λ k. tt; letters = λ k. tt })
            (λ j _. h.inv.held.roots j);
        blacks = λ j k g o.
            at_turn (λ l s. is_open s.local ≡ true → slot_at s.local.heap k ≡ Occupied g o
            → o.mark ≡ s.local.phases.cycle → (Among k s.local.heap.grey → ⊥)
            → PlacesAll (Holds s.local) o) turn
            (λ _ there mark _.
            absurd
            (let old = (h.inv.tidy i).marks k g o there in omega (arith, old, mark, h.older)))
            (λ l _. h.inv.held.blacks l k g o) j;
      };
      rested = record {
        grey = λ j rest. absurd (rested rest);
        behind = λ j k g o rest. absurd (rested rest);
      };
      flows = h.flows;
      tokens = h.tokens;
      tallies = tallies-turn shape.nodes turn
          (tally-enter turn refl refl (h.inv.tallies i h.inside)) h.inv.tallies;
    }

-- ---- a node other than node 0 joins

pub record Joining (shape : Shaped) (c d : Cut) (i : ℕ) (grey : List ℕ) : Type 0 where
  pub inv : Inv shape c
  pub inside : i < shape.nodes
  pub other : i ≢ 0
  pub marking : Marking (phases_of c 0)
  pub behind : cycle_of c i ≢ cycle_of c 0
  pub becomes : Becomes c d i (record {
    local = entering (c i).local (cycle_of c 0) grey (c i).local.ring.token;
    sent = (c i).sent;
  })

pub join-inv : {shape : Shaped} {c d : Cut} {i : ℕ} {grey : List ℕ} → Joining shape c d i grey
    → Inv shape d
join-inv {shape = shape} {c = c} {d = d} {i = i} {grey = grey} h =
    let p : LocalState = (c i).local in
    let cycle : ℕ = cycle_of c 0 in
    let q : LocalState = entering p cycle grey p.ring.token in
    let turn : Turn c d i q [] = enter-turn h.becomes in
    let first : phases_of d 0 ≡ phases_of c 0 =
    ap (λ (z : NodeState). z.local.phases) (h.becomes.others 0 (λ e. h.other (sym e))) in
    let apart : (cycle_of c i + 1 ≡ cycle) × ((phases_of c i).swept + 1 ≡ cycle) =
    ⊎_elim {C = (cycle_of c i + 1 ≡ cycle) × ((phases_of c i).swept + 1 ≡ cycle)}
    (λ joined. absurd (h.behind joined)) (λ b. (b.1, b.2)) (h.inv.phased.apart i h.inside) in
    let older : cycle_of c i < cycle = omega (arith, apart.0) in
    let swept : (j : ℕ) → (phases_of d j).swept ≡ (phases_of c j).swept =
    at_turn (λ j s. s.local.phases.swept ≡ (phases_of c j).swept) turn refl (λ j _. refl) in
    let ended : (j : ℕ) → (phases_of d j).ended ≡ (phases_of c j).ended =
    at_turn (λ j s. s.local.phases.ended ≡ (phases_of c j).ended) turn refl (λ j _. refl) in
    let now : cycle_of d 0 ≡ cycle = ap (λ (z : Phases). z.cycle) first in
    let firsts : (cycle_of d 0 ≡ cycle_of c 0) × ((phases_of d 0).ended ≡ (phases_of c 0).ended) =
    (now, ended 0) in
    let was : (from to place : ℕ) (x : Message) → IsInFlight d from to place x
    → IsInFlight c from to place x =
    λ from to place x flight. ⊎_elim {C = IsInFlight c from to place x}
    (λ before. before) (λ new. absurd new.1) (flew turn from to place x flight) in
    let covered : (r : Ref) → Covered c r → Covered d r = covered-on turn now in
    let back : (j : ℕ) → j ≢ i → d j ≡ c j = h.becomes.others in
    let ring : (t : ℕ) → RingStep shape.nodes c d i q [] t = λ t. record {
      turn = turn;
      inside = h.inside;
      cycle = now;
      near = λ _. inr (inr refl);
      far = λ _. inl (λ passive. absurd (h.behind passive.0));
    } in
    let flows : SendsCounted shape c d i q [] = record {
      base = h.inv.base;
      inside = h.inside;
      turn = turn;
      cycle = now;
      got = refl;
      all = tt;
      counted =
          (let a = balance-joined cycle q refl in
          let b = balance-apart cycle p h.behind in
          omega (arith, ints, a, b));
      fresh =
          (let a = fresh-joined cycle q refl in
          let b = fresh-apart cycle p h.behind in
          omega (arith, ints, a, b));
    } in
    enter-inv (record {
      inv = h.inv;
      inside = h.inside;
      becomes = h.becomes;
      older = older;
      now = now;
      marking = subst Marking (sym first) h.marking;
      clean = λ rest. absurd (omega (arith, rest, h.marking));
      cover = record {
        asked = λ marking j r inside joined asked.
            at_turn (λ l s. l < shape.nodes → s.local.phases.cycle ≡ cycle_of d 0
            → is_in r s.local.asked ≡ true → Covered d r) turn
            (λ _ _ never. absurd cc)
            (λ l _ within there a.
            covered r (h.inv.cover.asked h.marking l r within (there ∙ now) a))
            j inside joined asked;
        messages = λ marking from to place x flight stamp.
            all-map (Covered c) (Covered d) covered (carried x.body)
            (h.inv.cover.messages h.marking from to place x (was from to place x flight)
            (stamp ∙ now));
      };
      phased = record {
        swept = λ j. omega (arith, h.inv.phased.swept j, swept j, ended j);
        ended = at_turn (λ j s. s.local.phases.ended ≤ s.local.phases.cycle) turn
            (let w = h.inv.phased.ended i in omega (arith, w, older)) (λ j _. h.inv.phased.ended j);
        cycle = at_turn (λ j s. s.local.phases.cycle ≤ s.local.phases.swept + 1) turn
            (omega (arith, apart.1)) (λ j _. h.inv.phased.cycle j);
        cursor = at_turn (λ j s. s.local.phases.swept ≡ s.local.phases.ended
            → s.local.phases.cursor ≡ 0) turn (λ _. refl) (λ j _. h.inv.phased.cursor j);
        first = λ j. omega (arith, h.inv.phased.first j, ended j, ended 0);
        apart = λ j inside.
            subst (λ (z : Phases). ((phases_of d j).cycle ≡ z.cycle)
            ⊎ (Marking z × ((phases_of d j).cycle + 1 ≡ z.cycle)
            × ((phases_of d j).swept + 1 ≡ z.cycle)))
            (sym first)
            (at_turn (λ l s. l < shape.nodes → (s.local.phases.cycle ≡ cycle)
            ⊎ (Marking (phases_of c 0) × (s.local.phases.cycle + 1 ≡ cycle)
            × (s.local.phases.swept + 1 ≡ cycle))) turn
            (λ _. inl refl) (λ l _. h.inv.phased.apart l) j inside);
        reports = λ j above inside.
            (let same : get_or (phases_of d 0).reports j 0 ≡ get_or (phases_of c 0).reports j 0 =
            ap (λ (z : Phases). get_or z.reports j 0) first in
            omega (arith, same, swept j, h.inv.phased.reports j above inside));
        reporters = ap (λ (z : Phases). length z.reports) first ∙ h.inv.phased.reporters;
      };
      messages = record {
        fits = λ from to place x flight.
            let alike : SaidAlike (phases_of c) (phases_of d) from to x.body = record {
              first = firsts;
              ended = λ _. ended to;
              swept = λ _. (swept from, ap (λ (z : Phases). get_or z.reports from 0) first);
            } in
            fits-moved shape.nodes x.stamp alike
            (h.inv.messages.fits from to place x (was from to place x flight));
        once = λ from to k l x y fx fy.
            h.inv.messages.once from to k l x y (was from to k x fx) (was from to l y fy);
      };
      flows = flows-sent flows h.inv.flows;
      tokens = record {
        round = λ _.
            (let round = h.inv.tokens.round h.marking in
            record {
              token = round.token;
              spot = round.spot;
              there = token-on turn refl (λ from place stamp t f. f.later) round.token round.spot
                  round.there;
              only = λ t s at. round.only t s (token-back turn refl (λ to x t a. absurd a) t s at);
              near = round.near;
              joined = λ j e.
                  at_turn (λ l s. (c l).local.phases.cycle ≡ cycle → s.local.phases.cycle ≡ cycle)
                  turn
                  (λ _. refl) (λ l _ k. k) j (round.joined j e)
                  ∙ sym now;
              safra = safra-turn (ring _) _ _ round.safra;
              bound = bound-turn turn round.bound;
            });
        rest = λ t s rest _.
            absurd (let m : Resting (phases_of c 0) = subst Resting first rest in
            omega (arith, m, h.marking));
      };
    })
  where
    covered-on : {q : LocalState} → Turn c d i q [] → cycle_of d 0 ≡ cycle_of c 0 → (r : Ref)
        → Covered c r → Covered d r
    covered-on turn now r (is_marked o there mark) =
        is_marked o (enter-slots h.becomes r.node r.slot ∙ there) (mark ∙ sym now)
    covered-on turn now r (is_asked from place flight) =
        is_asked from place
        (subst
        (λ (z : ℕ). IsInFlight d from r.node place (record { stamp = z; body = body.Mark r }))
        (sym now)
        (flies turn from r.node place _ flight
        (at_turn
        (λ l s. IsInFlight c from l place (record { stamp = cycle_of c 0; body = body.Mark r })
        → got_from s.local from ≤ place) (enter-turn h.becomes) (λ f. f.later) (λ l _ f. f.later)
        r.node flight)))
