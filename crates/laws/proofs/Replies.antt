-- The invariant after a node has received a Get, which it answers, or a message of the ring or of
-- the phases; and so after any receipt.
use Rattle.std.proofs.Common.{◌≡◌, ◌≢◌, ℕ, ◌+◌, ◌<◌, ◌≤◌, ◌⊎◌, ltb, ltb-true, true, false, List, [], length, get_or, set, Option, Some, option_to_list, refl, sym, ap, ◌∙◌, subst, ⊎_elim, inl, inr, arith, le_refl, length-set, get_or-set_same, get_or-set_other}
use Rattle.std.proofs.lemmas.Bool.{cases_Bool, cases_eq, cond-true, cond-false, eq-eqb, ltb-false, both_ways, not_from_true}
use Rattle.std.proofs.Math.Path.{fun_ext}
use Rattle.ids.specs.Limits.{Shaped}
use Rattle.ids.specs.declared.names.Ref.{Ref}
use Rattle.msg.specs.declared.body.Body.{Body}
use Rattle.msg.specs.declared.body.Body.TheVariants as body
use Rattle.msg.specs.declared.body.Token.{Token}
use Rattle.msg.specs.declared.body.Message.{Message}
use Rattle.model.specs.State.{Phases, LocalState, NodeState, got_from}
use Rattle.model.specs.Heaps.{object_at, place_of, fetched}
use Rattle.model.specs.Effects.{Work, at_rest, then}
use Rattle.model.specs.Counting.{is_idle}
use Rattle.model.specs.Shading.{is_open, join, joined, see_to}
use Rattle.model.specs.Steps.{carried, post, count_in, take_carried, take_body, settled, taken_in, counted}
use Rattle.model.specs.Cuts.{Cut, taken, IsInFlight, Among, Becomes}
use Rattle.model.proofs.Lookups.{at_set_if}
use Rattle.model.proofs.Walk.{work_in}
use Rattle.laws.proofs.Turns.{at_turn}
use Rattle.laws.proofs.Flights.{flight-inside}
use Rattle.laws.proofs.Invariant.{phases_of, cycle_of, Marking, Resting, Joined, StampFits, BodyFits, is_single, Phased, Inv}
use Rattle.laws.proofs.Inner.{Known, resting-joined}
use Rattle.laws.proofs.Acting.{put, put-here, becomes-put, latest}
use Rattle.laws.proofs.Counts.{Sending}
use Rattle.laws.proofs.Moves.{worked, append_all-append, Moves, moves-through, Met, shade-met}
use Rattle.laws.proofs.OwnEvents.{post-moves, Reading, read-shadeable, known-option}
use Rattle.laws.proofs.Lookups.{any-list}
use Rattle.laws.proofs.Light.{idle-carries, Hears, hears-turn}
use Rattle.laws.proofs.TokenSteps.{arrive-inv}
use Rattle.laws.proofs.PhaseSteps.{hear-inv}
use Rattle.laws.proofs.Receipts.{HasJoined, join-step, Taking, becomes-from, carried-met, Settles, take-give, take-post, take-put, take-mark, becomes-through, followed, settled-bare, reference-last}

-- ---- a place is read for another node

pub take-get : {shape : Shaped} {c d : Cut} {i j stamp : ℕ} (target : Ref) (place label : ℕ)
    → Taking shape c i j (record { stamp = stamp; body = body.Get target place label })
    → target.node ≡ i → StampFits (phases_of c 0) stamp
    → Settles c d i j stamp (body.Get target place label) → Inv shape d
unfolding take_body
take-get {shape = shape} {c = c} {d = d} {i = i} {j = j} {stamp = stamp} target place label s own
    fits becomes =
    let b : Body = body.Get target place label in
    let x : Message = record { stamp = stamp; body = b } in
    let s1 : NodeState = worked (c i) (take_carried stamp b (c i).local) in
    let c1 : Cut = put c i s1 in
    let at1 : c1 i ≡ s1 = put-here c i s1 in
    let v : Option Ref = place_of (object_at s1.local.heap target) place in
    let s2 : NodeState = worked s1 (see_to true (option_to_list v) s1.local) in
    let c2 : Cut = put c1 i s2 in
    let at2 : c2 i ≡ s2 = put-here c1 i s2 in
    let s3 : NodeState = worked s2 (post j (body.Give label v) s2.local) in
    let c3 : Cut = put c2 i s3 in
    let met : Met shape c c1 i (carried b) = carried-met s refl fits (becomes-put c i s1) in
    let reads : Reading shape c1 i target = record {
      inv = met.moves.inv;
      inside = s.inside;
      own = own;
      known = met.known target (inl refl);
    } in
    let b2 : Becomes c1 c2 i (worked (c1 i) (see_to true
    (option_to_list (place_of (object_at (c1 i).local.heap target) place)) (c1 i).local)) =
    subst (λ (z : NodeState). Becomes c1 c2 i (worked z (see_to true
    (option_to_list (place_of (object_at z.local.heap target) place)) z.local)))
    (sym at1) (becomes-put c1 i s2) in
    let second : Met shape c1 c2 i
    (option_to_list (place_of (object_at (c1 i).local.heap target) place)) =
    shade-met (read-shadeable place reads) b2 in
    let known : (r : Ref) → Among r (option_to_list v) → Known c2 i r =
    subst (λ (z : NodeState). (r : Ref)
    → Among r (option_to_list (place_of (object_at z.local.heap target) place)) → Known c2 i r) at1
    second.known in
    let sender : j < shape.nodes = (flight-inside j i (taken c j i) x s.inv.base s.flight).0 in
    let sends : Sending shape c2 i j (body.Give label v) = record {
      inv = second.moves.inv;
      inside = s.inside;
      receiver = sender;
      reference = refl;
      known = any-list (Known c2 i) v (known-option v known);
      targets = tt;
    } in
    let b3 : Becomes c2 c3 i (worked (c2 i) (post j (body.Give label v) (c2 i).local)) =
    subst (λ (z : NodeState). Becomes c2 c3 i (worked z (post j (body.Give label v) z.local)))
    (sym at2)
    (becomes-put c2 i s3) in
    let third : Moves shape c2 c3 i = post-moves sends b3 in
    let moves : Moves shape c c3 i = moves-through met.moves (moves-through second.moves third) in
    let follows : s3 ≡ followed j stamp b (c i) =
    ap (λ (z : List (List Message)). record { local = s3.local; sent = z })
    (sym (append_all-append s1.sent (see_to true (option_to_list v) s1.local).sends
    (post j (body.Give label v) s2.local).sends)) in
    reference-last s refl fits moves
    (subst (Becomes c c3 i) follows
    (becomes-through (becomes-put c i s1)
    (becomes-through (becomes-put c1 i s2) (becomes-put c2 i s3))))
    becomes

-- ---- a word and bytes are read for another node

pub take-fetch : {shape : Shaped} {c d : Cut} {i j stamp : ℕ} (target : Ref)
    (label offset count : ℕ)
    → Taking shape c i j (record { stamp = stamp; body = body.Fetch target label offset count })
    → StampFits (phases_of c 0) stamp
    → Settles c d i j stamp (body.Fetch target label offset count) → Inv shape d
unfolding take_body
take-fetch {shape = shape} {c = c} {d = d} {i = i} {j = j} {stamp = stamp} target label offset count
    s fits becomes =
    let b : Body = body.Fetch target label offset count in
    let x : Message = record { stamp = stamp; body = b } in
    let s1 : NodeState = worked (c i) (take_carried stamp b (c i).local) in
    let c1 : Cut = put c i s1 in
    let at1 : c1 i ≡ s1 = put-here c i s1 in
    let says : NodeState → Body =
    λ z. body.Post label [] (fetched (object_at z.local.heap target) offset count) in
    let s2 : NodeState = worked s1 (post j (says s1) s1.local) in
    let c2 : Cut = put c1 i s2 in
    let met : Met shape c c1 i (carried b) = carried-met s refl fits (becomes-put c i s1) in
    let sender : j < shape.nodes = (flight-inside j i (taken c j i) x s.inv.base s.flight).0 in
    let sends : Sending shape c1 i j (says (c1 i)) = record {
      inv = met.moves.inv;
      inside = s.inside;
      receiver = sender;
      reference = refl;
      known = tt;
      targets = tt;
    } in
    let b2 : Becomes c1 c2 i (worked (c1 i) (post j (says (c1 i)) (c1 i).local)) =
    subst (λ (z : NodeState). Becomes c1 c2 i (worked z (post j (says z) z.local)))
    (sym at1)
    (becomes-put c1 i s2) in
    let moves : Moves shape c c2 i = moves-through met.moves (post-moves sends b2) in
    reference-last s refl fits moves
    (becomes-through (becomes-put c i s1) (becomes-put c1 i s2))
    becomes

-- ---- messages that carry nothing

idle-becomes : {c d : Cut} (i j stamp : ℕ) (b : Body) → is_idle b ≡ true → Settles c d i j stamp b
    → Becomes c d i
    (worked (c i) (counted j (taken c j i + 1) stamp b (take_body j stamp b (c i).local)))
idle-becomes {c = c} {d = d} i j stamp b is becomes =
    subst (λ (z : Work). Becomes c d i (worked (c i) z))
    (settled-bare j (taken c j i + 1) stamp b (c i).local (idle-carries b is)) becomes

-- such a message changes nothing but the node's phases
hears-idle : {shape : Shaped} {c d : Cut} {i j stamp : ℕ} {phases : Phases} {b : Body}
    → is_idle b ≡ true → phases.cycle ≡ cycle_of c i
    → Taking shape c i j (record { stamp = stamp; body = b })
    → Becomes c d i (record {
      local = record (c i).local {
        got = set (c i).local.got j (taken c j i + 1);
        phases = phases;
      };
      sent = (c i).sent;
    })
    → Hears shape c d i
    (record (c i).local { got = set (c i).local.got j (taken c j i + 1); phases = phases })
    j (record { stamp = stamp; body = b })
hears-idle idle cycle s becomes = record {
  inv = s.inv;
  inside = s.inside;
  becomes = becomes;
  flight = s.flight;
  idle = idle;
  cycle = cycle;
  got = refl;
  earlier = refl;
  recent = refl;
}

take-begin : {shape : Shaped} {c d : Cut} {i j stamp : ℕ}
    → Taking shape c i j (record { stamp = stamp; body = body.Begin })
    → Settles c d i j stamp body.Begin → Inv shape d
unfolding take_body count_in
take-begin {shape = shape} {c = c} {d = d} {i = i} {j = j} {stamp = stamp} s becomes =
    let x : Message = record { stamp = stamp; body = body.Begin } in
    let q : LocalState = record (c i).local { got = set (c i).local.got j (taken c j i + 1) } in
    let b : Becomes c d i (record { local = q; sent = (c i).sent }) =
    idle-becomes i j stamp body.Begin refl becomes in
    let hears : Hears shape c d i q j x = hears-idle refl refl s b in
    let turn = hears-turn hears in
    let phases : phases_of d ≡ phases_of c =
    fun_ext (at_turn (λ l z. z.local.phases ≡ phases_of c l) turn refl (λ l _. refl)) in
    hear-inv (record {
      hears = hears;
      same = refl;
      no_token = λ t e. absurd cc;
      ended = ap (λ (z : ℕ → Phases). (z 0).ended) phases;
      opened = λ o. o;
      calm = λ shut. (s.inv.tidy i).calm shut;
      phased = subst (Phased shape.nodes) (sym phases) s.inv.phased;
      sweep = (refl, refl);
      fits = λ from to place y flight _. (
        (λ _. ap (λ (z : ℕ → Phases). (z to).ended) phases),
        (λ _. ap (λ (z : ℕ → Phases). get_or (z 0).reports from 0) phases),
      );
    })

take-token : {shape : Shaped} {c d : Cut} {i j stamp : ℕ} (t : Token)
    → Taking shape c i j (record { stamp = stamp; body = body.Token t })
    → Settles c d i j stamp (body.Token t) → Inv shape d
unfolding take_body count_in
take-token {shape = shape} {c = c} {d = d} {i = i} {j = j} {stamp = stamp} t s becomes =
    let fits = s.inv.messages.fits j i (taken c j i) _ s.flight in
    let b : Becomes c d i (record {
      local = record (c i).local {
        got = set (c i).local.got j (taken c j i + 1);
        ring = record (c i).local.ring { token = Some t };
      };
      sent = (c i).sent;
    }) = idle-becomes i j stamp (body.Token t) refl becomes in
    arrive-inv (record {
      inv = s.inv;
      inside = s.inside;
      flight = s.flight;
      reached = (let z = s.reached in
          let w = latest s.inv i s.inside in omega (arith, z, w, fits.2));
      becomes = b;
    })

-- The received message was the only one of its kind, so no other message of that kind comes later.
taken-alone : {shape : Shaped} {c d : Cut} {i j from to place : ℕ} {q : LocalState} {x y : Message}
    → Hears shape c d i q j x → from ≡ j → to ≡ i → IsInFlight c from to place y → y.body ≡ x.body
    → is_single x.body ≡ true → taken d from to ≤ place → ⊥
taken-alone {c = c} {d = d} {i = i} {j = j} {from = from} {place = place} {q = q} {x = x} {y = y}
    h from_j at flight same single later =
    let flown : IsInFlight c j i place y =
    subst (λ (z : ℕ). IsInFlight c z i place y) from_j
    (subst (λ (z : ℕ). IsInFlight c from z place y) at flight) in
    let alone : place ≡ taken c j i =
    h.inv.messages.once j i place (taken c j i) y x flown h.flight same
    (ap is_single same ∙ single) in
    let p : LocalState = (c i).local in
    let inside = flight-inside j i (taken c j i) x h.inv.base h.flight in
    let heard : j < length p.got = omega (arith, inside.0, h.inv.base.heard i h.inside) in
    let now : taken d j i ≡ taken c j i + 1 =
    ap (λ (z : NodeState). got_from z.local j) h.becomes.changed
    ∙ ap (λ (z : List ℕ). get_or z j 0) h.got
    ∙ get_or-set_same p.got j (taken c j i + 1) 0 heard in
    let after : taken d j i ≤ place =
    subst (λ (z : ℕ). taken d z i ≤ place) from_j
    (subst (λ (z : ℕ). taken d from z ≤ place) at later) in
    absurd (omega (arith, alone, now, after))

take-ended : {shape : Shaped} {c d : Cut} {i j stamp : ℕ}
    → Taking shape c i j (record { stamp = stamp; body = body.Ended })
    → Settles c d i j stamp body.Ended → Inv shape d
unfolding take_body count_in
take-ended {shape = shape} {c = c} {d = d} {i = i} {j = j} {stamp = stamp} s becomes =
    let x : Message = record { stamp = stamp; body = body.Ended } in
    let p : LocalState = (c i).local in
    let q : LocalState = record p {
      got = set p.got j (taken c j i + 1);
      phases = record p.phases { ended = p.phases.cycle };
    } in
    let b : Becomes c d i (record { local = q; sent = (c i).sent }) =
    idle-becomes i j stamp body.Ended refl becomes in
    let fits = s.inv.messages.fits j i (taken c j i) x s.flight in
    let resting : Resting (phases_of c 0) = fits.1 in
    let joined_now : Joined c i = resting-joined s.inv resting s.inside in
    let other : i ≢ 0 = λ e.
    (let w : (phases_of c 0).ended < cycle_of c 0 =
    subst (λ (z : ℕ). (phases_of c z).ended < cycle_of c 0) e fits.3 in
    omega (arith, w, resting)) in
    let hears : Hears shape c d i q j x = hears-idle refl refl s b in
    let turn = hears-turn hears in
    let first : phases_of d 0 ≡ phases_of c 0 =
    ap (λ (z : NodeState). z.local.phases) (b.others 0 (λ e. other (sym e))) in
    let cycles : (l : ℕ) → cycle_of d l ≡ cycle_of c l =
    at_turn (λ l z. z.local.phases.cycle ≡ cycle_of c l) turn refl (λ l _. refl) in
    let swept : (l : ℕ) → (phases_of d l).swept ≡ (phases_of c l).swept =
    at_turn (λ l z. z.local.phases.swept ≡ (phases_of c l).swept) turn refl (λ l _. refl) in
    let shut : is_open q ≡ false = not_from_true _ (eq-eqb p.phases.cycle p.phases.cycle refl) in
    hear-inv (record {
      hears = hears;
      same = refl;
      no_token = λ t e. absurd cc;
      ended = ap (λ (z : Phases). z.ended) first;
      opened = λ o. absurd (both_ways _ shut o);
      calm = λ _. s.inv.rested.grey i resting;
      phased = record {
        swept = at_turn (λ l z. z.local.phases.swept ≤ z.local.phases.ended) turn
            (let a = s.inv.phased.swept i in let e = s.inv.phased.ended i in omega (arith, a, e))
            (λ l _. s.inv.phased.swept l);
        ended = at_turn (λ l z. z.local.phases.ended ≤ z.local.phases.cycle) turn (le_refl _)
            (λ l _. s.inv.phased.ended l);
        cycle = λ l. omega (arith, s.inv.phased.cycle l, swept l, cycles l);
        cursor = at_turn (λ l z. z.local.phases.swept ≡ z.local.phases.ended
            → z.local.phases.cursor ≡ 0) turn
            (λ same.
            absurd (let a = s.inv.phased.swept i in omega (arith, same, a, joined_now, fits.3)))
            (λ l _. s.inv.phased.cursor l);
        first = at_turn (λ l z. z.local.phases.ended ≤ (phases_of d 0).ended) turn
            (let k : (phases_of d 0).ended ≡ (phases_of c 0).ended =
            ap (λ (z : Phases). z.ended) first in
            omega (arith, k, joined_now, resting))
            (λ l _.
            (let k : (phases_of d 0).ended ≡ (phases_of c 0).ended =
            ap (λ (z : Phases). z.ended) first in
            omega (arith, k, s.inv.phased.first l)));
        apart = λ l inside. inl (cycles l ∙ resting-joined s.inv resting inside ∙ sym (cycles 0));
        reports = λ l above inside.
            (let same : get_or (phases_of d 0).reports l 0 ≡ get_or (phases_of c 0).reports l 0 =
            ap (λ (z : Phases). get_or z.reports l 0) first in
            omega (arith, same, swept l, s.inv.phased.reports l above inside));
        reporters = ap (λ (z : Phases). length z.reports) first ∙ s.inv.phased.reporters;
      };
      sweep = (refl, refl);
      fits = λ from to place y flight later. (
        (λ e. ⊎_elim {C = (phases_of d to).ended ≡ (phases_of c to).ended}
            (λ (at : to ≡ i).
            let sender : from ≡ 0 =
            (subst (λ (z : Body). BodyFits shape.nodes (phases_of c) from to y.stamp z) e
            (s.inv.messages.fits from to place y flight)).0 in
            let from_j : from ≡ j = sender ∙ sym fits.0 in
            absurd (taken-alone hears from_j at flight e refl later))
            (λ (away : to ≢ i). ap (λ (z : NodeState). z.local.phases.ended) (b.others to away))
            (cases_eq to i)),
        (λ _. ap (λ (z : Phases). get_or z.reports from 0) first),
      );
    })

take-swept : {shape : Shaped} {c d : Cut} {i j stamp : ℕ}
    → Taking shape c i j (record { stamp = stamp; body = body.Swept })
    → Settles c d i j stamp body.Swept → Inv shape d
unfolding take_body count_in
take-swept {shape = shape} {c = c} {d = d} {i = i} {j = j} {stamp = stamp} s becomes =
    let x : Message = record { stamp = stamp; body = body.Swept } in
    let p : LocalState = (c i).local in
    let q : LocalState = record p {
      got = set p.got j (taken c j i + 1);
      phases = record p.phases { reports = set p.phases.reports j stamp };
    } in
    let b : Becomes c d i (record { local = q; sent = (c i).sent }) =
    idle-becomes i j stamp body.Swept refl becomes in
    let fits = s.inv.messages.fits j i (taken c j i) x s.flight in
    let zero_is : i ≡ 0 = fits.0 in
    let hears : Hears shape c d i q j x = hears-idle refl refl s b in
    let turn = hears-turn hears in
    let cycles : (l : ℕ) → cycle_of d l ≡ cycle_of c l =
    at_turn (λ l z. z.local.phases.cycle ≡ cycle_of c l) turn refl (λ l _. refl) in
    let swept : (l : ℕ) → (phases_of d l).swept ≡ (phases_of c l).swept =
    at_turn (λ l z. z.local.phases.swept ≡ (phases_of c l).swept) turn refl (λ l _. refl) in
    let ended : (l : ℕ) → (phases_of d l).ended ≡ (phases_of c l).ended =
    at_turn (λ l z. z.local.phases.ended ≡ (phases_of c l).ended) turn refl (λ l _. refl) in
    let cursor : (l : ℕ) → (phases_of d l).cursor ≡ (phases_of c l).cursor =
    at_turn (λ l z. z.local.phases.cursor ≡ (phases_of c l).cursor) turn refl (λ l _. refl) in
    let reports : (phases_of d 0).reports ≡ set (phases_of c 0).reports j stamp =
    ap (λ (z : ℕ). (phases_of d z).reports) (sym zero_is)
    ∙ ap (λ (z : NodeState). z.local.phases.reports) b.changed
    ∙ ap (λ (z : ℕ). set (phases_of c z).reports j stamp) zero_is in
    hear-inv (record {
      hears = hears;
      same = refl;
      no_token = λ t e. absurd cc;
      ended = ended 0;
      opened = λ o. o;
      calm = λ shut. (s.inv.tidy i).calm shut;
      phased = record {
        swept = λ l. omega (arith, s.inv.phased.swept l, swept l, ended l);
        ended = λ l. omega (arith, s.inv.phased.ended l, ended l, cycles l);
        cycle = λ l. omega (arith, s.inv.phased.cycle l, swept l, cycles l);
        cursor = λ l same.
            cursor l ∙ s.inv.phased.cursor l (sym (swept l) ∙ same ∙ ended l);
        first = λ l. omega (arith, s.inv.phased.first l, ended l, ended 0);
        apart = λ l inside. ⊎_elim {C = (cycle_of d l ≡ cycle_of d 0)
            ⊎ (Marking (phases_of d 0) × (cycle_of d l + 1 ≡ cycle_of d 0)
            × ((phases_of d l).swept + 1 ≡ cycle_of d 0))}
            (λ there. inl (cycles l ∙ there ∙ sym (cycles 0)))
            (λ behind.
            inr (
              omega (arith, behind.0, ended 0, cycles 0),
              omega
                  (arith, behind.1, cycles l, cycles 0),
              omega (arith, behind.2, swept l, cycles 0),
            ))
            (s.inv.phased.apart l inside);
        reports = λ l above inside.
            subst (λ (z : List ℕ). get_or z l 0 ≤ (phases_of d l).swept) (sym reports)
            (at_set_if (λ z. z ≤ (phases_of d l).swept) (phases_of c 0).reports j l stamp 0
            (λ (e : j ≡ l).
            let done : (phases_of c l).swept ≡ cycle_of c 0 =
            ap (λ (z : ℕ). (phases_of c z).swept) (sym e) ∙ fits.3 in
            omega (arith, done, fits.2, swept l))
            (let w = s.inv.phased.reports l above inside in omega (arith, w, swept l)));
        reporters = ap length reports ∙ length-set (phases_of c 0).reports j stamp
            ∙ s.inv.phased.reporters;
      };
      sweep = (refl, refl);
      fits = λ from to place y flight later. (
        (λ _. ended to),
        (λ e.
            ⊎_elim
            {C = get_or (phases_of d 0).reports from 0 ≡ get_or (phases_of c 0).reports from 0}
            (λ (from_j : from ≡ j).
            let receiver : to ≡ 0 =
            (subst (λ (z : Body). BodyFits shape.nodes (phases_of c) from to y.stamp z) e
            (s.inv.messages.fits from to place y flight)).0 in
            let at : to ≡ i = receiver ∙ sym zero_is in
            absurd (taken-alone hears from_j at flight e refl later))
            (λ (away : from ≢ j).
            ap (λ (z : List ℕ). get_or z from 0) reports
            ∙ get_or-set_other (phases_of c 0).reports j from stamp 0 away)
            (cases_eq from j)),
      );
    })

-- ---- any message, at a node that is in its cycle or past it

pub settle-inv : {shape : Shaped} {c d : Cut} {i j : ℕ} (stamp : ℕ) (b : Body)
    → Taking shape c i j (record { stamp = stamp; body = b }) → Settles c d i j stamp b
    → BodyFits shape.nodes (phases_of c) j i stamp b → Inv shape d
settle-inv stamp body.Begin s becomes fits = take-begin s becomes
settle-inv stamp (body.Token t) s becomes fits = take-token t s becomes
settle-inv stamp (body.Mark r) s becomes fits = take-mark r s becomes
settle-inv stamp (body.Give label reference) s becomes fits =
    take-give label reference s fits becomes
settle-inv stamp (body.Put target place reference) s becomes fits =
    take-put target place reference s fits.1 becomes
settle-inv stamp (body.Get target place label) s becomes fits =
    take-get target place label s fits.0 fits.1 becomes
settle-inv stamp (body.Post label references bytes) s becomes fits =
    take-post label references bytes s fits becomes
settle-inv stamp (body.Fetch target label offset count) s becomes fits =
    take-fetch target label offset count s fits.1 becomes
settle-inv stamp body.Ended s becomes fits = take-ended s becomes
settle-inv stamp body.Swept s becomes fits = take-swept s becomes

-- ---- any message

-- no stamp is of a later cycle
pub stamp-most : (n : ℕ) (ph : ℕ → Phases) (from to s : ℕ) (b : Body)
    → BodyFits n ph from to s b → s ≤ (ph 0).cycle
stamp-most n ph from to s body.Begin f = f.1
stamp-most n ph from to s (body.Token t) f = omega (arith, f.2)
stamp-most n ph from to s (body.Mark r) f = omega (arith, f.2)
stamp-most n ph from to s (body.Give label reference) f =
    ⊎_elim {C = s ≤ (ph 0).cycle} (λ now. omega (arith, now))
    (λ b. (let w = b.1 in omega (arith, w))) f
stamp-most n ph from to s (body.Put target place reference) f =
    ⊎_elim {C = s ≤ (ph 0).cycle} (λ now. omega (arith, now))
    (λ b. (let w = b.1 in omega (arith, w))) f.1
stamp-most n ph from to s (body.Get target place label) f =
    ⊎_elim {C = s ≤ (ph 0).cycle} (λ now. omega (arith, now))
    (λ b. (let w = b.1 in omega (arith, w))) f.1
stamp-most n ph from to s (body.Post label references bytes) f =
    ⊎_elim {C = s ≤ (ph 0).cycle} (λ now. omega (arith, now))
    (λ b. (let w = b.1 in omega (arith, w))) f
stamp-most n ph from to s (body.Fetch target label offset count) f =
    ⊎_elim {C = s ≤ (ph 0).cycle} (λ now. omega (arith, now))
    (λ b. (let w = b.1 in omega (arith, w))) f.1
stamp-most n ph from to s body.Ended f = omega (arith, f.2)
stamp-most n ph from to s body.Swept f = omega (arith, f.2)

pub taken-inv : {shape : Shaped} {c d : Cut} {i j : ℕ} (x : Message) → Inv shape c
    → i < shape.nodes → IsInFlight c j i (taken c j i) x
    → Becomes c d i
    (worked (c i) (work_in (taken_in (c i).local j (taken c j i + 1) x.stamp x.body)))
    → Inv shape d
unfolding taken_in
taken-inv {shape = shape} {c = c} {d = d} {i = i} {j = j} x inv inside flight becomes =
    let fits = inv.messages.fits j i (taken c j i) x flight in
    let number : ℕ = taken c j i + 1 in
    ⊎_elim {C = Inv shape d}
    (λ ahead.
    let above : cycle_of c i < x.stamp = ltb-true (cycle_of c i) x.stamp ahead in
    let most : x.stamp ≤ cycle_of c 0 =
    stamp-most shape.nodes (phases_of c) j i x.stamp x.body fits in
    let now : x.stamp ≡ cycle_of c 0 =
    ⊎_elim {C = x.stamp ≡ cycle_of c 0} (λ there. absurd (omega (arith, there, above, most)))
    (λ behind. (let w = behind.1 in omega (arith, w, above, most))) (inv.phased.apart i inside) in
    let w : Work = join (c i).local (cycle_of c 0) in
    let s1 : NodeState = worked (c i) w in
    let c1 : Cut = put c i s1 in
    let at1 : c1 i ≡ s1 = put-here c i s1 in
    let has : HasJoined shape c c1 i =
    join-step i inv inside (omega (arith, above, now)) (becomes-put c i s1) in
    let same : taken c1 j i ≡ taken c j i = ap (λ (z : List ℕ). get_or z j 0) has.got in
    let later : Taking shape c1 i j x = record {
      inv = has.inv;
      inside = inside;
      flight =
          subst (λ (z : ℕ). IsInFlight c1 j i z x) (sym same)
          (has.flight j i (taken c j i) x flight);
      reached = (let z = has.reached in omega (arith, z, most));
    } in
    let joins : joined (c i).local x.stamp ≡ w =
    cond-true (ltb (cycle_of c i) x.stamp) (join (c i).local x.stamp) (at_rest (c i).local) ahead
    ∙ ap (join (c i).local) now in
    let state : worked (c i) (then (joined (c i).local x.stamp) (settled j number x.stamp x.body))
    ≡ worked s1 (settled j number x.stamp x.body s1.local) =
    ap (λ (z : Work). worked (c i) (then z (settled j number x.stamp x.body))) joins
    ∙ ap (λ (z : List (List Message)). record {
      local = (settled j number x.stamp x.body w.local).local;
      sent = z;
    }) (append_all-append (c i).sent w.sends (settled j number x.stamp x.body w.local).sends) in
    let b1 : Becomes c1 d i (worked s1 (settled j number x.stamp x.body s1.local)) =
    becomes-from (becomes-put c i s1) (subst (λ (z : NodeState). Becomes c d i z) state becomes) in
    settle-inv x.stamp x.body later
    (subst (λ (z : NodeState).
    Becomes c1 d i (worked z (settled j (taken c1 j i + 1) x.stamp x.body z.local))) (sym at1)
    (subst (λ (z : ℕ). Becomes c1 d i (worked s1 (settled j (z + 1) x.stamp x.body s1.local)))
    (sym same) b1))
    (has.inv.messages.fits j i (taken c1 j i) x later.flight))
    (λ there.
    let here : Taking shape c i j x = record {
      inv = inv;
      inside = inside;
      flight = flight;
      reached = ltb-false (cycle_of c i) x.stamp there;
    } in
    settle-inv x.stamp x.body here
    (subst (λ (z : Work). Becomes c d i (worked (c i) (then z (settled j number x.stamp x.body))))
    (cond-false (ltb (cycle_of c i) x.stamp) (join (c i).local x.stamp) (at_rest (c i).local) there)
    becomes)
    fits)
    (cases_Bool (ltb (cycle_of c i) x.stamp))
