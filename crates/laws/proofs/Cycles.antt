-- The invariant after a node has scanned a grey object, and after it has swept some slots.
use Rattle.std.proofs.Common.{◌≡◌, ◌≢◌, ℕ, zero, suc, ◌+◌, ◌-◌, ◌<◌, ◌≤◌, ◌⊎◌, ◌==◌, cond, true, false, List, [], ◌∷◌, ◌++◌, length, take, get_or, Option, None, refl, sym, ap, ◌∙◌, subst, ⊎_elim, inl, inr, arith, slice_get}
use Rattle.std.proofs.lemmas.Bool.{cases_Bool, cond-true, cond-false, eq-eqb, eqb-true, eqb-false, both_ways, and_parts, not-true}
use Rattle.ids.specs.Limits.{Shaped}
use Rattle.ids.specs.declared.names.Ref.{Ref}
use Rattle.msg.specs.declared.body.Body.{Body}
use Rattle.msg.specs.declared.body.Body.TheVariants as body
use Rattle.msg.specs.declared.body.Message.{Message}
use Rattle.model.specs.State.{Object, Slot, Free, Occupied, Retired, Heap, Phases, LocalState, NodeState, slot_at, got_from, sent_to}
use Rattle.model.specs.Counting.{stamped}
use Rattle.model.specs.Shading.{is_open, is_calm, filled, make_all_grey, last_grey, without_last_grey, seen, see_to}
use Rattle.model.specs.Collecting.{places_in, scan, looked_at, sweeps_last, sweeping, after_sweep, reports_sweep, sweep}
use Rattle.model.specs.Steps.{append_all}
use Rattle.model.specs.Cuts.{Cut, IsInFlight, Among, Becomes}
use Rattle.model.proofs.Shading.{see_to-open}
use Rattle.laws.proofs.Lookups.{among-append_left, among-append_right, among-append}
use Rattle.laws.proofs.Turns.{at_turn}
use Rattle.laws.proofs.Invariant.{phases_of, cycle_of, Resting, Safe, PlacesAll, BodyFits, Inv}
use Rattle.laws.proofs.Inner.{Known, resting-joined}
use Rattle.laws.proofs.Acting.{with_heap, put, put-here, becomes-put}
use Rattle.laws.proofs.Greys.{Greys, greys-all, Turned, as_was, turned, GreyApart, grey-apart}
use Rattle.laws.proofs.HeapSteps.{scanned-inner}
use Rattle.laws.proofs.Moves.{worked, Moves, inner-moves, moves-through, moves-none, Met, Shadeable, shade-met}
use Rattle.laws.proofs.Receipts.{becomes-from}
use Rattle.laws.proofs.Dressing.{filled-among, filled-all, option-holds}
use Rattle.laws.proofs.Sweeps.{swept-some, SweepStep, sweep-inv, sweep-resting, sweep-unswept, sweep-turn, Reporting, report-inv}

-- ---- Scan

-- the last element of a list that isn't empty
split-at : (xs : List ℕ) (k : ℕ) → length xs ≡ suc k → xs ≡ take k xs ++ get_or xs k 0 ∷ []
split-at [] k h = absurd (omega (arith, h))
split-at (x ∷ []) zero h = refl
split-at (x ∷ y ∷ xs) zero h = absurd (omega (arith, h))
split-at (x ∷ xs) (suc k) h =
    ap (λ (z : List ℕ). x ∷ z) (split-at xs k (let e : length xs ≡ suc k = omega (arith, h) in e))

pub split-last : (xs : List ℕ) → (length xs == 0) ≡ false
    → xs ≡ take (length xs - 1) xs ++ get_or xs (length xs - 1) 0 ∷ []
split-last xs h =
    let some : length xs ≢ 0 = eqb-false (length xs) 0 h in
    split-at xs (length xs - 1) (omega (arith, some))

pub scan-inv : {shape : Shaped} {c d : Cut} (i : ℕ) → i < shape.nodes
    → is_calm (c i).local.heap ≡ false → Becomes c d i (worked (c i) (scan (c i).local))
    → Inv shape c → Moves shape c d i
unfolding scan
scan-inv {shape = shape} {c = c} {d = d} i inside busy becomes inv =
    let s : NodeState = c i in
    let p : LocalState = s.local in
    let h : Heap = p.heap in
    let k : ℕ = last_grey h in
    let less : List ℕ = take (length h.grey - 1) h.grey in
    let rs : List Ref = filled (places_in (slot_at h k)) in
    let split : h.grey ≡ less ++ k ∷ [] = split-last h.grey busy in
    let some : h.grey ≡ [] → ⊥ = λ e. both_ways _ busy (ap (λ (z : List ℕ). length z == 0) e) in
    let marking : Resting (phases_of c 0) → ⊥ = λ rest. some (inv.rested.grey i rest) in
    let opened : is_open p ≡ true =
    ⊎_elim {C = is_open p ≡ true} (λ o. o) (λ shut. absurd (some ((inv.tidy i).calm shut)))
    (cases_Bool (is_open p)) in
    let apart : GreyApart p.own p.phases.cycle h rs = grey-apart p.own p.phases.cycle h rs in
    let safe : (r : Ref) → Among r rs → Safe c r =
    λ r a. scanned-safe inv marking (slot_at h k) refl r a in
    let s1 : NodeState = worked s (see_to true rs p) in
    let c1 : Cut = put c i s1 in
    let shadeable : Shadeable shape c i rs = record {
      inv = inv;
      inside = inside;
      safe = safe;
      quiet = λ _. inl (λ grey. absurd (some grey));
    } in
    let met : Met shape c c1 i rs = shade-met shadeable (becomes-put c i s1) in
    let state1 : c1 i ≡ worked s (seen true rs p) =
    put-here c i s1 ∙ ap (worked s) (see_to-open true rs p opened) in
    let heap1 : make_all_grey p.own p.phases.cycle h rs
    ≡ record (make_all_grey p.own p.phases.cycle h rs) {
      registers = h.registers;
      letters = h.letters;
      grey = h.grey ++ apart.new;
    } = apart.same h.registers h.letters h.grey in
    let grey1 : (c1 i).local.heap.grey ≡ h.grey ++ apart.new =
    ap (λ (z : NodeState). z.local.heap.grey) state1 ∙ ap (λ (z : Heap). z.grey) heap1 in
    let final : worked s (scan p)
    ≡ with_heap (worked s (seen true rs p))
    (record (make_all_grey p.own p.phases.cycle h rs) { grey = less ++ apart.new }) =
    ap (worked s) (see_to-open true rs (record p { heap = without_last_grey h }) opened)
    ∙ ap (λ (z : Heap). with_heap (worked s (seen true rs p)) z)
    (apart.same h.registers h.letters less
    ∙ ap (λ (z : Heap). record z { grey = less ++ apart.new }) (sym heap1)) in
    let b1 : Becomes c1 d i
    (with_heap (c1 i) (record (c1 i).local.heap { grey = less ++ apart.new })) =
    subst (λ (z : NodeState).
    Becomes c1 d i (with_heap z (record z.local.heap { grey = less ++ apart.new })))
    (sym state1)
    (becomes-from (becomes-put c i s1)
    (subst (λ (z : NodeState). Becomes c d i z) final becomes)) in
    let fewer : (j : ℕ) → Among j (c1 i).local.heap.grey → Among j (less ++ apart.new) ⊎ (j ≡ k) =
    λ j a.
    ⊎_elim {C = Among j (less ++ apart.new) ⊎ (j ≡ k)}
    (λ old.
    ⊎_elim {C = Among j (less ++ apart.new) ⊎ (j ≡ k)}
    (λ front. inl (among-append_left j less apart.new front))
    (λ last.
    ⊎_elim {C = Among j (less ++ apart.new) ⊎ (j ≡ k)} (λ e. inr e) (λ never. absurd never) last)
    (among-append j less (k ∷ []) (subst (Among j) split old)))
    (λ new. inl (among-append_right j less apart.new new))
    (among-append j h.grey apart.new (subst (Among j) grey1 a)) in
    let places : (g : ℕ) (y : Object) → slot_at (c1 i).local.heap k ≡ Occupied g y
    → PlacesAll (Known c1 i) y =
    λ g y there.
    scanned-known met
    (greys-all (λ _. Unit {0}) p.own p.phases.cycle h rs (λ _ _. tt)) k g y
    (ap (λ (z : NodeState). slot_at z.local.heap k) (sym state1) ∙ there) refl in
    moves-through met.moves
    (inner-moves (scanned-inner (less ++ apart.new) k inside b1 fewer
    (λ none. absurd (some-more h.grey apart.new some (sym grey1 ∙ none)))
    places met.moves.inv) refl)
  where
    some-more : (xs ys : List ℕ) → (xs ≡ [] → ⊥) → xs ++ ys ≡ [] → ⊥
    some-more [] ys some e = some refl
    some-more (x ∷ xs) ys some e = absurd cc

    scanned-safe : Inv shape c → (Resting (phases_of c 0) → ⊥) → (z : Slot)
        → slot_at (c i).local.heap (last_grey (c i).local.heap) ≡ z → (r : Ref)
        → Among r (filled (places_in z)) → Safe c r
    scanned-safe v marking (Free g) there r never = absurd never
    scanned-safe v marking (Occupied g o) there r a =
        filled-all (Safe c) o.places (v.closed.places i _ g o there (λ rest. absurd (marking rest)))
        r a
    scanned-safe v marking Retired there r never = absurd never

    scanned-known : {e : Cut} {rs : List Ref} → Met shape c e i rs → {h g : Heap} {own cycle : ℕ}
        → Greys (λ _. Unit {0}) own cycle h g → (k n : ℕ) (y : Object) → slot_at g k ≡ Occupied n y
        → filled (places_in (slot_at h k)) ≡ rs → PlacesAll (Known e i) y
    scanned-known {e = e} {rs = rs} met {h = h} {g = g} {own = own} {cycle = cycle} greys k n y
        there is =
        from (greys.back k n y there)
      where
        held : (x : Object) → slot_at h k ≡ Occupied n x → y.places ≡ x.places
            → PlacesAll (Known e i) y
        held x was same j =
            option-holds (Known e i) (get_or y.places j None)
            (λ r at.
            met.known r (subst (Among r) is
            (subst (λ (z : Slot). Among r (filled (places_in z))) (sym was)
            (filled-among x.places j r
            (ap (λ (z : List (Option Ref)). get_or z j None) (sym same) ∙ at)))))

        from : Turned (λ _. Unit {0}) own cycle h g k n y → PlacesAll (Known e i) y
        from (as_was was) = held y was refl
        from (turned x was white mark same grey u) = held x was same

-- ---- Sweep

pub sweep-event : {shape : Shaped} {c d : Cut} (i count : ℕ) → i < shape.nodes
    → (c i).local.phases.swept < (c i).local.phases.ended
    → Becomes c d i (worked (c i) (sweep (c i).local count)) → Inv shape c → Inv shape d
sweep-event {shape = shape} {c = c} {d = d} i count inside ready becomes inv =
    let s : NodeState = c i in
    let p : LocalState = s.local in
    let to : ℕ = p.phases.cursor + looked_at p count in
    let swept : ℕ = cond (sweeps_last p count) p.phases.cycle p.phases.swept in
    let cursor : ℕ = cond (sweeps_last p count) 0 to in
    let s1 : NodeState = record { local = after_sweep p count; sent = s.sent } in
    let c1 : Cut = put c i s1 in
    let step : SweepStep shape c c1 i (sweeping p count).heap to swept cursor = record {
      inv = inv;
      inside = inside;
      ready = ready;
      heap = swept-some p.phases.cycle p.phases.cursor (looked_at p count)
          (record { heap = p.heap; freed = 0 });
      moves = ⊎_elim {C = ((swept ≡ cycle_of c i) × (cursor ≡ 0) × (length p.heap.slots ≡ to))
          ⊎ ((swept ≡ p.phases.swept) × (cursor ≡ to))}
          (λ last.
          inl (
            cond-true (sweeps_last p count) p.phases.cycle p.phases.swept last,
            cond-true (sweeps_last p count) 0 to last,
            sym (eqb-true to (length p.heap.slots) last),
          ))
          (λ more.
          inr (
            cond-false (sweeps_last p count) p.phases.cycle p.phases.swept more,
            cond-false (sweeps_last p count) 0 to more,
          ))
          (cases_Bool (sweeps_last p count));
      becomes = becomes-put c i s1;
    } in
    let inv1 : Inv shape c1 = sweep-inv step in
    let at1 : c1 i ≡ s1 = put-here c i s1 in
    let b1 : Becomes c1 d i (worked s1 (record {
      local = s1.local;
      sends = cond (reports_sweep p count) ((0, stamped p body.Swept) ∷ []) [];
    })) = becomes-from (becomes-put c i s1) becomes in
    ⊎_elim {C = Inv shape d}
    (λ reports.
    let parts = and_parts (sweeps_last p count) _ reports in
    let other : i ≢ 0 =
    λ e. both_ways _ (not-true _ parts.1) (eq-eqb p.own 0 (inv.base.own i inside ∙ e)) in
    let cycle1 : (j : ℕ) → cycle_of c1 j ≡ cycle_of c j =
    at_turn (λ j z. z.local.phases.cycle ≡ cycle_of c j) (sweep-turn step) refl (λ j _. refl) in
    let resting : Resting (phases_of c 0) = sweep-resting step in
    let first1 : phases_of c1 0 ≡ phases_of c 0 =
    ap (λ (z : NodeState). z.local.phases) ((becomes-put c i s1).others 0 (λ e. other (sym e))) in
    let reporting : Reporting shape c1 d i = record {
      inv = inv1;
      inside = inside;
      other = other;
      resting = subst Resting (sym first1) resting;
      swept =
          ap (λ (z : NodeState). z.local.phases.swept) at1
          ∙ cond-true (sweeps_last p count) p.phases.cycle p.phases.swept parts.0
          ∙ resting-joined inv resting inside ∙ sym (cycle1 0);
      unreported =
          (let same : get_or (phases_of c1 0).reports i 0 ≡ get_or (phases_of c 0).reports i 0 =
          ap (λ (z : Phases). get_or z.reports i 0) first1 in
          let most = inv.phased.reports i (let w : 0 < i = omega (arith, other) in w) inside in
          omega (arith, same, most, cycle1 0, sweep-unswept step));
      first = λ place x flight e.
          (let before : IsInFlight c i 0 place x = record {
            later = subst (λ (z : NodeState). got_from z.local i ≤ place)
                ((becomes-put c i s1).others 0 (λ e. other (sym e))) flight.later;
            there = ap (λ (z : NodeState). slice_get (sent_to z 0) place) (sym at1) ∙ flight.there;
          } in
          let fits = subst (λ (z : Body). BodyFits shape.nodes (phases_of c) i 0 x.stamp z) e
          (inv.messages.fits i 0 place x before) in
          omega (arith, fits.3, sweep-unswept step));
      becomes =
          subst (λ (z : NodeState). Becomes c1 d i (record {
            local = z.local;
            sent = append_all z.sent ((0, stamped z.local body.Swept) ∷ []);
          })) (sym at1)
          (subst (λ (z : List (ℕ × Message)).
          Becomes c1 d i (record { local = s1.local; sent = append_all s.sent z }))
          (cond-true (reports_sweep p count) ((0, stamped p body.Swept) ∷ []) [] reports) b1);
    } in
    report-inv reporting)
    (λ quiet.
    (let moves : Moves shape c1 d i =
    moves-none
    (subst (λ (z : NodeState). Becomes c1 d i z) (sym at1)
    (subst (λ (z : List (ℕ × Message)).
    Becomes c1 d i (record { local = s1.local; sent = append_all s.sent z }))
    (cond-false (reports_sweep p count) ((0, stamped p body.Swept) ∷ []) [] quiet) b1)) inv1 in
    moves.inv))
    (cases_Bool (reports_sweep p count))
