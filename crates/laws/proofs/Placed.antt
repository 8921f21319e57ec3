-- Each message in flight names a place that an object of the space may have, if it names one.
use Rattle.std.proofs.Common.{◌≡◌, ℕ, zero, suc, ◌+◌, ◌≤◌, ltb-true, Bool, true, false, cond, nat_le, List, [], ◌∷◌, length, length-append, take, drop, Option, None, map, ◌==◌, Some, slice_get, refl, sym, subst, ⊎_elim, arith, option_to_list}
use Rattle.std.specs.List.{AllByRecursion}
use Rattle.std.specs.Int.{w64, to_be_bytes}
use Rattle.std.proofs.lemmas.Bool.{cond_both, leb-true, and_parts}
use Rattle.std.proofs.Math.Path.{fun_ext}
use Rattle.ids.specs.Limits.{Shaped}
use Rattle.ids.specs.declared.limits.TheConstants.{GREATEST_LETTER, WORD_BYTES}
use Rattle.ids.specs.declared.names.Ref.{Ref}
use Rattle.msg.specs.declared.body.Body.{Body}
use Rattle.msg.specs.declared.body.Body.TheVariants as body
use Rattle.msg.specs.declared.body.Message.{Message}
use Rattle.model.specs.declared.event.Event.{Event}
use Rattle.model.specs.declared.event.Event.TheVariants as event
use Rattle.model.specs.Checks.{AllPass}
use Rattle.model.specs.State.{Object, LocalState, NodeState, sent_to}
use Rattle.model.specs.Heaps.{object_at, fetched, has_range, place_of}
use Rattle.model.specs.World.{new_world}
use Rattle.model.specs.Effects.{Work}
use Rattle.model.specs.Counting.{is_reference, append, announce, to_others, stamped}
use Rattle.model.specs.Shading.{see_to, enter, marks_for, joined}
use Rattle.model.specs.Collecting.{swept_slots, reports_sweep}
use Rattle.model.specs.References.{IsPlaced}
use Rattle.model.specs.Steps.{tests, made, taken_in, settled, is_own, take_carried, take_body, post}
use Rattle.model.specs.Cuts.{Cut, cut, IsInFlight, Becomes, PlainStep, acts, delivers}
use Rattle.model.proofs.References.{all-append}
use Rattle.model.proofs.Lookups.{all-map, get_or-replicate_any}
use Rattle.model.proofs.Leaving.{own-stands, taken-stands}
use Rattle.model.proofs.Walk.{Collects, idle-quiet, begun-walks, scanned-walks, passed-walks, joined-walks, carried-walks, quiet-walks}
use Rattle.laws.proofs.StepFacts.{act-ok, Receipt, repeated, next, receipt-cases}
use Rattle.laws.proofs.Lookups.{all-among}
use Rattle.laws.proofs.Turns.{Turn, at_becomes, flew}
use Rattle.laws.proofs.Invariant.{Base}
use Rattle.laws.proofs.Base.{inside-where, no-node-refuses, own-heard, taken-heard, first_in_flight, at-new}

-- ---- what a step sends

abbrev names_place : Body → Bool
names_place (body.Put target place reference) = true
names_place (body.Get target place label) = true
names_place (body.Post label references bytes) = true
names_place (body.Fetch target label offset count) = true
names_place b = false

abbrev IsUnplaced : ℕ × Message → Type 0
IsUnplaced m = names_place m.1.body ≡ false

abbrev Unplaced : LocalState → Work → Type 0
Unplaced p w = AllByRecursion IsUnplaced w.sends

abbrev IsPlacedIn : Shaped → ℕ × Message → Type 0
IsPlacedIn shape m = IsPlaced shape m.1.body

unplaced-in : (shape : Shaped) (m : ℕ × Message) → IsUnplaced m → IsPlacedIn shape m
unplaced-in shape m none = by m.1.body none where
  by : (b : Body) → names_place b ≡ false → IsPlaced shape b
  by (body.Put target place reference) h = absurd cc
  by (body.Get target place label) h = absurd cc
  by (body.Post label references bytes) h = absurd cc
  by (body.Fetch target label offset count) h = absurd cc
  by b h = tt

quiet-unplaced : (b : Body) → is_reference b ≡ false → names_place b ≡ false
quiet-unplaced (body.Put target place reference) h = absurd cc
quiet-unplaced (body.Get target place label) h = absurd cc
quiet-unplaced (body.Post label references bytes) h = absurd cc
quiet-unplaced (body.Fetch target label offset count) h = absurd cc
quiet-unplaced b h = refl

marks-unplaced : (cycle : ℕ) (rs : List Ref) → AllByRecursion IsUnplaced (marks_for cycle rs)
marks-unplaced cycle [] = tt
marks-unplaced cycle (r ∷ rs) = (refl, marks-unplaced cycle rs)

others-unplaced : (p : LocalState) (b : Body) → names_place b ≡ false → (n : ℕ)
    → AllByRecursion IsUnplaced (to_others p b n)
others-unplaced p b none zero = tt
others-unplaced p b none (suc n) =
    all-append IsUnplaced (to_others p b n) _ (others-unplaced p b none n)
    (cond_both (n == p.own) [] ((n, stamped p b) ∷ []) (AllByRecursion IsUnplaced) (λ _. tt)
    (λ _. (none, tt)))

collects-unplaced : Collects Unplaced
unfolding see_to enter append announce
collects-unplaced = record {
  rest = λ p. tt;
  both = λ p w f first second. all-append IsUnplaced w.sends (f w.local).sends first second;
  sees = λ due rs p. marks-unplaced p.phases.cycle _;
  enters = λ p cycle later. tt;
  rings = λ p r. tt;
  ends = λ p. tt;
  hears = λ p reports. tt;
  scans = λ p. tt;
  sends = λ to b p idle. (quiet-unplaced b (idle-quiet b idle), tt);
  tells = λ b p idle. others-unplaced p b (quiet-unplaced b (idle-quiet b idle)) p.shape.nodes;
}

all-unplaced : (shape : Shaped) (ms : List (ℕ × Message)) → AllByRecursion IsUnplaced ms
    → AllByRecursion (IsPlacedIn shape) ms
all-unplaced shape ms all = all-map IsUnplaced (IsPlacedIn shape) (unplaced-in shape) ms all

take-few : {A : Type 0} (n : ℕ) (xs : List A) → length (take n xs) ≤ n
take-few zero xs = omega arith
take-few (suc n) [] = omega arith
take-few (suc n) (x ∷ xs) = omega (arith, take-few n xs)

-- what is fetched is no more than an object's word and what was asked for
fetched-few : (o : Option Object) (offset count : ℕ)
    → length (fetched o offset count) ≤ WORD_BYTES + count
fetched-few None offset count = omega arith
fetched-few (Some o) offset count =
    let found : List ℕ = take count (drop offset o.bytes) in
    let eight : length (to_be_bytes w64 o.word) ≡ 8 = refl in
    let few : length (cond (has_range o.bytes offset count) found []) ≤ count =
    cond_both (has_range o.bytes offset count) found [] (λ z. length z ≤ count)
    (λ _. take-few count (drop offset o.bytes)) (λ _. omega arith) in
    omega (
      arith,
      few,
      eight,
      length-append (to_be_bytes w64 o.word) (cond (has_range o.bytes offset count) found []),
    )

-- A message of sizes that the space has makes the node send only such messages.
body-placed : (shape : Shaped) (from stamp : ℕ) (b : Body) (p : LocalState) → IsPlaced shape b
    → AllByRecursion (IsPlacedIn shape) (take_body from stamp b p).sends
unfolding take_body append
body-placed shape from stamp (body.Give label reference) p fit = tt
body-placed shape from stamp (body.Put target place reference) p fit = tt
body-placed shape from stamp (body.Post label references bytes) p fit = tt
body-placed shape from stamp (body.Get target place label) p fit =
    let v : Option Ref = place_of (object_at p.heap target) place in
    let w : Work = see_to true (option_to_list v) p in
    all-append (IsPlacedIn shape) w.sends (post from (body.Give label v) w.local).sends
    (all-unplaced shape w.sends (collects-unplaced.sees true (option_to_list v) p)) (tt, tt)
body-placed shape from stamp (body.Fetch target label offset count) p fit = (
  (
    fit.0,
    omega arith,
    omega (arith, fetched-few (object_at p.heap target) offset count, fit.1),
  ),
  tt,
)
body-placed shape from stamp b p fit =
    all-unplaced shape (take_body from stamp b p).sends
    (quiet-walks collects-unplaced from stamp b p refl)

taken-placed : (shape : Shaped) (p : LocalState) (from number stamp : ℕ) (b : Body)
    → IsPlaced shape b
    → AllByRecursion (IsPlacedIn shape) (taken_in p from number stamp b).sends
unfolding taken_in settled
taken-placed shape p from number stamp b fit =
    let q : LocalState = (joined p stamp).local in
    all-append (IsPlacedIn shape) _ _
    (all-unplaced shape _ (joined-walks collects-unplaced p stamp))
    (all-append (IsPlacedIn shape) _ _
    (all-unplaced shape _ (carried-walks collects-unplaced stamp b q))
    (body-placed shape from stamp b (take_carried stamp b q).local fit))

own-placed : (p : LocalState) (counts : List ℕ) (e : Event) → is_own e ≡ true
    → AllPass (tests p e) → AllByRecursion (IsPlacedIn p.shape) (made p counts e).sends
unfolding append swept_slots
own-placed p counts (event.Put object place register) own passed =
    (ltb-true place p.shape.places passed.1.1.1.1.0, tt)
own-placed p counts (event.Get object place label) own passed =
    (ltb-true place p.shape.places passed.1.1.1.0, tt)
own-placed p counts (event.Post to label first count bytes) own passed =
    let room = and_parts p.shape.wide _ passed.1.1.1.0 in
    let few : count ≤ p.shape.places = leb-true count p.shape.places room.1 in
    let size = and_parts (nat_le (length bytes.now) p.shape.bytes) _ passed.1.1.1.1.0 in (
      (
        room.0,
        omega (arith, few, take-few count (drop first p.heap.registers)),
        leb-true (length bytes.now) GREATEST_LETTER size.1,
      ),
      tt,
    )
own-placed p counts (event.Fetch object label offset count) own passed =
    let room = and_parts p.shape.wide _ passed.1.1.1.0 in
    ((room.0, leb-true (WORD_BYTES + count) GREATEST_LETTER room.1), tt)
own-placed p counts (event.Load register object place) own passed =
    all-unplaced p.shape _ (all-append IsUnplaced _ [] (collects-unplaced.sees true _ p) tt)
own-placed p counts event.Begin own passed =
    all-unplaced p.shape _ (begun-walks collects-unplaced p)
own-placed p counts event.Scan own passed =
    all-unplaced p.shape _ (scanned-walks collects-unplaced p)
own-placed p counts event.Pass own passed =
    all-unplaced p.shape _ (passed-walks collects-unplaced p)
own-placed p counts (event.Sweep count) own passed =
    cond_both (reports_sweep p count) _ [] (AllByRecursion (IsPlacedIn p.shape)) (λ _. (tt, tt))
    (λ _. tt)
own-placed p counts (event.Give to label register) own passed = (tt, tt)
own-placed p counts (event.Data d) own passed = absurd cc
own-placed p counts (event.Ack a) own passed = absurd cc
own-placed p counts e own passed = tt

-- ---- what is in flight

abbrev pub Placed : Shaped → Cut → Type 0
Placed shape c =
    (from to place : ℕ) (x : Message) → IsInFlight c from to place x → IsPlaced shape x.body

placed-turn : (shape : Shaped) {c d : Cut} {i : ℕ} {p : LocalState} {ms : List (ℕ × Message)}
    → Turn c d i p ms → AllByRecursion (IsPlacedIn shape) ms → Placed shape c → Placed shape d
placed-turn shape {ms = ms} turn new old from to place x flight =
    ⊎_elim {C = IsPlaced shape x.body}
    (λ before. old from to place x before)
    (λ now. all-among (IsPlacedIn shape) ms new (to, x) now.1)
    (flew turn from to place x flight)

pub plain-placed : {shape : Shaped} {c d : Cut} → PlainStep c d → Base shape c → Placed shape c
    → Placed shape d
plain-placed {shape = shape} {c = c} {d = d} (acts i e s a own answered becomes) base old =
    let p : LocalState = (c i).local in
    let counts = map length (c i).sent in
    let found = act-ok (c i) e s a answered in
    let inside = inside-where i (λ z. AllPass (tests z.local e)) base found.passed
    (no-node-refuses e own) in
    placed-turn shape
    (record {
      becomes = subst (λ (z : NodeState). Becomes c d i z) found.state becomes;
      heard = own-heard (own-stands p counts e own);
    })
    (subst (λ (z : Shaped). AllByRecursion (IsPlacedIn z) (made p counts e).sends)
    (base.shapes i inside) (own-placed p counts e own found.passed))
    old
plain-placed {shape = shape} {c = c} {d = d} (delivers from to x s a flight answered becomes) base
    old = by (receipt-cases (c to) (first_in_flight c from to x) s a answered)
  where
    by : Receipt (c to) (first_in_flight c from to x) s a → Placed shape d
    by (repeated same says) =
        subst (λ (z : Cut). Placed shape z)
        (sym (fun_ext (at_becomes (λ j s. s ≡ c j) becomes same (λ j _. refl)))) old
    by (next turn may found) =
        let p : LocalState = (c to).local in
        placed-turn shape
        (record {
          becomes = subst (λ (z : NodeState). Becomes c d to z) found.state becomes;
          heard = taken-heard p from _ (taken-stands p from _ x.stamp x.body) (omega arith);
        })
        (taken-placed shape p from _ x.stamp x.body (old from to _ x flight)) old

pub new-placed : (shape : Shaped) (choice : ℕ → Bool) → Placed shape (cut (new_world shape) choice)
new-placed shape choice from to place x flight =
    at-new shape choice from
    (λ s. slice_get (sent_to s to) place ≡ Some x → IsPlaced shape x.body)
    (λ z own.
    subst (λ (xs : List Message). slice_get xs place ≡ Some x → IsPlaced shape x.body)
    (sym (get_or-replicate_any {A = List Message} z.nodes to []))
    (λ there. absurd cc))
    flight.there
