-- The invariant after a node has shaded references, or vouched for them.
use Rattle.std.proofs.Common.{◌≡◌, ◌≢◌, ℕ, ℤ, pos, ◌+ℤ◌, ◌<◌, ◌≤◌, ◌⊎◌, ◌==◌, ◌||◌, cond, not, true, List, [], ◌∷◌, ◌++◌, length, get_or, Option, None, refl, sym, ap, ◌∙◌, subst, ⊎_elim, inl, inr, arith, append_assoc, false}
use Rattle.std.specs.Prelude.{◌≤ℤ◌}
use Rattle.std.proofs.lemmas.Int.{ints}
use Rattle.std.proofs.lemmas.Bool.{eq-eqb, eqb-true, cases_eq, cond_both, cond-true, or_cases, or_left, or_right, both_ways}
use Rattle.std.proofs.Math.IntN.{+ℤ_idr}
use Rattle.ids.specs.Limits.{Shaped}
use Rattle.ids.specs.declared.names.Ref.{Ref}
use Rattle.msg.specs.declared.body.Body.TheVariants as body
use Rattle.msg.specs.declared.body.Message.{Message}
use Rattle.model.specs.State.{Object, Occupied, Heap, LocalState, slot_at}
use Rattle.model.specs.Heaps.{no_letter}
use Rattle.model.specs.Shading.{is_same, is_in, is_open, make_all_grey, unasked, mark_for, marks_for, seen}
use Rattle.model.specs.Steps.{append_all}
use Rattle.model.specs.References.{IfAny}
use Rattle.model.specs.Cuts.{Cut, Among, Becomes}
use Rattle.model.specs.Agreement.{is_counted}
use Rattle.model.proofs.Naming.{is-same, in-among}
use Rattle.model.proofs.Slots.{same-object}
use Rattle.model.proofs.Shading.{marks-none}
use Rattle.laws.proofs.Flights.{number_sent}
use Rattle.laws.proofs.Rings.{Counted}
use Rattle.laws.proofs.Invariant.{phases_of, cycle_of, Marking, Resting, Joined, Safe, Holds, holds_marked, holds_asked, Covered, is_marked, is_asked, RootsAll, Tidy, FreeSlots, fresh_balance, is_fresh, Inv}
use Rattle.laws.proofs.Inner.{Known, Same, Origin, kept, greyed, Sent, sends_mark, Inner, known-roots, occupied-inside, open-joined}
use Rattle.laws.proofs.Acting.{outer-inner, none-sent, balance-joined, fresh-joined}
use Rattle.laws.proofs.Slots.{rewrites-free}
use Rattle.laws.proofs.Greys.{Greys, greys-all, Turned, as_was, turned, all-marked, wakes-any}

-- ---- lists of references

in-append_left : (r : Ref) (rs us : List Ref) → is_in r rs ≡ true → is_in r (rs ++ us) ≡ true
in-append_left r [] us h = absurd cc
in-append_left r (s ∷ rs) us h = ⊎_elim {C = is_in r ((s ∷ rs) ++ us) ≡ true}
    (λ same. or_left (is_same r s) _ same)
    (λ later. or_right (is_same r s) _ (in-append_left r rs us later))
    (or_cases (is_same r s) (is_in r rs) h)

pub in-append : (r : Ref) (rs us : List Ref) → is_in r (rs ++ us) ≡ true
    → (is_in r rs ≡ true) ⊎ Among r us
in-append r [] us h = inr (in-among r us h)
in-append r (s ∷ rs) us h = ⊎_elim {C = (is_in r (s ∷ rs) ≡ true) ⊎ Among r us}
    (λ same. inl (or_left (is_same r s) _ same))
    (λ later. ⊎_elim {C = (is_in r (s ∷ rs) ≡ true) ⊎ Among r us}
    (λ a. inl (or_right (is_same r s) _ a)) (λ b. inr b) (in-append r rs us later))
    (or_cases (is_same r s) (is_in r (rs ++ us)) h)

in-last : (r : Ref) (rs : List Ref) → is_in r (rs ++ r ∷ []) ≡ true
in-last r [] = or_left (is_same r r) _ (is-same r)
in-last r (s ∷ rs) = or_right (is_same r s) _ (in-last r rs)

-- what is newly asked for is another node's, and among the references
pub unasked-from : (own : ℕ) (asked rs : List Ref) (r : Ref) → Among r (unasked own asked rs)
    → Among r rs × (r.node ≢ own)
unasked-from own asked [] r = λ never. absurd never
unasked-from own asked (s ∷ rs) r =
    cond_both (s.node == own || is_in s asked) (unasked own asked rs)
    (s ∷ unasked own (asked ++ s ∷ []) rs)
    (λ z. Among r z → Among r (s ∷ rs) × (r.node ≢ own))
    (λ _ a. let found = unasked-from own asked rs r a in (inr found.0, found.1))
    (λ new a. ⊎_elim {C = Among r (s ∷ rs) × (r.node ≢ own)}
    (λ (same : r ≡ s). (
      inl same,
      λ (e : r.node ≡ own).
          both_ways _ new (or_left (s.node == own) (is_in s asked)
          (eq-eqb s.node own (ap (λ (z : Ref). z.node) (sym same) ∙ e))),
    ))
    (λ later. let found = unasked-from own (asked ++ s ∷ []) rs r later in (inr found.0, found.1))
    a)

-- afterwards each reference to another node's object was asked for
all-asked : (own : ℕ) (asked rs : List Ref) (r : Ref) → Among r rs → r.node ≢ own
    → is_in r (asked ++ unasked own asked rs) ≡ true
all-asked own asked [] r never far = absurd never
all-asked own asked (s ∷ rs) r among far =
    cond_both (s.node == own || is_in s asked) (unasked own asked rs)
    (s ∷ unasked own (asked ++ s ∷ []) rs)
    (λ z. is_in r (asked ++ z) ≡ true)
    (λ old. ⊎_elim {C = is_in r (asked ++ unasked own asked rs) ≡ true}
    (λ (same : r ≡ s). ⊎_elim {C = is_in r (asked ++ unasked own asked rs) ≡ true}
    (λ here. absurd (far (ap (λ (z : Ref). z.node) same ∙ eqb-true s.node own here)))
    (λ known.
    in-append_left r asked _ (subst (λ (z : Ref). is_in z asked ≡ true) (sym same) known))
    (or_cases (s.node == own) (is_in s asked) old))
    (λ later. all-asked own asked rs r later far)
    among)
    (λ new.
    subst (λ (z : List Ref). is_in r z ≡ true)
    (append_assoc asked (s ∷ []) (unasked own (asked ++ s ∷ []) rs))
    (⊎_elim {C = is_in r ((asked ++ s ∷ []) ++ unasked own (asked ++ s ∷ []) rs) ≡ true}
    (λ (same : r ≡ s).
    in-append_left r (asked ++ s ∷ []) _
    (subst (λ (z : Ref). is_in z (asked ++ s ∷ []) ≡ true) (sym same) (in-last s asked)))
    (λ later. all-asked own (asked ++ s ∷ []) rs r later far)
    among))

-- if everything was asked for before, nothing is asked for now
unasked-none : (own : ℕ) (asked rs : List Ref)
    → ((r : Ref) → Among r rs → r.node ≢ own → is_in r asked ≡ true) → unasked own asked rs ≡ []
unasked-none own asked [] all = refl
unasked-none own asked (r ∷ rs) all =
    cond-true (r.node == own || is_in r asked) (unasked own asked rs)
    (r ∷ unasked own (asked ++ r ∷ []) rs)
    (⊎_elim {C = (r.node == own || is_in r asked) ≡ true}
    (λ (here : r.node ≡ own). or_left _ _ (eq-eqb r.node own here))
    (λ (far : r.node ≢ own). or_right (r.node == own) _ (all r (inl refl) far))
    (cases_eq r.node own))
    ∙ unasked-none own asked rs (λ s a. all s (inr a))

pub marks-from : (cycle : ℕ) (rs : List Ref) (to : ℕ) (x : Message)
    → Among (to, x) (marks_for cycle rs) → (r : Ref) × Among r rs × ((to, x) ≡ mark_for cycle r)
marks-from cycle [] to x never = absurd never
marks-from cycle (r ∷ rs) to x (inl same) = (r, inl refl, same)
marks-from cycle (r ∷ rs) to x (inr later) =
    let found = marks-from cycle rs to x later in (found.0, inr found.1, found.2)

marks-for : (cycle : ℕ) (rs : List Ref) (r : Ref) → Among r rs
    → Among (mark_for cycle r) (marks_for cycle rs)
marks-for cycle [] r never = absurd never
marks-for cycle (s ∷ rs) r (inl same) = inl (ap (mark_for cycle) same)
marks-for cycle (s ∷ rs) r (inr later) = inr (marks-for cycle rs r later)

marks-counted : (cycle : ℕ) (rs : List Ref)
    → number_sent (is_counted cycle) (marks_for cycle rs) ≡ length rs
marks-counted cycle [] = refl
marks-counted cycle (r ∷ rs) =
    let one : ◌≡◌ {A = ℕ} (cond (cycle == cycle) 1 0) 1 =
    cond-true (cycle == cycle) 1 0 (eq-eqb cycle cycle refl) in
    omega (arith, one, marks-counted cycle rs)

marks-length : (cycle : ℕ) (rs : List Ref) → length (marks_for cycle rs) ≡ length rs
marks-length cycle [] = refl
marks-length cycle (r ∷ rs) = omega (arith, marks-length cycle rs)

marks-stale : (cycle : ℕ) (rs : List Ref)
    → number_sent (is_fresh cycle) (marks_for cycle rs) ≡ 0
marks-stale cycle [] = refl
marks-stale cycle (r ∷ rs) = omega (arith, marks-stale cycle rs)

-- ---- what both have in common

-- The references are safe.
pub record Meeting (shape : Shaped) (c : Cut) (i : ℕ) (rs : List Ref) : Type 0 where
  pub inv : Inv shape c
  pub inside : i < shape.nodes
  pub opened : is_open (c i).local ≡ true
  pub safe : (r : Ref) → Among r rs → Safe c r

abbrev grey_heap : Cut → ℕ → List Ref → Heap
grey_heap c i rs = make_all_grey (c i).local.own (cycle_of c i) (c i).local.heap rs

module _ {shape : Shaped} {c : Cut} {i : ℕ} {rs : List Ref} (m : Meeting shape c i rs) where
  greys : Greys (λ r. Among r rs) (c i).local.own (cycle_of c i) (c i).local.heap (grey_heap c i rs)
  greys = greys-all (λ r. Among r rs) (c i).local.own (cycle_of c i) (c i).local.heap rs (λ r a. a)

  joined : Joined c i
  joined = open-joined m.inv m.inside m.opened

  -- a safe object of the node's own
  own-object : (r : Ref) → Among r rs → r.node ≡ (c i).local.own
      → (x : Object) × (slot_at (c i).local.heap r.slot ≡ Occupied r.generation x)
      × (Resting (phases_of c 0) → x.mark ≡ cycle_of c 0)
  own-object r a here =
      let safe = m.safe r a in
      let at : r.node ≡ i = here ∙ m.inv.base.own i m.inside in (
        safe.object,
        ap (λ (z : ℕ). slot_at (c z).local.heap r.slot) (sym at) ∙ safe.there,
        safe.marked,
      )

  meet-origin : {q : LocalState} → q.heap ≡ grey_heap c i rs → (k g : ℕ) (y : Object)
      → slot_at q.heap k ≡ Occupied g y → Origin c i q k g y
  meet-origin {q = q} same k g y there =
      from (greys.back k g y (ap (λ (z : Heap). slot_at z k) (sym same) ∙ there))
    where
      from : Turned (λ r. Among r rs) (c i).local.own (cycle_of c i) (c i).local.heap
          (grey_heap c i rs) k g y → Origin c i q k g y
      from (as_was before) =
          kept y before refl (λ j. inl refl)
          (λ a. inl (subst (λ (z : Heap). Among k z.grey) (sym same) (greys.grows k a)))
      from (turned x before white mark places grey a) =
          let found =
          own-object (record { node = (c i).local.own; slot = k; generation = g }) a refl in
          greyed x before
          (λ rest.
          ap (λ (z : Object). z.mark)
          (same-object (slot_at (c i).local.heap k) g x found.0 before found.1) ∙ found.2 rest)
          places mark (subst (λ (z : Heap). Among k z.grey) (sym same) grey)

  meet-tidy : {q : LocalState} → q.heap ≡ grey_heap c i rs → Same (c i).local q → Tidy q
  meet-tidy {q = q} same stays =
      let h : Heap = (c i).local.heap in
      let g : Heap = grey_heap c i rs in
      let tidy = m.inv.tidy i in
      let cycle : q.phases.cycle ≡ cycle_of c i = ap (λ z. z.cycle) stays.phases in
      record {
        free = subst (λ (z : Heap). FreeSlots z.slots z.free) (sym same)
            (rewrites-free greys.rewrites tidy.free);
        room =
            let wide : length q.heap.slots ≡ length h.slots =
            ap (λ (z : Heap). length z.slots) same ∙ greys.rewrites.width in
            let most : q.shape.slots ≡ (c i).local.shape.slots =
            ap (λ (z : Shaped). z.slots) stays.shape in
            omega (arith, wide, most, tidy.room);
        marks = λ k e y there.
            subst (λ (z : ℕ). y.mark ≤ z) (sym cycle)
            (marks k e y (greys.back k e y (ap (λ (z : Heap). slot_at z k) (sym same) ∙ there)));
        calm = λ shut.
            absurd
            (both_ways _ (ap (λ z. not (z.ended == z.cycle)) (sym stays.phases) ∙ shut) m.opened);
      }
    where
      marks : (k e : ℕ) (y : Object)
          → Turned (λ r. Among r rs) (c i).local.own (cycle_of c i) (c i).local.heap
          (grey_heap c i rs) k e y → y.mark ≤ cycle_of c i
      marks k e y (as_was before) = (m.inv.tidy i).marks k e y before
      marks k e y (turned x before white mark places grey a) = omega (arith, mark)

  meet-roots : RootsAll (Known c i) (grey_heap c i rs)
  meet-roots =
      let old = known-roots i m.inv in
      record {
        registers =
            subst (λ (z : List (Option Ref)). (k : ℕ) → IfAny (Known c i) (get_or z k None))
            (sym greys.registers) old.registers;
        letters = subst (λ z. (k : ℕ) → IfAny (Known c i) (get_or z k no_letter).reference)
            (sym greys.letters) old.letters;
      }

  -- no object turns grey when marking has ended
  pub rest-calm : Resting (phases_of c 0) → grey_heap c i rs ≡ (c i).local.heap
  rest-calm rest = ⊎_elim {C = grey_heap c i rs ≡ (c i).local.heap}
      (λ same. same)
      (λ w.
      let found = own-object w.reference w.among w.here in
      absurd (w.white (ap (λ (z : Object). z.mark)
      (same-object (slot_at (c i).local.heap w.reference.slot) w.reference.generation w.object
      found.0 w.there found.1)
      ∙ found.2 rest ∙ sym joined)))
      (wakes-any (c i).local.own (cycle_of c i) (c i).local.heap rs)

  -- afterwards the node holds the references
  pub meet-holds : {q : LocalState} → q.heap ≡ grey_heap c i rs → Same (c i).local q
      → q.asked ≡ (c i).local.asked ++ unasked (c i).local.own (c i).local.asked rs
      → (r : Ref) → Among r rs → Holds q r
  meet-holds {q = q} same stays asked r a = ⊎_elim {C = Holds q r}
      (λ (here : r.node ≡ (c i).local.own).
      let found = own-object r a here in
      let marked =
      all-marked (cycle_of c i) (c i).local.heap rs r found.0 a here found.1 in
      holds_marked marked.object (here ∙ sym stays.own)
      (ap (λ (z : Heap). slot_at z r.slot) same ∙ marked.there)
      (marked.mark ∙ sym (ap (λ z. z.cycle) stays.phases)))
      (λ (far : r.node ≢ (c i).local.own).
      holds_asked (λ (e : r.node ≡ q.own). far (e ∙ stays.own))
      (subst (λ (z : List Ref). is_in r z ≡ true) (sym asked)
      (all-asked (c i).local.own (c i).local.asked rs r a far)))
      (cases_eq r.node (c i).local.own)

  -- references that are already held change nothing
  pub held-calm : ((r : Ref) → Among r rs → Holds (c i).local r)
      → (grey_heap c i rs ≡ (c i).local.heap)
      × (unasked (c i).local.own (c i).local.asked rs ≡ [])
  held-calm held = (
    ⊎_elim {C = grey_heap c i rs ≡ (c i).local.heap}
        (λ same. same)
        (λ w.
        absurd (w.white (white-not w.reference w.object w.here w.there (held w.reference w.among))))
        (wakes-any (c i).local.own (cycle_of c i) (c i).local.heap rs),
    unasked-none (c i).local.own (c i).local.asked rs (λ r a far. far-asked r far (held r a)),
  )
    where
      white-not : (r : Ref) (x : Object) → r.node ≡ (c i).local.own
          → slot_at (c i).local.heap r.slot ≡ Occupied r.generation x → Holds (c i).local r
          → x.mark ≡ cycle_of c i
      white-not r x here there (holds_marked o own at mark) =
          ap (λ (z : Object). z.mark)
          (same-object (slot_at (c i).local.heap r.slot) r.generation x o there at) ∙ mark
      white-not r x here there (holds_asked far asked) = absurd (far here)

      far-asked : (r : Ref) → r.node ≢ (c i).local.own → Holds (c i).local r
          → is_in r (c i).local.asked ≡ true
      far-asked r far (holds_marked o own at mark) = absurd (far own)
      far-asked r far (holds_asked _ asked) = asked

-- ---- shading

-- Either the node holds the references if it has no grey object, or marking goes on and a message
-- that the cycle counts is in flight.
pub record Shading (shape : Shaped) (c : Cut) (i : ℕ) (rs : List Ref) : Type 0 where
  pub meeting : Meeting shape c i rs
  pub quiet : ((c i).local.heap.grey ≡ [] → (r : Ref) → Among r rs → Holds (c i).local r)
      ⊎ (Counted c × Marking (phases_of c 0))

module _ {shape : Shaped} {c d : Cut} {i : ℕ} {rs : List Ref} (s : Shading shape c i rs)
    (becomes : Becomes c d i (record {
      local = (seen true rs (c i).local).local;
      sent = append_all (c i).sent (seen true rs (c i).local).sends;
    })) where
  abbrev news : List Ref
  news = unasked (c i).local.own (c i).local.asked rs

  abbrev shaded : LocalState
  shaded = (seen true rs (c i).local).local

  shaded-same : Same (c i).local shaded
  shaded-same = record { shape = refl; own = refl; phases = refl; token = refl }

  -- when marking has ended, nothing is asked for
  rest-news : Resting (phases_of c 0) → news ≡ []
  rest-news rest = ⊎_elim {C = news ≡ []}
      (λ held. (held-calm s.meeting (held (s.meeting.inv.rested.grey i rest))).1)
      (λ some. absurd (omega (arith, rest, some.1)))
      s.quiet

  marking-where : (to : ℕ) (x : Message) → Among (to, x) (marks_for (cycle_of c i) news)
      → Marking (phases_of c 0)
  marking-where to x a = ⊎_elim {C = Marking (phases_of c 0)}
      (λ (rest : Resting (phases_of c 0)).
      absurd
      (subst (λ (z : List Ref). Among (to, x) (marks_for (cycle_of c i) z)) (rest-news rest) a))
      (λ (other : (phases_of c 0).ended ≢ (phases_of c 0).cycle).
      omega (arith, other, s.meeting.inv.phased.ended 0))
      (cases_eq (phases_of c 0).ended (phases_of c 0).cycle)

  shaded-sends : (to : ℕ) (x : Message) → Among (to, x) (marks_for (cycle_of c i) news)
      → Sent shape.nodes c i to x
  shaded-sends to x a =
      let found = marks-from (cycle_of c i) news to x a in
      let r : Ref = found.0 in
      let from = unasked-from (c i).local.own (c i).local.asked rs r found.1 in
      let safe : Safe c r = s.meeting.safe r from.0 in
      let at : r.node ≡ to = ap (λ (z : ℕ × Message). z.0) (sym found.2) in
      sends_mark r (ap (λ (z : ℕ × Message). z.1) found.2) at
      (subst (λ (z : ℕ). z < shape.nodes) at
      (occupied-inside r.node r.slot r.generation safe.object s.meeting.inv.base safe.there))
      safe (marking-where to x a) (joined s.meeting)

  pub shade-inner : Inner shape c d i shaded (marks_for (cycle_of c i) news)
  shade-inner =
      let m = s.meeting in
      let here : Joined c i = joined m in
      let grows : (c i).local.ring.earlier ≤ℤ shaded.ring.earlier = omega (arith, ints) in
      outer-inner (record {
        inv = m.inv;
        inside = m.inside;
        becomes = becomes;
        same = shaded-same;
        got = refl;
        preserves = record {
          tidy = meet-tidy m refl shaded-same;
          origin = meet-origin m {q = shaded} refl;
          lasting = (greys m).rewrites.lasting;
          roots = meet-roots m;
          resting = λ rest. ap (λ (z : Heap). z.grey) (rest-calm m rest) ∙ m.inv.rested.grey i rest;
          still = λ r asked. in-append_left r (c i).local.asked news asked;
          asks = λ marking there r asked. ⊎_elim
              {C = (is_in r (c i).local.asked ≡ true) ⊎ (Covered c r ⊎ ((r.node < shape.nodes)
              × Among (r.node, record { stamp = cycle_of c i; body = body.Mark r })
              (marks_for (cycle_of c i) news)))}
              (λ before. inl before)
              (λ new.
              let a = marks-for (cycle_of c i) news r new in
              let from = unasked-from (c i).local.own (c i).local.asked rs r new in
              let safe : Safe c r = m.safe r from.0 in
              inr
              (inr (
                occupied-inside r.node r.slot r.generation safe.object m.inv.base safe.there,
                a,
              )))
              (in-append r (c i).local.asked news asked);
          sends = shaded-sends;
        };
        counts = record {
          earlier_more = length news;
          recent_more = 0;
          earlier = refl;
          recent = omega (arith, ints);
          together =
              (let e : length (marks_for (cycle_of c i) news) ≡ length news =
              marks-length (cycle_of c i) news in
              omega (arith, e));
          colour = refl;
          owes = grows;
          counted =
              balance-joined (cycle_of c 0) shaded here
              ∙ ap (λ (z : ℕ). (c i).local.ring.earlier +ℤ pos z)
              (sym (marks-counted (cycle_of c i) news))
              ∙ ap (λ (z : ℕ). (c i).local.ring.earlier
              +ℤ pos (number_sent (is_counted z) (marks_for (cycle_of c i) news))) here
              ∙ ap (λ (z : ℤ).
              z +ℤ pos (number_sent (is_counted (cycle_of c 0)) (marks_for (cycle_of c i) news)))
              (sym (balance-joined (cycle_of c 0) (c i).local here));
          fresh =
              (let a : fresh_balance (cycle_of c 0) shaded ≡ (c i).local.ring.recent =
              fresh-joined (cycle_of c 0) shaded here in
              let b : fresh_balance (cycle_of c 0) (c i).local ≡ (c i).local.ring.recent =
              fresh-joined (cycle_of c 0) (c i).local here in
              let k : number_sent (is_fresh (cycle_of c 0)) (marks_for (cycle_of c i) news) ≡ 0 =
              ap (λ (z : ℕ). number_sent (is_fresh z) (marks_for (cycle_of c i) news)) (sym here)
              ∙ marks-stale (cycle_of c i) news in
              omega (arith, ints, a, b, k));
        };
        far = ⊎_elim
            {C = (Joined c i → (c i).local.heap.grey ≡ []
            → (shaded.heap.grey ≡ [])
            × (shaded.ring.earlier ≡ (c i).local.ring.earlier)) ⊎ Counted c}
            (λ held. inl (λ _ grey.
            let none = held-calm m (held grey) in (
              ap (λ (z : Heap). z.grey) none.0 ∙ grey,
              ap (λ (z : List Ref). (c i).local.ring.earlier +ℤ pos (length z)) none.1
                  ∙ +ℤ_idr (c i).local.ring.earlier,
            )))
            (λ some. inr some.0)
            s.quiet;
      })

-- ---- vouching

-- While marking goes on, the references are covered.
pub record Vouching (shape : Shaped) (c : Cut) (i : ℕ) (rs : List Ref) : Type 0 where
  pub meeting : Meeting shape c i rs
  pub covered : Marking (phases_of c 0) → (r : Ref) → Among r rs → Covered c r

module _ {shape : Shaped} {c d : Cut} {i : ℕ} {rs : List Ref} (s : Vouching shape c i rs)
    (becomes : Becomes c d i (record {
      local = (seen false rs (c i).local).local;
      sent = (c i).sent;
    })) where
  abbrev vouched : LocalState
  vouched = (seen false rs (c i).local).local

  -- if an object turns grey, a Mark for it is in flight
  vouched-calm : (grey_heap c i rs ≡ (c i).local.heap) ⊎ Counted c
  vouched-calm = ⊎_elim {C = (grey_heap c i rs ≡ (c i).local.heap) ⊎ Counted c}
      (λ same. inl same)
      (λ w. ⊎_elim {C = (grey_heap c i rs ≡ (c i).local.heap) ⊎ Counted c}
      (λ (rest : Resting (phases_of c 0)). inl (rest-calm s.meeting rest))
      (λ (other : (phases_of c 0).ended ≢ (phases_of c 0).cycle).
      inr (on-its-way w.reference w.object w.here w.there w.white
      (s.covered (omega (arith, other, s.meeting.inv.phased.ended 0)) w.reference w.among)))
      (cases_eq (phases_of c 0).ended (phases_of c 0).cycle))
      (wakes-any (c i).local.own (cycle_of c i) (c i).local.heap rs)
    where
      on-its-way : (r : Ref) (x : Object) → r.node ≡ (c i).local.own
          → slot_at (c i).local.heap r.slot ≡ Occupied r.generation x → x.mark ≢ cycle_of c i
          → Covered c r → Counted c
      on-its-way r x here there white (is_marked o at mark) =
          absurd (white (ap (λ (z : Object). z.mark)
          (same-object (slot_at (c i).local.heap r.slot) r.generation x o there
          (ap (λ (z : ℕ). slot_at (c z).local.heap r.slot)
          (sym (here ∙ s.meeting.inv.base.own i s.meeting.inside)) ∙ at))
          ∙ mark ∙ sym (joined s.meeting)))
      on-its-way r x here there white (is_asked from place flight) = record {
        from = from;
        to = r.node;
        place = place;
        message = record { stamp = cycle_of c 0; body = body.Mark r };
        flight = flight;
        counted = eq-eqb (cycle_of c 0) (cycle_of c 0) refl;
      }

  pub vouch-inner : Inner shape c d i vouched []
  vouch-inner =
      let m = s.meeting in
      let same : Same (c i).local vouched = record
      { shape = refl; own = refl; phases = refl; token = refl } in
      outer-inner (record {
        inv = m.inv;
        inside = m.inside;
        becomes = becomes;
        same = same;
        got = refl;
        preserves = record {
          tidy = meet-tidy m refl same;
          origin = meet-origin m {q = vouched} refl;
          lasting = (greys m).rewrites.lasting;
          roots = meet-roots m;
          resting = λ rest. ap (λ (z : Heap). z.grey) (rest-calm m rest) ∙ m.inv.rested.grey i rest;
          still = λ r asked. in-append_left r (c i).local.asked _ asked;
          asks = λ marking there r asked. ⊎_elim
              {C = (is_in r (c i).local.asked ≡ true)
              ⊎ (Covered c r ⊎ ((r.node < shape.nodes) × ⊥))}
              (λ before. inl before)
              (λ new.
              inr
              (inl (s.covered marking r
              (unasked-from (c i).local.own (c i).local.asked rs r new).0)))
              (in-append r (c i).local.asked _ asked);
          sends = λ to x never. absurd never;
        };
        counts = none-sent refl (marks-none (c i).local.ring);
        far = ⊎_elim
            {C = (Joined c i → (c i).local.heap.grey ≡ []
            → (vouched.heap.grey ≡ [])
            × (vouched.ring.earlier ≡ (c i).local.ring.earlier)) ⊎ Counted c}
            (λ none. inl (λ _ grey. (
              ap (λ (z : Heap). z.grey) none ∙ grey,
              +ℤ_idr (c i).local.ring.earlier,
            )))
            (λ some. inr some) vouched-calm;
      })
