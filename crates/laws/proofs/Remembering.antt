-- What old objects may name. In every cut, a place of an old object names no young object of its
-- node: what it names is remembered or old. So a search for young garbage needn't follow places of
-- old objects.
use Rattle.std.proofs.Common.{◌≡◌, ℕ, zero, suc, ◌+◌, ◌==◌, ◌⊎◌, ◌&&◌, Bool, true, false, not, cond, List, [], ◌∷◌, ◌++◌, length, map, get_or, set, replicate, Option, None, Some, option_to_list, refl, sym, ap, ◌∙◌, subst, ⊎_elim, inl, inr, arith}
use Rattle.std.proofs.lemmas.Bool.{cond_both, cond-true, cond-false, and_from, and_parts, eq-eqb, eqb-true, cases_Bool}
use Rattle.std.proofs.Math.Path.{fun_ext}
use Rattle.ids.specs.Limits.{Shaped}
use Rattle.ids.specs.declared.names.Ref.{Ref}
use Rattle.msg.specs.declared.body.Body.{Body}
use Rattle.model.specs.declared.age.Age.{Age}
use Rattle.model.specs.declared.age.Age.TheVariants.{Young, Remembered, Old}
use Rattle.model.specs.State.{Object, Slot, Occupied, Retired, Heap, LocalState, NodeState, slot_at}
use Rattle.model.specs.Heaps.{with_rewritten, with_place, placing, remembering, remembered, remember, is_old, is_old_object, sharing, new_object, with_object, next_slot, generation_for, object_at}
use Rattle.model.specs.Effects.{Work, at_rest}
use Rattle.model.specs.Counting.{append, announce}
use Rattle.model.specs.Shading.{is_open, is_unmarked, with_mark, make_grey, make_all_grey, filled, see_to, enter}
use Rattle.model.specs.Collecting.{is_garbage, looked_at}
use Rattle.model.specs.Reclaiming.{is_young, aged, freed_within}
use Rattle.model.specs.Steps.{tests, taken_in, settled, count_in}
use Rattle.model.specs.World.{new_world}
use Rattle.model.specs.Cuts.{Cut, cut, taken, Among, PlainStep, acts, delivers}
use Rattle.model.specs.Checks.{AllPass}
use Rattle.model.proofs.Slots.{object-there}
use Rattle.model.proofs.Ages.{noted_for, noted-keeps, aged-back}
use Rattle.model.proofs.Freeing.{Freed, freed-left, freed-some, garbage-test}
use Rattle.model.proofs.Walk.{Collects, Walks, post-walks, own-walks, taken-walks, work_in}
use Rattle.laws.proofs.Lookups.{among-append, among-append_left, among-append_right}
use Rattle.laws.proofs.StepFacts.{act-ok, Receipt, repeated, next, receipt-cases}
use Rattle.laws.proofs.Turns.{at_becomes}
use Rattle.laws.proofs.Base.{inside-where, no-node-refuses, first_in_flight, at-new}
use Rattle.laws.proofs.Invariant.{FreeSlots, Inv, IsGrownAt, OldHolds, Remembers, Recalled}
use Rattle.laws.proofs.Slots.{rewritten-at, rewritten-back, object-where}
use Rattle.laws.proofs.Past.{PastAt, new-not_past}
use Rattle.laws.proofs.Dressing.{filled-all}
use Rattle.laws.proofs.Outside.{Near, Outside}

-- ---- from one heap to the next

-- an old object was there, and held the same; and what isn't young stays so
record Recalls (h g : Heap) : Type 0 where
  back : (k e : ℕ) (y : Object) → slot_at g k ≡ Occupied e y → is_old y.age ≡ true
      → (x : Object) × (slot_at h k ≡ Occupied e x) × (is_old x.age ≡ true)
      × (y.places ≡ x.places)
  grown : (k e : ℕ) → IsGrownAt h k e → IsGrownAt g k e

old-before : {h g : Heap} {r : Ref} → Recalls h g → OldHolds g r → OldHolds h r
old-before {r = r} a held =
    let x = a.back held.slot held.generation held.holder held.there held.old in
    record {
      slot = held.slot;
      generation = held.generation;
      holder = x.0;
      there = x.1;
      old = x.2;
      among = subst (λ (z : List (Option Ref)). Among r (filled z)) x.3 held.among;
    }

recalls-remembers : {own : ℕ} {h g : Heap} → Recalls h g → Remembers own h → Remembers own g
recalls-remembers a all r held here = a.grown r.slot r.generation (all r (old-before a held) here)

recalls-none : (h : Heap) → Recalls h h
recalls-none h = record {
  back = λ k e y there old. (y, there, old, refl);
  grown = λ k e grown. grown;
}

recalls-through : {f g h : Heap} → Recalls f g → Recalls g h → Recalls f h
recalls-through a b = record {
  back = λ k e y there old.
      (let x = b.back k e y there old in
      let z = a.back k e x.0 x.1 x.2 in (z.0, z.1, z.2, x.3 ∙ z.3));
  grown = λ k e grown. b.grown k e (a.grown k e grown);
}

-- a rewriting that keeps what an object holds, and whether it is old, and makes none young
record KeepsAge (f : Object → Object) : Type 0 where
  places : (o : Object) → (f o).places ≡ o.places
  old : (o : Object) → is_old (f o).age ≡ is_old o.age
  grown : (o : Object) → is_young o.age ≡ false → is_young (f o).age ≡ false

recalls-rewritten : (h : Heap) (r : Ref) (f : Object → Object) → KeepsAge f
    → Recalls h (with_rewritten h r f)
recalls-rewritten h r f keeps = record {
  back = λ k e y there old.
      (let found = rewritten-back h r f k e y there in
      let x : Object = found.0 in
      ⊎_elim {C = (z : Object) × (slot_at h k ≡ Occupied e z) × (is_old z.age ≡ true)
      × (y.places ≡ z.places)}
      (λ (same : y ≡ x). (
        x,
        found.1,
        subst (λ (z : Object). is_old z.age ≡ true) same old,
        ap (λ (z : Object). z.places) same,
      ))
      (λ (now : y ≡ f x). (
        x,
        found.1,
        sym (keeps.old x) ∙ subst (λ (z : Object). is_old z.age ≡ true) now old,
        ap (λ (z : Object). z.places) now ∙ keeps.places x,
      ))
      found.2);
  grown = λ k e grown y there.
      (let found = rewritten-back h r f k e y there in
      let before : is_young found.0.age ≡ false = grown found.0 found.1 in
      ⊎_elim {C = is_young y.age ≡ false}
      (λ (same : y ≡ found.0). ap (λ (z : Object). is_young z.age) same ∙ before)
      (λ (now : y ≡ f found.0).
      ap (λ (z : Object). is_young z.age) now ∙ keeps.grown found.0 before)
      found.2);
}

age-kept : {f : Object → Object} → ((o : Object) → (f o).places ≡ o.places)
    → ((o : Object) → (f o).age ≡ o.age) → KeepsAge f
age-kept places age = record {
  places = places;
  old = λ o. ap is_old (age o);
  grown = λ o grown. ap is_young (age o) ∙ grown;
}

remembering-old : (a : Age) → is_old (remembered a) ≡ is_old a
remembering-old Young = refl
remembering-old Remembered = refl
remembering-old Old = refl

remembered-grown : (a : Age) → is_young (remembered a) ≡ false
remembered-grown Young = refl
remembered-grown Remembered = refl
remembered-grown Old = refl

remembering-kept : KeepsAge remembering
remembering-kept = record {
  places = λ o. refl;
  old = λ o. remembering-old o.age;
  grown = λ o _. remembered-grown o.age;
}

recalls-grey : (cycle : ℕ) (h : Heap) (r : Ref) → Recalls h (make_grey cycle h r)
unfolding make_grey
recalls-grey cycle h r =
    cond_both (is_unmarked cycle (object_at h r))
    (record (with_rewritten h r (with_mark cycle)) { grey = h.grey ++ r.slot ∷ [] }) h (Recalls h)
    (λ _.
    let a = recalls-rewritten h r (with_mark cycle) (age-kept (λ o. refl) (λ o. refl)) in
    record { back = a.back; grown = a.grown })
    (λ _. recalls-none h)

recalls-all_grey : (own cycle : ℕ) (h : Heap) (rs : List Ref)
    → Recalls h (make_all_grey own cycle h rs)
recalls-all_grey own cycle h [] = recalls-none h
recalls-all_grey own cycle h (r ∷ rs) =
    recalls-through
    (cond_both (r.node == own) (make_grey cycle h r) h (Recalls h) (λ _. recalls-grey cycle h r)
    (λ _. recalls-none h))
    (recalls-all_grey own cycle (cond (r.node == own) (make_grey cycle h r) h) rs)

recalls-freed : {h g : Heap} → Freed h g → Recalls h g
recalls-freed freed = record {
  back = λ k e y there old. (y, freed-left freed k e y there, old, refl);
  grown = λ k e grown y there. grown y (freed-left freed k e y there);
}

-- ---- a new object

-- what old objects name was given out
abbrev pub NamesPast : ℕ → Heap → Type 0
NamesPast own h = (r : Ref) → OldHolds h r → r.node ≡ own → PastAt h r.slot r.generation

holds-none : (n : ℕ) (r : Ref) → Among r (filled (replicate n None)) → ⊥
holds-none zero r never = never
holds-none (suc n) r a = holds-none n r a

remembers-object : (own : ℕ) (shared : Bool) (cycle places : ℕ) (h : Heap)
    → FreeSlots h.slots h.free × NamesPast own h → Remembers own h
    → Remembers own (with_object h (new_object shared cycle places))
remembers-object own shared cycle places h ready all r held here y there =
    let o : Object = new_object shared cycle places in
    let before : OldHolds h r =
    ⊎_elim {C = OldHolds h r}
    (λ was. record {
      slot = held.slot;
      generation = held.generation;
      holder = held.holder;
      there = was;
      old = held.old;
      among = held.among;
    })
    (λ now.
    absurd (holds-none places r
    (subst (λ (z : Object). Among r (filled z.places)) now.2 held.among)))
    (object-where h.free h.slots o ready.0 held.slot held.generation held.holder held.there) in
    ⊎_elim {C = is_young y.age ≡ false}
    (λ was. all r before here y was)
    (λ now.
    absurd (let past : PastAt h r.slot r.generation = ready.1 r before here in
    let at : PastAt h (next_slot h.free h.slots) (generation_for h.free h.slots) =
    subst (λ (z : ℕ). PastAt h z (generation_for h.free h.slots)) now.0
    (subst (λ (z : ℕ). PastAt h r.slot z) now.1 past) in
    new-not_past h.free h.slots ready.0 at.used at.past))
    (object-where h.free h.slots o ready.0 r.slot r.generation y there)

-- ---- a place is written

filled-set : (os : List (Option Ref)) (place : ℕ) (v : Option Ref) (r : Ref)
    → Among r (filled (set os place v)) → Among r (filled os) ⊎ (v ≡ Some r)
filled-set [] place v r a = inl a
filled-set (o ∷ os) zero None r a = inl (among-append_right r (option_to_list o) (filled os) a)
filled-set (o ∷ os) zero (Some z) r (inl same) = inr (ap Some (sym same))
filled-set (o ∷ os) zero (Some z) r (inr later) =
    inl (among-append_right r (option_to_list o) (filled os) later)
filled-set (o ∷ os) (suc place) v r a =
    ⊎_elim {C = Among r (filled (o ∷ os)) ⊎ (v ≡ Some r)}
    (λ first. inl (among-append_left r (option_to_list o) (filled os) first))
    (λ later.
    ⊎_elim {C = Among r (filled (o ∷ os)) ⊎ (v ≡ Some r)}
    (λ was. inl (among-append_right r (option_to_list o) (filled os) was)) (λ now. inr now)
    (filled-set os place v r later))
    (among-append r (option_to_list o) (filled (set os place v)) a)

recalls-noted : (own : ℕ) (h : Heap) (r : Ref) (v : Option Ref)
    → Recalls h (noted_for own h r v)
recalls-noted own h r v =
    noted-keeps (Recalls h) own h r v (λ z. recalls-rewritten h z remembering remembering-kept)
    (recalls-none h)

-- what an old object is to name isn't young then
noted-grown : (own : ℕ) (h : Heap) (r z : Ref) → is_old_object (object_at h r) ≡ true
    → z.node ≡ own → IsGrownAt (noted_for own h r (Some z)) z.slot z.generation
noted-grown own h r z old here =
    subst (λ (g : Heap). IsGrownAt g z.slot z.generation)
    (sym (cond-true (is_old_object (object_at h r)) (remember own h (Some z)) h old
    ∙ cond-true (z.node == own) (with_rewritten h z remembering) h (eq-eqb z.node own here)))
    (λ o there.
    (let found = rewritten-at h z remembering z.slot z.generation o there in
    ap (λ (y : Object). is_young y.age)
    (found.2
    ∙ cond-true ((z.slot == z.slot) && (z.generation == z.generation)) (remembering found.0)
    found.0 (and_from _ _ (eq-eqb z.slot z.slot refl) (eq-eqb z.generation z.generation refl)))
    ∙ remembered-grown found.0.age))

remembers-placed : (own : ℕ) (h : Heap) (r : Ref) (place : ℕ) (v : Option Ref)
    → Remembers own h → Remembers own (with_place own h r place v)
remembers-placed own h r place v all z held here =
    later z.slot z.generation before
  where
    f : Heap
    f = noted_for own h r v

    later : (k e : ℕ) → IsGrownAt f k e → IsGrownAt (with_place own h r place v) k e
    later k e grown y there =
        let found = rewritten-back f r (placing place v) k e y there in
        ⊎_elim {C = is_young y.age ≡ false}
        (λ (same : y ≡ found.0).
        ap (λ (x : Object). is_young x.age) same ∙ grown found.0 found.1)
        (λ (now : y ≡ placing place v found.0).
        ap (λ (x : Object). is_young x.age) now ∙ grown found.0 found.1)
        found.2

    was : (x : Object) → slot_at f held.slot ≡ Occupied held.generation x
        → is_old x.age ≡ true → Among z (filled x.places) → IsGrownAt f z.slot z.generation
    was x there old a =
        recalls-remembers (recalls-noted own h r v) all z
        (record {
          slot = held.slot;
          generation = held.generation;
          holder = x;
          there = there;
          old = old;
          among = a;
        }) here

    -- the object that is written
    written : (x : Object) → slot_at f held.slot ≡ Occupied held.generation x
        → is_old x.age ≡ true → ((held.slot == r.slot) && (held.generation == r.generation)) ≡ true
        → v ≡ Some z → IsGrownAt f z.slot z.generation
    written x there old at new =
        let parts = and_parts (held.slot == r.slot) _ at in
        let slot : held.slot ≡ r.slot = eqb-true _ _ parts.0 in
        let generation : held.generation ≡ r.generation = eqb-true _ _ parts.1 in
        let found = (recalls-noted own h r v).back held.slot held.generation x there old in
        let is : object_at h r ≡ Some found.0 =
        object-there (slot_at h r.slot) r.generation found.0
        (ap (slot_at h) (sym slot) ∙ found.1
        ∙ ap (λ (g : ℕ). Occupied g found.0) generation) in
        subst (λ (w : Option Ref). IsGrownAt (noted_for own h r w) z.slot z.generation) (sym new)
        (noted-grown own h r z (ap is_old_object is ∙ found.2) here)

    before : IsGrownAt f z.slot z.generation
    before =
        let found = rewritten-at f r (placing place v) held.slot held.generation held.holder
        held.there in
        let x : Object = found.0 in
        let here : Bool = (held.slot == r.slot) && (held.generation == r.generation) in
        ⊎_elim {C = IsGrownAt f z.slot z.generation}
        (λ at.
        let same : held.holder ≡ placing place v x = found.2 ∙ cond-true here _ x at in
        let old : is_old x.age ≡ true = subst (λ (y : Object). is_old y.age ≡ true) same held.old in
        ⊎_elim {C = IsGrownAt f z.slot z.generation}
        (λ a. was x found.1 old a)
        (λ new. written x found.1 old at new)
        (filled-set x.places place v z
        (subst (λ (y : Object). Among z (filled y.places)) same held.among)))
        (λ other.
        let same : held.holder ≡ x = found.2 ∙ cond-false here (placing place v x) x other in
        was x found.1 (subst (λ (y : Object). is_old y.age ≡ true) same held.old)
        (subst (λ (y : Object). Among z (filled y.places)) same held.among))
        (cases_Bool here)

-- ---- every step

-- all objects are old
remembers-aged : (own : ℕ) (h : Heap) → Remembers own (aged h)
remembers-aged own h r held here o there =
    let found = aged-back h r.slot r.generation o there in
    ap (λ (z : Object). is_young z.age) found.2

abbrev Keeps : LocalState → Work → Type 0
Keeps p w = Remembers p.own p.heap → Remembers w.local.own w.local.heap

-- only slots are read
remembers-same : {own : ℕ} {h g : Heap} → g.slots ≡ h.slots → Remembers own h → Remembers own g
remembers-same {own = own} {h = h} {g = g} same all =
    recalls-remembers (record {
      back = λ k e y there old. (y, at k ∙ there, old, refl);
      grown = λ k e grown y there. grown y (at k ∙ there);
    }) all
  where
    at : (k : ℕ) → slot_at h k ≡ slot_at g k
    at k = ap (λ (z : List Slot). get_or z k Retired) (sym same)

keeps-collects : Collects Keeps
unfolding see_to enter append announce
keeps-collects = record {
  rest = λ p all. all;
  both = λ p w f first second all. second (first all);
  sees = λ due rs p all.
      recalls-remembers
      (recalls-all_grey p.own p.phases.cycle p.heap (cond (is_open p) rs [])) all;
  enters = λ p cycle later all. all;
  rings = λ p r all. all;
  ends = λ p all. all;
  hears = λ p reports all. all;
  scans = λ p all. remembers-same refl all;
  sends = λ to b p idle all. all;
  tells = λ b p idle all. all;
}

keeps-rewritten : (p : LocalState) (r : Ref) (f : Object → Object) → KeepsAge f
    → Keeps p (at_rest (record p { heap = with_rewritten p.heap r f }))
keeps-rewritten p r f keeps all = recalls-remembers (recalls-rewritten p.heap r f keeps) all

keeps-walks : Walks (λ p. FreeSlots p.heap.slots p.heap.free × NamesPast p.own p.heap) Keeps
unfolding append
keeps-walks = record {
  moves = record {
    collects = keeps-collects;
    roots = λ p registers letters all. remembers-same refl all;
    rewrites = λ p r f quiet. keeps-rewritten p r f (age-kept quiet.places quiet.age);
    places = λ p r place v. remembers-placed p.own p.heap r place v;
    makes = λ p register places ready all.
        remembers-same refl
        (remembers-object p.own (not p.shape.wide) p.phases.cycle places p.heap ready all);
    gives = λ to b p carries.
        post-walks keeps-collects
        (λ q r. keeps-rewritten q r sharing (age-kept (λ o. refl) (λ o. refl))) to b p (λ all. all);
  };
  frees = record {
    sweeps = λ p count all.
        recalls-remembers
        (recalls-freed (freed-some (λ _. is_garbage p.phases.cycle) (garbage-test p.phases.cycle)
        p.phases.cursor (looked_at p count) (record { heap = p.heap; freed = 0 }))) all;
    reclaims = λ p scope all. remembers-aged p.own (freed_within scope p.own p.heap);
  };
}

-- ---- cuts

-- what its objects name was given out
names-past : {c : Cut} {i : ℕ} → Outside c → (c i).local.own ≡ i
    → NamesPast (c i).local.own (c i).local.heap
names-past {c} {i} out own r held here =
    let heap = (out.part i).heap in
    let near : Near c i r =
    filled-all (Near c i) held.holder.places
    (heap.places held.slot held.generation held.holder held.there
    (heap.marks held.slot held.generation held.holder held.there (omega arith))) r held.among in
    subst (λ (n : ℕ). PastAt (c n).local.heap r.slot r.generation) (here ∙ own) near.past

taken-keeps : (p : LocalState) (from number stamp : ℕ) (b : Body)
    → Keeps p (work_in (taken_in p from number stamp b))
unfolding taken_in settled count_in
taken-keeps p from number stamp b = taken-walks keeps-walks p from stamp b

pub plain-recalled : {shape : Shaped} {c d : Cut} → PlainStep c d → Inv shape c → Outside c
    → Recalled c → Recalled d
plain-recalled {c = c} {d = d} (acts i e s a own answered becomes) inv out all =
    let p : LocalState = (c i).local in
    let counts : List ℕ = map length (c i).sent in
    let found = act-ok (c i) e s a answered in
    let inside = inside-where i (λ z. AllPass (tests z.local e)) inv.base found.passed
    (no-node-refuses e own) in
    at_becomes (λ j (z : NodeState). Remembers z.local.own z.local.heap) becomes
    (subst (λ (z : NodeState). Remembers z.local.own z.local.heap) (sym found.state)
    (own-walks keeps-walks p counts e own
    ((inv.tidy i).free, names-past out (inv.base.own i inside)) (all i)))
    (λ j _. all j)
plain-recalled {shape = shape} {c = c} {d = d} (delivers from to x s a flight answered becomes) inv
    out all =
    by (receipt-cases (c to) (first_in_flight c from to x) s a answered)
  where
    by : Receipt (c to) (first_in_flight c from to x) s a → Recalled d
    by (repeated same says) =
        subst (λ (z : Cut). Recalled z)
        (sym (fun_ext (at_becomes (λ j z. z ≡ c j) becomes same (λ j _. refl)))) all
    by (next turn may found) =
        at_becomes (λ j (z : NodeState). Remembers z.local.own z.local.heap) becomes
        (subst (λ (z : NodeState). Remembers z.local.own z.local.heap) (sym found.state)
        (taken-keeps (c to).local from (taken c from to + 1) x.stamp x.body (all to)))
        (λ j _. all j)

pub new-recalled : (shape : Shaped) (choice : ℕ → Bool) → Recalled (cut (new_world shape) choice)
new-recalled shape choice i =
    at-new shape choice i (λ s. Remembers s.local.own s.local.heap)
    (λ z own r held here o there. absurd cc)
