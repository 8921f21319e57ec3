-- Some references are fixed once and for all as good, and so is a cycle `since`, from which on more
-- is required of them. What is good in a node's heap, and that each change of a heap keeps it.
use Rattle.std.proofs.Common.{◌≡◌, ◌≢◌, ℕ, ◌-◌, ◌≤◌, ◌⊎◌, ◌==◌, cond, Bool, false, List, [], ◌∷◌, ◌++◌, length, take, get_or, set, Option, None, refl, sym, ap, ◌∙◌, subst, ⊎_elim, inl, inr, arith, get_or-set_same, get_or-set_other}
use Rattle.std.proofs.lemmas.Bool.{cases_eq, cond_both, cond-true, eq-eqb}
use Rattle.ids.specs.declared.names.Ref.{Ref}
use Rattle.model.specs.State.{Object, Slot, Free, Occupied, Retired, Heap, slot_at}
use Rattle.model.specs.Heaps.{with_register, with_object, new_object, new_reference, rewritten, with_rewritten, with_place, placing, remembering, object_at, place_of, next_slot, generation_for, sharing, share_all}
use Rattle.model.specs.References.{IfAny}
use Rattle.model.specs.Shading.{is_calm, is_unmarked, with_mark, make_grey, make_all_grey, filled, last_grey}
use Rattle.model.specs.Collecting.{places_in}
use Rattle.model.specs.Cuts.{Among}
use Rattle.model.proofs.Lookups.{at_set}
use Rattle.model.proofs.Ages.{noted-keeps}
use Rattle.model.proofs.Slots.{found-object, occupied-within, unmarked-there}
use Rattle.laws.proofs.Lookups.{among-append_left, among-append_right, among-append}
use Rattle.laws.proofs.Invariant.{FreeSlots, RootsAll, PlacesAll}
use Rattle.laws.proofs.Slots.{object-where, no-places, rewritten-back}
use Rattle.laws.proofs.Greys.{Greys, greys-all, Turned, as_was, turned}
use Rattle.laws.proofs.Dressing.{filled-all, option-holds}
use Rattle.laws.proofs.OwnEvents.{place-there}
use Rattle.laws.proofs.Sweeps.{roots-kept, Lessens}
use Rattle.laws.proofs.Cycles.{split-last}

-- the reference of a node's object in a slot
abbrev pub own_reference : ℕ → ℕ → ℕ → Ref
own_reference own k g = record { node = own; slot = k; generation = g }

-- The heap of the node `own`, which is in the cycle `cycle` and has swept `done`. The roots are
-- good, good objects hold only good references, and what was marked in the cycle `since` or later
-- is good.
pub record GoodHeap (G : Ref → Type 0) (since own cycle done : ℕ) (h : Heap) : Type 0 where
  pub roots : RootsAll G h
  pub places : (k g : ℕ) (o : Object) → slot_at h k ≡ Occupied g o → G (own_reference own k g)
      → PlacesAll G o
  pub marks : (k g : ℕ) (o : Object) → slot_at h k ≡ Occupied g o → since ≤ o.mark
      → G (own_reference own k g)
  -- grey objects are marked
  pub grey : (k g : ℕ) (o : Object) → Among k h.grey → slot_at h k ≡ Occupied g o → o.mark ≡ cycle
  -- what the last finished sweep found unmarked is gone
  pub kept : (k g : ℕ) (o : Object) → slot_at h k ≡ Occupied g o → done ≤ o.mark

-- ---- reading

-- what a good object holds
pub read-good : {G : Ref → Type 0} {since own cycle done : ℕ} {h : Heap} (r : Ref) (place : ℕ)
    → GoodHeap G since own cycle done h → r.node ≡ own → G r
    → IfAny G (place_of (object_at h r) place)
read-good {G = G} {h = h} r place good here is =
    option-holds G (place_of (object_at h r) place) (λ v e.
    let found = place-there h r place v e in
    let all : PlacesAll G found.0 =
    good.places r.slot r.generation found.0 found.1
    (subst (λ (z : ℕ). G (own_reference z r.slot r.generation)) here is) in
    subst (IfAny G) found.2 (all place))

-- the grey object that is scanned next
pub last-among : (h : Heap) → is_calm h ≡ false → Among (last_grey h) h.grey
last-among h busy =
    subst (Among (last_grey h)) (sym (split-last h.grey busy))
    (among-append_right (last_grey h) (take (length h.grey - 1) h.grey) (last_grey h ∷ [])
    (inl refl))

pub fewer-among : (h : Heap) → is_calm h ≡ false → (k : ℕ)
    → Among k (take (length h.grey - 1) h.grey) → Among k h.grey
fewer-among h busy k a =
    subst (Among k) (sym (split-last h.grey busy))
    (among-append_left k (take (length h.grey - 1) h.grey) (last_grey h ∷ []) a)

-- what a grey object holds
pub grey-good : {G : Ref → Type 0} {since own cycle done : ℕ} {h : Heap} (k : ℕ)
    → GoodHeap G since own cycle done h → Among k h.grey → since ≤ cycle → (r : Ref)
    → Among r (filled (places_in (slot_at h k))) → G r
grey-good {G = G} {h = h} k good grey there r a = by (slot_at h k) refl a
  where
    by : (s : Slot) → slot_at h k ≡ s → Among r (filled (places_in s)) → G r
    by (Free g) e never = absurd never
    by Retired e never = absurd never
    by (Occupied g o) e among =
        filled-all G o.places
        (good.places k g o e
        (good.marks k g o e (let mark = good.grey k g o grey e in omega (arith, mark, there))))
        r among

-- ---- registers, letters and the grey list

pub heap-rooted : {G : Ref → Type 0} {since own cycle done : ℕ} {h : Heap} (g : Heap)
    → g.slots ≡ h.slots → g.grey ≡ h.grey → RootsAll G g → GoodHeap G since own cycle done h
    → GoodHeap G since own cycle done g
heap-rooted {h = h} g slots grey roots good = record {
  roots = roots;
  places = λ k e o there. good.places k e o (at k there);
  marks = λ k e o there. good.marks k e o (at k there);
  grey = λ k e o a there. good.grey k e o (subst (Among k) grey a) (at k there);
  kept = λ k e o there. good.kept k e o (at k there);
}
  where
    at : {s : Slot} (k : ℕ) → slot_at g k ≡ s → slot_at h k ≡ s
    at k there = ap (λ (z : List Slot). get_or z k Retired) (sym slots) ∙ there

-- a register is written
pub heap-registered : {G : Ref → Type 0} {since own cycle done : ℕ} {h : Heap} (register : ℕ)
    (v : Option Ref) → GoodHeap G since own cycle done h → IfAny G v
    → GoodHeap G since own cycle done (with_register h register v)
heap-registered {G = G} {h = h} register v good is =
    heap-rooted (with_register h register v) refl refl
    (record {
      registers = λ k.
          at_set (IfAny G) h.registers register k v None is (good.roots.registers k);
      letters = good.roots.letters;
    })
    good

pub heap-fewer_grey : {G : Ref → Type 0} {since own cycle done : ℕ} {h : Heap} (less : List ℕ)
    → ((k : ℕ) → Among k less → Among k h.grey) → GoodHeap G since own cycle done h
    → GoodHeap G since own cycle done (record h { grey = less })
heap-fewer_grey less fewer good = record {
  roots = record { registers = good.roots.registers; letters = good.roots.letters };
  places = good.places;
  marks = good.marks;
  grey = λ k g o a. good.grey k g o (fewer k a);
  kept = good.kept;
}

-- the node moves to another cycle while no object is grey
pub heap-entered : {G : Ref → Type 0} {since own cycle done : ℕ} {h : Heap} (next : ℕ) → h.grey ≡ []
    → GoodHeap G since own cycle done h → GoodHeap G since own next done h
heap-entered next calm good = record {
  roots = good.roots;
  places = good.places;
  marks = good.marks;
  grey = λ k g o a. absurd (subst (Among k) calm a);
  kept = good.kept;
}

-- ---- objects

-- an object is rewritten: its mark stays, and what it holds stays good
pub record GoodRewriting (G : Ref → Type 0) (f : Object → Object) : Type 0 where
  pub mark : (o : Object) → (f o).mark ≡ o.mark
  pub places : (o : Object) → PlacesAll G o → PlacesAll G (f o)

pub heap-rewritten : {G : Ref → Type 0} {since own cycle done : ℕ} {h : Heap} (r : Ref)
    (f : Object → Object) → GoodRewriting G f → GoodHeap G since own cycle done h
    → GoodHeap G since own cycle done (with_rewritten h r f)
heap-rewritten {G = G} {since = since} {own = own} {cycle = cycle} {done = done} {h = h} r f writes
    good =
    record {
      roots = record { registers = good.roots.registers; letters = good.roots.letters };
      places = λ k e y there is.
          (let x = rewritten-back h r f k e y there in
          let all : PlacesAll G x.0 = good.places k e x.0 x.1 is in
          ⊎_elim {C = PlacesAll G y}
          (λ (same : y ≡ x.0). subst (PlacesAll G) (sym same) all)
          (λ (now : y ≡ f x.0). subst (PlacesAll G) (sym now) (writes.places x.0 all))
          x.2);
      marks = λ k e y there more.
          (let x = rewritten-back h r f k e y there in
          good.marks k e x.0 x.1
          (subst (λ (z : ℕ). since ≤ z) (mark y x.0 x.2) more));
      grey = λ k e y a there.
          (let x = rewritten-back h r f k e y there in
          mark y x.0 x.2 ∙ good.grey k e x.0 a x.1);
      kept = λ k e y there.
          (let x = rewritten-back h r f k e y there in
          subst (λ (z : ℕ). done ≤ z) (sym (mark y x.0 x.2)) (good.kept k e x.0 x.1));
    }
  where
    mark : (y x : Object) → (y ≡ x) ⊎ (y ≡ f x) → y.mark ≡ x.mark
    mark y x (inl same) = ap (λ (z : Object). z.mark) same
    mark y x (inr now) = ap (λ (z : Object). z.mark) now ∙ writes.mark x

-- a place gets a good reference, or nothing
place-good : {G : Ref → Type 0} (place : ℕ) (v : Option Ref) → IfAny G v
    → GoodRewriting G (λ o. record o { places = set o.places place v })
place-good {G = G} place v is = record {
  mark = λ o. refl;
  places = λ o all j. at_set (IfAny G) o.places place j v None is (all j);
}

pub word-good : {G : Ref → Type 0} (word : ℕ) → GoodRewriting G (λ o. record o { word = word })
word-good word = record { mark = λ o. refl; places = λ o all. all }

pub bytes-good : {G : Ref → Type 0} (f : List ℕ → List ℕ)
    → GoodRewriting G (λ o. record o { bytes = f o.bytes })
bytes-good f = record { mark = λ o. refl; places = λ o all. all }

-- a place of an object is written
pub heap-placed : {G : Ref → Type 0} {since own cycle done : ℕ} {h : Heap} (node : ℕ) (r : Ref)
    (place : ℕ) (v : Option Ref) → IfAny G v → GoodHeap G since own cycle done h
    → GoodHeap G since own cycle done (with_place node h r place v)
heap-placed {G = G} {since = since} {own = own} {cycle = cycle} {done = done} {h = h} node r place v
    is good =
    heap-rewritten r (placing place v) (place-good place v is)
    (noted-keeps (GoodHeap G since own cycle done) node h r v
    (λ z.
    heap-rewritten z remembering (record { mark = λ o. refl; places = λ o all. all }) good)
    good)

-- objects become shared
pub heap-shared : {G : Ref → Type 0} {since own cycle done : ℕ} (node : ℕ) (rs : List Ref)
    {h : Heap} → GoodHeap G since own cycle done h
    → GoodHeap G since own cycle done (share_all node h rs)
heap-shared node [] good = good
heap-shared {G = G} {since = since} {own = own} {cycle = cycle} {done = done} node (r ∷ rs) {h = h}
    good =
    heap-shared node rs
    (cond_both (r.node == node) (with_rewritten h r sharing) h (GoodHeap G since own cycle done)
    (λ _. heap-rewritten r sharing (record { mark = λ o. refl; places = λ o all. all }) good)
    (λ _. good))

-- a new object, whose reference is good
pub heap-object : {G : Ref → Type 0} {since own cycle done : ℕ} {h : Heap} (shared : Bool)
    (places : ℕ) → FreeSlots h.slots h.free → done ≤ cycle → G (new_reference own h)
    → GoodHeap G since own cycle done h
    → GoodHeap G since own cycle done (with_object h (new_object shared cycle places))
heap-object {G = G} {since = since} {own = own} {cycle = cycle} {done = done} {h = h} shared places
    f older new good =
    record {
      roots = record { registers = good.roots.registers; letters = good.roots.letters };
      places = λ k e y there is.
          ⊎_elim {C = PlacesAll G y}
          (λ was. good.places k e y was is)
          (λ now j.
          subst (λ (z : Object). IfAny G (get_or z.places j None)) (sym now.2)
          (subst (IfAny G) (sym (no-places places j)) tt))
          (from k e y there);
      marks = λ k e y there more.
          ⊎_elim {C = G (own_reference own k e)}
          (λ was. good.marks k e y was more)
          (λ now.
          subst (λ (z : ℕ). G (own_reference own z e)) (sym now.0)
          (subst (λ (z : ℕ). G (own_reference own (next_slot h.free h.slots) z)) (sym now.1) new))
          (from k e y there);
      grey = λ k e y a there.
          ⊎_elim {C = y.mark ≡ cycle}
          (λ was. good.grey k e y a was)
          (λ now. ap (λ (z : Object). z.mark) now.2)
          (from k e y there);
      kept = λ k e y there.
          ⊎_elim {C = done ≤ y.mark}
          (λ was. good.kept k e y was)
          (λ now. subst (λ (z : Object). done ≤ z.mark) (sym now.2) older)
          (from k e y there);
    }
  where
    from : (k e : ℕ) (y : Object)
        → slot_at (with_object h (new_object shared cycle places)) k ≡ Occupied e y
        → (slot_at h k ≡ Occupied e y)
        ⊎ ((k ≡ next_slot h.free h.slots) × (e ≡ generation_for h.free h.slots)
        × (y ≡ new_object shared cycle places))
    from k e y there = object-where h.free h.slots (new_object shared cycle places) f k e y there

-- ---- objects turn grey

abbrev GreyMarked : ℕ → Heap → Type 0
GreyMarked cycle h =
    (k g : ℕ) (o : Object) → Among k h.grey → slot_at h k ≡ Occupied g o → o.mark ≡ cycle

grey-one : (cycle : ℕ) (h : Heap) (r : Ref) → GreyMarked cycle h
    → GreyMarked cycle (make_grey cycle h r)
unfolding make_grey
grey-one cycle h r all =
    cond_both (is_unmarked cycle (object_at h r))
    (record (with_rewritten h r (with_mark cycle)) { grey = h.grey ++ r.slot ∷ [] }) h
    (GreyMarked cycle)
    (λ unmarked k g o a there.
    let found = unmarked-there cycle (object_at h r) unmarked in
    let slot : slot_at h r.slot ≡ Occupied r.generation found.0 =
    found-object h r found.0 found.1 in
    let here : Slot = rewritten (with_mark cycle) r.generation (slot_at h r.slot) in
    ⊎_elim {C = o.mark ≡ cycle}
    (λ (at : k ≡ r.slot).
    let now : here ≡ Occupied r.generation (with_mark cycle found.0) =
    ap (rewritten (with_mark cycle) r.generation) slot
    ∙ ap (Occupied r.generation) (cond-true (r.generation == r.generation)
    (with_mark cycle found.0) found.0 (eq-eqb _ _ refl)) in
    let placed : get_or (set h.slots r.slot here) r.slot Retired ≡ here =
    get_or-set_same h.slots r.slot here Retired
    (occupied-within h.slots r.slot r.generation found.0 slot) in
    let both : Occupied r.generation (with_mark cycle found.0) ≡ Occupied g o =
    sym (ap (λ (z : ℕ). get_or (set h.slots r.slot here) z Retired) at ∙ placed ∙ now) ∙ there in
    let object : with_mark cycle found.0 ≡ o = cc in
    ap (λ (z : Object). z.mark) (sym object))
    (λ (other : k ≢ r.slot).
    all k g o
    (⊎_elim {C = Among k h.grey} (λ b. b)
    (λ last. ⊎_elim {C = Among k h.grey} (λ (e : k ≡ r.slot). absurd (other e))
    (λ never. absurd never) last)
    (among-append k h.grey (r.slot ∷ []) a))
    (sym (get_or-set_other h.slots r.slot k here Retired other) ∙ there))
    (cases_eq k r.slot))
    (λ _. all)

grey-all : (own cycle : ℕ) (h : Heap) (rs : List Ref) → GreyMarked cycle h
    → GreyMarked cycle (make_all_grey own cycle h rs)
grey-all own cycle h [] all = all
grey-all own cycle h (r ∷ rs) all =
    grey-all own cycle (cond (r.node == own) (make_grey cycle h r) h) rs
    (cond_both (r.node == own) (make_grey cycle h r) h (GreyMarked cycle)
    (λ _. grey-one cycle h r all) (λ _. all))

-- turns references grey that are good if the node has reached the cycle `since`
pub heap-greyed : {G : Ref → Type 0} {since own cycle done : ℕ} {h : Heap} (rs : List Ref)
    → done ≤ cycle → (since ≤ cycle → (r : Ref) → Among r rs → G r)
    → GoodHeap G since own cycle done h
    → GoodHeap G since own cycle done (make_all_grey own cycle h rs)
heap-greyed {G = G} {since = since} {own = own} {cycle = cycle} {done = done} {h = h} rs older
    brought good =
    let greys : Greys (λ r. Among r rs) own cycle h (make_all_grey own cycle h rs) =
    greys-all (λ r. Among r rs) own cycle h rs (λ r a. a) in
    record {
      roots = roots-kept G greys.registers greys.letters good.roots;
      places = λ k e y there. places k e y (greys.back k e y there);
      marks = λ k e y there. marks k e y (greys.back k e y there);
      grey = grey-all own cycle h rs good.grey;
      kept = λ k e y there. kept k e y (greys.back k e y there);
    }
  where
    Was : ℕ → ℕ → Object → Type 0
    Was = Turned (λ r. Among r rs) own cycle h (make_all_grey own cycle h rs)

    places : (k e : ℕ) (y : Object) → Was k e y → G (own_reference own k e) → PlacesAll G y
    places k e y (as_was was) is = good.places k e y was is
    places k e y (turned x was white mark same grey a) is =
        subst (λ (z : List (Option Ref)). (j : ℕ) → IfAny G (get_or z j None)) (sym same)
        (good.places k e x was is)

    marks : (k e : ℕ) (y : Object) → Was k e y → since ≤ y.mark → G (own_reference own k e)
    marks k e y (as_was was) more = good.marks k e y was more
    marks k e y (turned x was white mark same grey a) more =
        brought (omega (arith, mark, more)) (own_reference own k e) a

    kept : (k e : ℕ) (y : Object) → Was k e y → done ≤ y.mark
    kept k e y (as_was was) = good.kept k e y was
    kept k e y (turned x was white mark same grey a) = omega (arith, mark, older)

-- ---- objects are freed

pub heap-less : {G : Ref → Type 0} {since own cycle done : ℕ} {h g : Heap} (now : ℕ)
    → Lessens h g → ((k e : ℕ) (y : Object) → slot_at g k ≡ Occupied e y → now ≤ y.mark)
    → GoodHeap G since own cycle done h → GoodHeap G since own cycle now g
heap-less {G = G} {since = since} now less kept good = record {
  roots = roots-kept G less.registers less.letters good.roots;
  places = λ k e y there is.
      (let x = less.left k e y there in
      subst (PlacesAll G) (sym x.2) (good.places k e x.0 x.1 is));
  marks = λ k e y there more.
      (let x = less.left k e y there in
      good.marks k e x.0 x.1 (subst (λ (z : Object). since ≤ z.mark) x.2 more));
  grey = λ k e y a there.
      (let x = less.left k e y there in
      ap (λ (z : Object). z.mark) x.2 ∙ good.grey k e x.0 (less.grey k a) x.1);
  kept = kept;
}
