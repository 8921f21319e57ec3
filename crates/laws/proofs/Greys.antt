-- How slots change as objects turn grey.
use Rattle.std.proofs.Common.{◌≡◌, ◌≢◌, ℕ, ◌⊎◌, true, false, cond, ◌==◌, List, [], ◌∷◌, ◌++◌, Option, refl, sym, ap, ◌∙◌, subst, ⊎_elim, inl, inr, get_or-set_same, append-nil, append_assoc}
use Rattle.model.specs.declared.event.Letter.{Letter}
use Rattle.std.proofs.lemmas.Bool.{cases_Bool, cond_both, cond-true, cond-false, eqb-true, eq-eqb, not-false}
use Rattle.ids.specs.declared.names.Ref.{Ref}
use Rattle.model.specs.State.{Object, Slot, Occupied, Retired, Heap, slot_at}
use Rattle.model.specs.Heaps.{rewritten, with_rewritten, object_at}
use Rattle.model.specs.Shading.{is_unmarked, with_mark, make_grey, make_all_grey}
use Rattle.model.specs.Cuts.{Among}
use Rattle.model.proofs.Lookups.{at_set_if}
use Rattle.model.proofs.Slots.{found-object, object-there, occupied-within, unmarked-there}
use Rattle.laws.proofs.Lookups.{among-append_left, among-append_right}
use Rattle.laws.proofs.Inner.{StaysIn}
use Rattle.laws.proofs.Slots.{Rewrites, rewritten-rewrites}

-- the object y was there before, or has now been marked and is grey
pub data Turned (P : Ref → Type 0) (own cycle : ℕ) (h g : Heap) (k e : ℕ) (y : Object) : Type 0
  where
    as_was : slot_at h k ≡ Occupied e y → Turned P own cycle h g k e y
    turned : (x : Object) → slot_at h k ≡ Occupied e x → x.mark ≢ cycle → y.mark ≡ cycle
        → y.places ≡ x.places → Among k g.grey
        → P (record { node = own; slot = k; generation = e }) → Turned P own cycle h g k e y

pub record Greys (P : Ref → Type 0) (own cycle : ℕ) (h g : Heap) : Type 0 where
  pub rewrites : Rewrites cycle h g
  pub registers : g.registers ≡ h.registers
  pub letters : g.letters ≡ h.letters
  pub grows : (k : ℕ) → Among k h.grey → Among k g.grey
  pub back : (k e : ℕ) (y : Object) → slot_at g k ≡ Occupied e y → Turned P own cycle h g k e y

pub stays-through : {t u : Slot} {cycle g : ℕ} {x : Object} (a : StaysIn t cycle g x)
    → StaysIn u cycle g a.object → StaysIn u cycle g x
stays-through {cycle = cycle} {x = x} a b = record {
  object = b.object;
  there = b.there;
  mark = ⊎_elim {C = (b.object.mark ≡ x.mark) ⊎ (b.object.mark ≡ cycle)}
      (λ same. ⊎_elim {C = (b.object.mark ≡ x.mark) ⊎ (b.object.mark ≡ cycle)}
      (λ first. inl (same ∙ first)) (λ first. inr (same ∙ first)) a.mark)
      (λ now. inr now) b.mark;
}

greys-refl : (P : Ref → Type 0) (own cycle : ℕ) (h : Heap) → Greys P own cycle h h
greys-refl P own cycle h = record {
  rewrites = record {
    free = refl;
    width = refl;
    lasting = λ k e x there. record { object = x; there = there; mark = inl refl };
    idle = λ k free. free;
  };
  registers = refl;
  letters = refl;
  grows = λ k a. a;
  back = λ k e y there. as_was there;
}

turned-later : {P : Ref → Type 0} {own cycle : ℕ} {h f g : Heap} (k e : ℕ) (y : Object)
    → Greys P own cycle f g → Turned P own cycle h f k e y → Turned P own cycle h g k e y
turned-later k e y b (as_was there) = as_was there
turned-later k e y b (turned x there white mark places grey is) =
    turned x there white mark places (b.grows k grey) is

turned-twice : {P : Ref → Type 0} {own cycle : ℕ} {h f g : Heap} (k e : ℕ) (y : Object)
    → Greys P own cycle h f → Greys P own cycle f g → Turned P own cycle f g k e y
    → Turned P own cycle h g k e y
turned-twice k e y a b (as_was there) = turned-later k e y b (a.back k e y there)
turned-twice {P = P} {own = own} {cycle = cycle} {h = h} {f = f} {g = g} k e y a b
    (turned x there white mark places grey is) = again (a.back k e x there)
  where
    again : Turned P own cycle h f k e x → Turned P own cycle h g k e y
    again (as_was before) = turned x before white mark places grey is
    again (turned z before w m p gr i) = absurd (white m)

greys-through : {P : Ref → Type 0} {own cycle : ℕ} {h f g : Heap} → Greys P own cycle h f
    → Greys P own cycle f g → Greys P own cycle h g
greys-through {cycle = cycle} {h = h} {f = f} {g = g} a b = record {
  rewrites = record {
    free = b.rewrites.free ∙ a.rewrites.free;
    width = b.rewrites.width ∙ a.rewrites.width;
    lasting = λ k e x there.
        let first = a.rewrites.lasting k e x there in
        stays-through first
        (b.rewrites.lasting k e first.object first.there);
    idle = λ k free. b.rewrites.idle k (a.rewrites.idle k free);
  };
  registers = b.registers ∙ a.registers;
  letters = b.letters ∙ a.letters;
  grows = λ k x. b.grows k (a.grows k x);
  back = λ k e y there. turned-twice k e y a b (b.back k e y there);
}

greys-one : (P : Ref → Type 0) (own cycle : ℕ) (h : Heap) (r : Ref) → r.node ≡ own → P r
    → Greys P own cycle h (make_grey cycle h r)
unfolding make_grey
greys-one P own cycle h r here is =
    cond_both (is_unmarked cycle (object_at h r))
    (record (with_rewritten h r (with_mark cycle)) { grey = h.grey ++ r.slot ∷ [] }) h
    (Greys P own cycle h)
    (λ unmarked.
    let found = unmarked-there cycle (object_at h r) unmarked in
    let slot : slot_at h r.slot ≡ Occupied r.generation found.0 =
    found-object h r found.0 found.1 in
    let rewrites = rewritten-rewrites cycle h r (with_mark cycle) (λ x. inr refl) in
    record {
      rewrites = record {
        free = rewrites.free;
        width = rewrites.width;
        lasting = rewrites.lasting;
        idle = rewrites.idle;
      };
      registers = refl;
      letters = refl;
      grows = λ k a. among-append_left k h.grey (r.slot ∷ []) a;
      back = λ k e y.
          at_set_if (λ z. z ≡ Occupied e y → Turned P own cycle h
          (record (with_rewritten h r (with_mark cycle)) { grey = h.grey ++ r.slot ∷ [] }) k e y)
          h.slots r.slot k (rewritten (with_mark cycle) r.generation (slot_at h r.slot)) Retired
          (λ (at : r.slot ≡ k) made.
          let marked : Occupied r.generation (with_mark cycle found.0) ≡ Occupied e y =
          sym (ap (rewritten (with_mark cycle) r.generation) slot
          ∙ ap (Occupied r.generation) (cond-true (r.generation == r.generation)
          (with_mark cycle found.0) found.0 (eq-eqb _ _ refl))) ∙ made in
          let generation : r.generation ≡ e = cc in
          let object : with_mark cycle found.0 ≡ y = cc in
          turned found.0
          (ap (slot_at h) (sym at) ∙ slot ∙ ap (λ (n : ℕ). Occupied n found.0) generation)
          found.2
          (ap (λ (z : Object). z.mark) (sym object))
          (ap (λ (z : Object). z.places) (sym object))
          (among-append_right k h.grey (r.slot ∷ []) (inl (sym at)))
          (subst (λ (n : ℕ). P (record { node = n; slot = k; generation = e })) here
          (subst (λ (n : ℕ). P (record { node = r.node; slot = n; generation = e })) at
          (subst (λ (n : ℕ). P (record { node = r.node; slot = r.slot; generation = n })) generation
          is))))
          (λ there. as_was there);
    })
    (λ _. greys-refl P own cycle h)

pub greys-all : (P : Ref → Type 0) (own cycle : ℕ) (h : Heap) (rs : List Ref)
    → ((r : Ref) → Among r rs → P r) → Greys P own cycle h (make_all_grey own cycle h rs)
greys-all P own cycle h [] all = greys-refl P own cycle h
greys-all P own cycle h (r ∷ rs) all =
    greys-through
    (cond_both (r.node == own) (make_grey cycle h r) h (Greys P own cycle h)
    (λ here. greys-one P own cycle h r (eqb-true r.node own here) (all r (inl refl)))
    (λ _. greys-refl P own cycle h))
    (greys-all P own cycle (cond (r.node == own) (make_grey cycle h r) h) rs (λ s a. all s (inr a)))

-- a slot's object that is marked
pub record IsMarked (h : Heap) (cycle : ℕ) (r : Ref) : Type 0 where
  pub object : Object
  pub there : slot_at h r.slot ≡ Occupied r.generation object
  pub mark : object.mark ≡ cycle

pub still-is_marked : {P : Ref → Type 0} {own cycle : ℕ} {h g : Heap} (r : Ref)
    → Greys P own cycle h g → IsMarked h cycle r → IsMarked g cycle r
still-is_marked {cycle = cycle} r a m =
    let found = a.rewrites.lasting r.slot r.generation m.object m.there in
    record {
      object = found.object;
      there = found.there;
      mark = ⊎_elim {C = found.object.mark ≡ cycle} (λ same. same ∙ m.mark) (λ now. now) found.mark;
    }

marked-one : (cycle : ℕ) (h : Heap) (r : Ref) (x : Object)
    → slot_at h r.slot ≡ Occupied r.generation x → IsMarked (make_grey cycle h r) cycle r
unfolding make_grey
marked-one cycle h r x there =
    cond_both (is_unmarked cycle (object_at h r))
    (record (with_rewritten h r (with_mark cycle)) { grey = h.grey ++ r.slot ∷ [] }) h
    (λ z. IsMarked z cycle r)
    (λ _. record {
      object = with_mark cycle x;
      there =
          get_or-set_same h.slots r.slot
          (rewritten (with_mark cycle) r.generation (slot_at h r.slot))
          Retired (occupied-within h.slots r.slot r.generation x there)
          ∙ ap (rewritten (with_mark cycle) r.generation) there
          ∙ ap (Occupied r.generation) (cond-true (r.generation == r.generation)
          (with_mark cycle x) x (eq-eqb _ _ refl));
      mark = refl;
    })
    (λ marked. record {
      object = x;
      there = there;
      mark =
          eqb-true x.mark cycle
          (not-false _
          (ap (is_unmarked cycle) (sym (object-there (slot_at h r.slot) r.generation x there))
          ∙ marked));
    })

-- afterwards each of the references that names a live object names a marked one
pub all-marked : {own : ℕ} (cycle : ℕ) (h : Heap) (rs : List Ref) (r : Ref) (x : Object)
    → Among r rs → r.node ≡ own → slot_at h r.slot ≡ Occupied r.generation x
    → IsMarked (make_all_grey own cycle h rs) cycle r
all-marked cycle h [] r x never here there = absurd never
all-marked {own = own} cycle h (s ∷ rs) r x (inl same) here there =
    let mine : (s.node == own) ≡ true =
    eq-eqb s.node own (ap (λ (z : Ref). z.node) (sym same) ∙ here) in
    still-is_marked r
    (greys-all (λ _. Unit {0}) own cycle (cond (s.node == own) (make_grey cycle h s) h) rs
    (λ _ _. tt))
    (subst (λ (z : Heap). IsMarked z cycle r)
    (sym (cond-true (s.node == own) (make_grey cycle h s) h mine))
    (subst (λ (z : Ref). IsMarked (make_grey cycle h z) cycle r) same
    (marked-one cycle h r x there)))
all-marked {own = own} cycle h (s ∷ rs) r x (inr later) here there =
    let first : Greys (λ _. Unit {0}) own cycle h (cond (s.node == own) (make_grey cycle h s) h) =
    cond_both (s.node == own) (make_grey cycle h s) h (Greys (λ _. Unit {0}) own cycle h)
    (λ at. greys-one (λ _. Unit {0}) own cycle h s (eqb-true s.node own at) tt)
    (λ _. greys-refl (λ _. Unit {0}) own cycle h) in
    let found = first.rewrites.lasting r.slot r.generation x there in
    all-marked cycle (cond (s.node == own) (make_grey cycle h s) h) rs r found.object later here
    found.there

-- either nothing changes, or one of the references names an unmarked object
pub record Wakes (own cycle : ℕ) (h : Heap) (rs : List Ref) : Type 0 where
  pub reference : Ref
  pub among : Among reference rs
  pub here : reference.node ≡ own
  pub object : Object
  pub there : slot_at h reference.slot ≡ Occupied reference.generation object
  pub white : object.mark ≢ cycle

wakes-one : (own cycle : ℕ) (h : Heap) (r : Ref)
    → (cond (r.node == own) (make_grey cycle h r) h ≡ h) ⊎ Wakes own cycle h (r ∷ [])
unfolding make_grey
wakes-one own cycle h r = ⊎_elim
    {C = (cond (r.node == own) (make_grey cycle h r) h ≡ h) ⊎ Wakes own cycle h (r ∷ [])}
    (λ here. ⊎_elim
    {C = (cond (r.node == own) (make_grey cycle h r) h ≡ h) ⊎ Wakes own cycle h (r ∷ [])}
    (λ unmarked.
    let found = unmarked-there cycle (object_at h r) unmarked in
    inr (record {
      reference = r;
      among = inl refl;
      here = eqb-true r.node own here;
      object = found.0;
      there = found-object h r found.0 found.1;
      white = found.2;
    }))
    (λ marked.
    inl (cond-true (r.node == own) (make_grey cycle h r) h here
    ∙ cond-false (is_unmarked cycle (object_at h r))
    (record (with_rewritten h r (with_mark cycle)) { grey = h.grey ++ r.slot ∷ [] }) h marked))
    (cases_Bool (is_unmarked cycle (object_at h r))))
    (λ far. inl (cond-false (r.node == own) (make_grey cycle h r) h far))
    (cases_Bool (r.node == own))

pub wakes-any : (own cycle : ℕ) (h : Heap) (rs : List Ref)
    → (make_all_grey own cycle h rs ≡ h) ⊎ Wakes own cycle h rs
wakes-any own cycle h [] = inl refl
wakes-any own cycle h (r ∷ rs) = ⊎_elim
    {C = (make_all_grey own cycle h (r ∷ rs) ≡ h) ⊎ Wakes own cycle h (r ∷ rs)}
    (λ same. ⊎_elim {C = (make_all_grey own cycle h (r ∷ rs) ≡ h) ⊎ Wakes own cycle h (r ∷ rs)}
    (λ rest. inl (ap (λ (z : Heap). make_all_grey own cycle z rs) same ∙ rest))
    (λ w. inr (record {
      reference = w.reference;
      among = inr w.among;
      here = w.here;
      object = w.object;
      there = w.there;
      white = w.white;
    }))
    (wakes-any own cycle h rs))
    (λ w. inr (record {
      reference = w.reference;
      among = ⊎_elim {C = Among w.reference (r ∷ rs)} (λ e. inl e) (λ never. absurd never) w.among;
      here = w.here;
      object = w.object;
      there = w.there;
      white = w.white;
    }))
    (wakes-one own cycle h r)

-- What turns grey depends only on the slots. Registers and letters stay, and the new slots are
-- appended to the grey list.
pub record GreyApart (own cycle : ℕ) (h : Heap) (rs : List Ref) : Type 0 where
  pub new : List ℕ
  pub same : (a : List (Option Ref)) (b : List Letter) (g : List ℕ)
      → make_all_grey own cycle (record h { registers = a; letters = b; grey = g }) rs
      ≡ record (make_all_grey own cycle h rs) { registers = a; letters = b; grey = g ++ new }

one-apart : (own cycle : ℕ) (h : Heap) (r : Ref) → (new : List ℕ)
    × ((a : List (Option Ref)) (b : List Letter) (g : List ℕ)
    → cond (r.node == own)
    (make_grey cycle (record h { registers = a; letters = b; grey = g }) r)
    (record h { registers = a; letters = b; grey = g })
    ≡ record (cond (r.node == own) (make_grey cycle h r) h)
    { registers = a; letters = b; grey = g ++ new })
unfolding make_grey
one-apart own cycle h r =
    by (cases_Bool (r.node == own)) (cases_Bool (is_unmarked cycle (object_at h r)))
  where
    nothing-new : (w : Heap) → w ≡ h → (a : List (Option Ref)) (b : List Letter) (g : List ℕ)
        → record h { registers = a; letters = b; grey = g }
        ≡ record w { registers = a; letters = b; grey = g ++ [] }
    nothing-new w e a b g =
        ap (λ (z : List ℕ). record h { registers = a; letters = b; grey = z }) (sym (append-nil g))
        ∙ ap (λ (z : Heap). record z { registers = a; letters = b; grey = g ++ [] }) (sym e)

    by : ((r.node == own) ≡ true) ⊎ ((r.node == own) ≡ false)
        → (is_unmarked cycle (object_at h r) ≡ true) ⊎ (is_unmarked cycle (object_at h r) ≡ false)
        → (new : List ℕ) × ((a : List (Option Ref)) (b : List Letter) (g : List ℕ)
        → cond (r.node == own)
        (make_grey cycle (record h { registers = a; letters = b; grey = g }) r)
        (record h { registers = a; letters = b; grey = g })
        ≡ record (cond (r.node == own) (make_grey cycle h r) h)
        { registers = a; letters = b; grey = g ++ new })
    by (inr far) _ = (
      [],
      λ a b g.
          cond-false (r.node == own) _ (record h { registers = a; letters = b; grey = g }) far
          ∙ nothing-new (cond (r.node == own) (make_grey cycle h r) h)
          (cond-false (r.node == own) (make_grey cycle h r) h far) a b g,
    )
    by (inl here) (inr marked) = (
      [],
      λ a b g.
          cond-true (r.node == own) _ (record h { registers = a; letters = b; grey = g }) here
          ∙ cond-false (is_unmarked cycle (object_at h r)) _
          (record h { registers = a; letters = b; grey = g }) marked
          ∙ nothing-new (cond (r.node == own) (make_grey cycle h r) h)
          (cond-true (r.node == own) (make_grey cycle h r) h here
          ∙ cond-false (is_unmarked cycle (object_at h r)) _ h marked) a b g,
    )
    by (inl here) (inl white) = (
      r.slot ∷ [],
      λ a b g.
          cond-true (r.node == own) _ (record h { registers = a; letters = b; grey = g }) here
          ∙ cond-true (is_unmarked cycle (object_at h r)) _
          (record h { registers = a; letters = b; grey = g }) white
          ∙ ap (λ (z : Heap). record z { registers = a; letters = b; grey = g ++ r.slot ∷ [] })
          (sym (cond-true (r.node == own) (make_grey cycle h r) h here
          ∙ cond-true (is_unmarked cycle (object_at h r))
          (record (with_rewritten h r (with_mark cycle)) { grey = h.grey ++ r.slot ∷ [] }) h
          white)),
    )

pub grey-apart : (own cycle : ℕ) (h : Heap) (rs : List Ref) → GreyApart own cycle h rs
grey-apart own cycle h [] = record {
  new = [];
  same = λ a b g.
      ap (λ (z : List ℕ). record h { registers = a; letters = b; grey = z }) (sym (append-nil g));
}
grey-apart own cycle h (r ∷ rs) =
    let first = one-apart own cycle h r in
    let rest = grey-apart own cycle (cond (r.node == own) (make_grey cycle h r) h) rs in
    record {
      new = first.0 ++ rest.new;
      same = λ a b g.
          ap (λ (z : Heap). make_all_grey own cycle z rs) (first.1 a b g)
          ∙ rest.same a b (g ++ first.0)
          ∙ ap (λ (z : List ℕ).
          record (make_all_grey own cycle (cond (r.node == own) (make_grey cycle h r) h) rs)
          { registers = a; letters = b; grey = z }) (append_assoc g first.0 rest.new);
    }
