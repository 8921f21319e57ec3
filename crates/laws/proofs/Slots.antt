-- How slots change as an object is made or rewritten.
use Rattle.std.proofs.Common.{◌≡◌, ◌≢◌, ℕ, zero, suc, ◌<◌, ◌≤◌, ◌⊎◌, ◌||◌, ◌&&◌, Bool, true, false, cond, ◌==◌, eqb, List, [], ◌∷◌, ◌++◌, length, length-set, length-append, get_or, set, drop, replicate, Option, None, refl, sym, ap, ◌∙◌, subst, ⊎_elim, inl, inr, arith, get_or-set_same, get_or-set_other, ltb, ltb-true}
use Rattle.std.specs.List.{AllByRecursion}
use Rattle.std.proofs.lemmas.Bool.{cases_lt, cases_eq, cond_both, eqb-false, eq-eqb, ne_eqb}
use Rattle.std.proofs.lemmas.List.{get_or_past, get_or_push, get_or_append_left}
use Rattle.std.proofs.lemmas.Map.Keys.{IsDistinct-head, IsDistinct-tail}
use Rattle.ids.specs.declared.names.Ref.{Ref}
use Rattle.model.specs.State.{Object, Slot, Free, Occupied, Retired, Heap, slot_at}
use Rattle.model.specs.Heaps.{rewritten, with_rewritten, slots_with, next_slot, next_generation, generation_for, sharing, share_all}
use Rattle.model.proofs.Lookups.{all-map, at_set_if, at_push}
use Rattle.model.proofs.Slots.{slot-within, occupied-within}
use Rattle.laws.proofs.Invariant.{IsFree, FreeSlots}
use Rattle.laws.proofs.Inner.{StaysIn}

free-within : (slots : List Slot) (k : ℕ) → IsFree (get_or slots k Retired) → k < length slots
free-within slots k f =
    slot-within slots k (λ (e : get_or slots k Retired ≡ Retired).
    absurd (let both : IsFree Retired = subst IsFree e f in cc))

-- ---- a new object

pub object-lasts : (named : List ℕ) (slots : List Slot) (o : Object) → FreeSlots slots named
    → (k g : ℕ) (x : Object) → get_or slots k Retired ≡ Occupied g x
    → get_or (slots_with named slots o) k Retired ≡ Occupied g x
object-lasts [] slots o f k g x there =
    get_or_append_left slots (Occupied 1 o ∷ []) Retired k (occupied-within slots k g x there)
    ∙ there
object-lasts (j ∷ js) slots o f k g x there =
    at_set_if (λ z. z ≡ Occupied g x) slots j k
    (Occupied (next_generation (get_or slots j Retired)) o) Retired
    (λ (e : j ≡ k).
    absurd (let both : IsFree (Occupied g x) =
    subst IsFree (ap (λ (n : ℕ). get_or slots n Retired) e ∙ there) f.free.0 in
    cc))
    there

-- an object afterwards was there before, or is the new one
pub object-from : (named : List ℕ) (slots : List Slot) (o : Object) (k g : ℕ) (y : Object)
    → get_or (slots_with named slots o) k Retired ≡ Occupied g y
    → (get_or slots k Retired ≡ Occupied g y) ⊎ (y ≡ o)
object-from [] slots o k g y =
    at_push (λ z. z ≡ Occupied g y → (get_or slots k Retired ≡ Occupied g y) ⊎ (y ≡ o)) slots k
    (Occupied 1 o) Retired (λ e. inr (let s : o ≡ y = cc in sym s)) (λ never. absurd cc)
    (λ there. inl there)
object-from (j ∷ js) slots o k g y =
    at_set_if (λ z. z ≡ Occupied g y → (get_or slots k Retired ≡ Occupied g y) ⊎ (y ≡ o)) slots j k
    (Occupied (next_generation (get_or slots j Retired)) o) Retired
    (λ _ e. inr (let s : o ≡ y = cc in sym s)) (λ there. inl there)

pub still-free : (slots : List Slot) (j : ℕ) (s : Slot) (ks : List ℕ)
    → AllByRecursion (λ k. IsFree (get_or slots k Retired)) ks
    → AllByRecursion (λ k. eqb j k ≡ false) ks
    → AllByRecursion (λ k. IsFree (get_or (set slots j s) k Retired)) ks
still-free slots j s [] all apart = tt
still-free slots j s (k ∷ ks) all apart = (
  at_set_if IsFree slots j k s Retired (λ e. absurd (eqb-false j k apart.0 e)) all.0,
  still-free slots j s ks all.1 apart.1,
)

pub object-free : (named : List ℕ) (slots : List Slot) (o : Object) → FreeSlots slots named
    → FreeSlots (slots_with named slots o) (drop 1 named)
object-free [] slots o f = record { free = tt; once = f.once }
object-free (j ∷ js) slots o f = record {
  free = still-free slots j (Occupied (next_generation (get_or slots j Retired)) o) js f.free.1
      (IsDistinct-head eqb j js f.once);
  once = IsDistinct-tail eqb j js f.once;
}

pub object-placed : (named : List ℕ) (slots : List Slot) (o : Object) → FreeSlots slots named
    → get_or (slots_with named slots o) (next_slot named slots) Retired
    ≡ Occupied (generation_for named slots) o
object-placed [] slots o f = get_or_push slots (Occupied 1 o) Retired (length slots) refl
object-placed (j ∷ js) slots o f =
    get_or-set_same slots j (Occupied (next_generation (get_or slots j Retired)) o) Retired
    (free-within slots j f.free.0)

pub object-room : (named : List ℕ) (slots : List Slot) (o : Object) (limit : ℕ)
    → (ltb 0 (length named) || ltb (length slots) limit) ≡ true → length slots ≤ limit
    → length (slots_with named slots o) ≤ limit
object-room [] slots o limit room within =
    let below : length slots < limit = ltb-true (length slots) limit room in
    omega (arith, below, length-append slots (Occupied 1 o ∷ []))
object-room (k ∷ free) slots o limit room within =
    omega
    (arith, within, length-set slots k (Occupied (next_generation (get_or slots k Retired)) o))

-- elsewhere nothing changes
object-elsewhere : (named : List ℕ) (slots : List Slot) (o : Object) (k : ℕ)
    → k ≢ next_slot named slots
    → get_or (slots_with named slots o) k Retired ≡ get_or slots k Retired
object-elsewhere [] slots o k other =
    ⊎_elim {C = get_or (slots ++ Occupied 1 o ∷ []) k Retired ≡ get_or slots k Retired}
    (λ (below : k < length slots). get_or_append_left slots (Occupied 1 o ∷ []) Retired k below)
    (λ (past : length slots ≤ k).
    get_or_past (slots ++ Occupied 1 o ∷ []) k Retired
    (omega (arith, past, other, length-append slots (Occupied 1 o ∷ [])))
    ∙ sym (get_or_past slots k Retired past))
    (cases_lt k (length slots))
object-elsewhere (j ∷ js) slots o k other =
    get_or-set_other slots j k (Occupied (next_generation (get_or slots j Retired)) o) Retired other

-- an object afterwards was there before, or is the new one in its slot
pub object-where : (named : List ℕ) (slots : List Slot) (o : Object) → FreeSlots slots named
    → (k g : ℕ) (y : Object) → get_or (slots_with named slots o) k Retired ≡ Occupied g y
    → (get_or slots k Retired ≡ Occupied g y)
    ⊎ ((k ≡ next_slot named slots) × (g ≡ generation_for named slots) × (y ≡ o))
object-where named slots o f k g y there =
    ⊎_elim {C = (get_or slots k Retired ≡ Occupied g y)
    ⊎ ((k ≡ next_slot named slots) × (g ≡ generation_for named slots) × (y ≡ o))}
    (λ (here : k ≡ next_slot named slots).
    let both : Occupied (generation_for named slots) o ≡ Occupied g y =
    sym (ap (λ (z : ℕ). get_or (slots_with named slots o) z Retired) here
    ∙ object-placed named slots o f) ∙ there in
    let generation : generation_for named slots ≡ g = cc in
    let object : o ≡ y = cc in
    inr (here, sym generation, sym object))
    (λ (other : k ≢ next_slot named slots).
    inl (sym (object-elsewhere named slots o k other) ∙ there))
    (cases_eq k (next_slot named slots))

pub no-places : (n j : ℕ) → ◌≡◌ {A = Option Ref} (get_or (replicate n None) j None) None
no-places zero j = refl
no-places (suc n) zero = refl
no-places (suc n) (suc j) = no-places n j

-- ---- an object is rewritten

-- the object of that generation is the rewritten one
rewritten-from : (f : Object → Object) (generation : ℕ) (s : Slot) (g : ℕ) (y : Object)
    → rewritten f generation s ≡ Occupied g y
    → (x : Object) × (s ≡ Occupied g x) × (y ≡ cond (g == generation) (f x) x)
rewritten-from f generation (Free n) g y h = absurd cc
rewritten-from f generation (Occupied n x) g y h =
    let same : cond (n == generation) (f x) x ≡ y = cc in
    let at : n ≡ g = cc in (
      x,
      ap (λ (z : ℕ). Occupied z x) at,
      sym same ∙ ap (λ (z : ℕ). cond (z == generation) (f x) x) at,
    )
rewritten-from f generation Retired g y h = absurd cc

-- the same for a heap: only the object of the reference is rewritten
pub rewritten-at : (h : Heap) (r : Ref) (f : Object → Object) (k g : ℕ) (y : Object)
    → slot_at (with_rewritten h r f) k ≡ Occupied g y
    → (x : Object) × (slot_at h k ≡ Occupied g x)
    × (y ≡ cond ((k == r.slot) && (g == r.generation)) (f x) x)
rewritten-at h r f k g y there =
    let s : Slot = rewritten f r.generation (slot_at h r.slot) in
    ⊎_elim {C = (x : Object) × (slot_at h k ≡ Occupied g x)
    × (y ≡ cond ((k == r.slot) && (g == r.generation)) (f x) x)}
    (λ (here : k ≡ r.slot).
    let written : get_or (set h.slots r.slot s) r.slot Retired ≡ Occupied g y =
    subst (λ (z : ℕ). get_or (set h.slots r.slot s) z Retired ≡ Occupied g y) here there in
    let inside : r.slot < length h.slots =
    (let w = occupied-within (set h.slots r.slot s) r.slot g y written in
    let e = length-set h.slots r.slot s in omega (arith, w, e)) in
    by here
    (rewritten-from f r.generation (slot_at h r.slot) g y
    (subst (λ (z : Slot). z ≡ Occupied g y) (get_or-set_same h.slots r.slot s Retired inside)
    written)))
    (λ (other : k ≢ r.slot). (
      y,
      sym (get_or-set_other h.slots r.slot k s Retired other) ∙ there,
      ap (λ (z : Bool). cond (z && (g == r.generation)) (f y) y) (sym (ne_eqb k r.slot other)),
    ))
    (cases_eq k r.slot)
  where
    by : k ≡ r.slot
        → (x : Object) × (slot_at h r.slot ≡ Occupied g x) × (y ≡ cond (g == r.generation) (f x) x)
        → (x : Object) × (slot_at h k ≡ Occupied g x)
        × (y ≡ cond ((k == r.slot) && (g == r.generation)) (f x) x)
    by here found = (
      found.0,
      ap (slot_at h) here ∙ found.1,
      found.2
          ∙ ap (λ (z : Bool). cond (z && (g == r.generation)) (f found.0) found.0)
          (sym (eq-eqb k r.slot here)),
    )

pub rewritten-back : (h : Heap) (r : Ref) (f : Object → Object) (k g : ℕ) (y : Object)
    → slot_at (with_rewritten h r f) k ≡ Occupied g y
    → (x : Object) × (slot_at h k ≡ Occupied g x) × ((y ≡ x) ⊎ (y ≡ f x))
rewritten-back h r f k g y there =
    let found = rewritten-at h r f k g y there in (
      found.0,
      found.1,
      cond_both ((k == r.slot) && (g == r.generation)) (f found.0) found.0
          (λ (z : Object). y ≡ z → (y ≡ found.0) ⊎ (y ≡ f found.0))
          (λ _ e. inr e) (λ _ e. inl e) found.2,
    )

pub rewritten-stays : (f : Object → Object) (generation cycle : ℕ) (s : Slot) (g : ℕ) (x : Object)
    → (((f x).mark ≡ x.mark) ⊎ ((f x).mark ≡ cycle)) → s ≡ Occupied g x
    → StaysIn (rewritten f generation s) cycle g x
rewritten-stays f generation cycle s g x mark there = record {
  object = cond (g == generation) (f x) x;
  there = ap (rewritten f generation) there;
  mark = cond_both (g == generation) (f x) x
      (λ (z : Object). (z.mark ≡ x.mark) ⊎ (z.mark ≡ cycle)) (λ _. mark) (λ _. inl refl);
}

pub rewritten-idle : (f : Object → Object) (generation : ℕ) (s : Slot) → IsFree s
    → IsFree (rewritten f generation s)
rewritten-idle f generation (Free n) free = refl
rewritten-idle f generation (Occupied n x) free = absurd cc
rewritten-idle f generation Retired free = free

-- the slots change only in that objects are rewritten or marked
pub record Rewrites (cycle : ℕ) (h g : Heap) : Type 0 where
  pub free : g.free ≡ h.free
  pub width : length g.slots ≡ length h.slots
  pub lasting : (k e : ℕ) (x : Object) → slot_at h k ≡ Occupied e x
      → StaysIn (slot_at g k) cycle e x
  pub idle : (k : ℕ) → IsFree (slot_at h k) → IsFree (slot_at g k)

pub rewrites-free : {cycle : ℕ} {h g : Heap} → Rewrites cycle h g → FreeSlots h.slots h.free
    → FreeSlots g.slots g.free
rewrites-free {h = h} {g = g} same f =
    subst (FreeSlots g.slots) (sym same.free)
    (record {
      free = all-map (λ k. IsFree (slot_at h k)) (λ k. IsFree (slot_at g k)) same.idle h.free
          f.free;
      once = f.once;
    })

pub rewritten-rewrites : (cycle : ℕ) (h : Heap) (r : Ref) (f : Object → Object)
    → ((x : Object) → ((f x).mark ≡ x.mark) ⊎ ((f x).mark ≡ cycle))
    → Rewrites cycle h (with_rewritten h r f)
rewritten-rewrites cycle h r f mark =
    let here : Slot = rewritten f r.generation (slot_at h r.slot) in
    record {
      free = refl;
      width = length-set h.slots r.slot here;
      lasting = λ k e x there.
          at_set_if (λ z. StaysIn z cycle e x) h.slots r.slot k here Retired
          (λ (at : r.slot ≡ k).
          rewritten-stays f r.generation cycle (slot_at h r.slot) e x (mark x)
          (ap (slot_at h) at ∙ there))
          (record { object = x; there = there; mark = inl refl });
      idle = λ k free.
          at_set_if IsFree h.slots r.slot k here Retired
          (λ (at : r.slot ≡ k).
          rewritten-idle f r.generation (slot_at h r.slot)
          (subst (λ (n : ℕ). IsFree (slot_at h n)) (sym at) free))
          free;
    }

-- ---- objects become shared

-- only slots change
pub shared-rest : (own : ℕ) (rs : List Ref) (h : Heap)
    → share_all own h rs ≡ record h { slots = (share_all own h rs).slots }
shared-rest own [] h = refl
shared-rest own (r ∷ rs) h =
    let g : Heap = cond (r.node == own) (with_rewritten h r sharing) h in
    let slots : List Slot = (share_all own g rs).slots in
    shared-rest own rs g
    ∙ cond_both (r.node == own) (with_rewritten h r sharing) h
    (λ (z : Heap). record z { slots = slots } ≡ record h { slots = slots }) (λ _. refl) (λ _. refl)
