-- Each change of a node's heap keeps what is true of the heap of every node.
use Rattle.std.proofs.Common.{⊎_elim, filter, ◌≡◌, ◌≢◌, ℕ, zero, suc, ◌+◌, ◌-◌, ◌<◌, ◌≤◌, ◌==◌, Bool, true, false, eqb, List, [], ◌∷◌, ◌++◌, length, map, take, drop, get_or, Option, Some, None, refl, sym, ap, ◌∙◌, subst, arith, get_or-set_same}
use Rattle.std.specs.List.{AllByRecursion, IsDistinct}
use Rattle.std.proofs.lemmas.Bool.{cond_both, cond-true, true≢false, leb-true, eqb-true, eqb-false, eq-eqb, ne_eqb, not-true}
use Rattle.std.proofs.lemmas.List.{length-append, length-drop, length-set, length-replicate, length-take-le, get_or_append_left}
use Rattle.ids.specs.Limits.{Shaped}
use Rattle.ids.specs.declared.limits.TheConstants.{GREATEST_GENERATION}
use Rattle.ids.specs.declared.names.Ref.{Ref}
use Rattle.msg.specs.declared.body.Token.{Token}
use Rattle.model.specs.declared.age.Age.TheVariants.{Young, Old}
use Rattle.model.specs.declared.age.Scope.{Scope}
use Rattle.model.specs.declared.event.Letter.{Letter}
use Rattle.model.specs.State.{Object, Slot, Free, Occupied, Retired, Heap, LocalState, slot_at, new_heap}
use Rattle.model.specs.Heaps.{sharing, share_all, with_register, with_object, new_object, next_generation, slots_with, object_at, rewritten, with_rewritten, with_place, placing, remembered, remembering, with_word, with_letters, oldest_letter, letter_taken, letters_taken, more_letters, letters_of, simple_letter, filling, patching, has_range, overwritten}
use Rattle.model.specs.Shading.{is_open, is_unmarked, with_mark, make_grey, make_all_grey, is_calm, without_last_grey}
use Rattle.model.specs.Collecting.{is_garbage, generation_in, vacated_slot, Sweeping, sweep_some}
use Rattle.model.specs.Reclaiming.{is_occupied, reclaiming, left_grey, slot_aged, aged, freed_within, reclaimed}
use Rattle.model.specs.WellFormed.{AreLetters, IsOther, IsObject, IsSlotOf, HasMarked, IsStocked, IsHeld}
use Rattle.model.proofs.Lookups.{all-map, at_set, at_set_if, at_push}
use Rattle.model.proofs.References.{all-append}
use Rattle.model.proofs.Ages.{noted-keeps, aged-at}
use Rattle.model.proofs.Freeing.{Vacates, Freed, freed-left, freed-some, freed-reclaiming, garbage-test, occupied-object}
use Rattle.model.proofs.Slots.{slot-within, occupied-within, found-object, unmarked-there}

-- ---- lists

-- one more element, which differs from those before it
pub distinct-push : {A : Type 0} (same : A → A → Bool) (xs : List A) (x : A) → IsDistinct same xs
    → AllByRecursion (λ (y : A). same y x ≡ false) xs → IsDistinct same (xs ++ x ∷ [])
unfolding IsDistinct
distinct-push same [] x once apart = (tt, tt)
distinct-push {A = A} same (y ∷ ys) x once apart = (
  all-append (λ (z : A). same y z ≡ false) ys (x ∷ []) once.0 (apart.0, tt),
  distinct-push same ys x once.1 apart.1,
)

-- the first elements of a list
all-take : {A : Type 0} (P : A → Type 0) (n : ℕ) (xs : List A) → AllByRecursion P xs
    → AllByRecursion P (take n xs)
all-take P zero xs all = tt
all-take P (suc n) [] all = tt
all-take P (suc n) (x ∷ xs) all = (all.0, all-take P n xs all.1)

distinct-take : {A : Type 0} (same : A → A → Bool) (n : ℕ) (xs : List A) → IsDistinct same xs
    → IsDistinct same (take n xs)
unfolding IsDistinct
distinct-take same zero xs once = tt
distinct-take same (suc n) [] once = tt
distinct-take {A = A} same (suc n) (x ∷ xs) once =
    (all-take (λ (y : A). same x y ≡ false) n xs once.0, distinct-take same n xs once.1)

none-left : (xs : List ℕ) → length xs ≡ 0 → xs ≡ []
none-left [] none = refl
none-left (x ∷ xs) none = absurd (omega (arith, none))

pub calm-empty : (h : Heap) → is_calm h ≡ true → h.grey ≡ []
calm-empty h calm = none-left h.grey (eqb-true (length h.grey) 0 calm)

-- a marked slot is one of the list
marked-within : (cycle : ℕ) (slots : List Slot) (k : ℕ) → HasMarked cycle (get_or slots k Retired)
    → k < length slots
marked-within cycle slots k there =
    slot-within slots k (λ (e : get_or slots k Retired ≡ Retired).
    absurd (let never : HasMarked cycle Retired = subst (HasMarked cycle) e there in never))

-- while the node marks, its cycle isn't the one that ended last
pub open-apart : (p : LocalState) → is_open p ≡ true → p.phases.ended ≢ p.phases.cycle
open-apart p opened =
    eqb-false p.phases.ended p.phases.cycle (not-true (p.phases.ended == p.phases.cycle) opened)

-- a token may be held in a cycle that hasn't ended
pub held-before : (cycle ended : ℕ) (token : Option Token) → ended < cycle
    → IsHeld cycle ended token
held-before cycle ended None before = tt
held-before cycle ended (Some token) before = before

-- overwriting a part of a list keeps its length
pub length-overwritten : (xs : List ℕ) (offset : ℕ) (ys : List ℕ)
    → length (overwritten xs offset ys) ≡ length xs
length-overwritten xs offset ys =
    cond_both (has_range xs offset (length ys))
    (take offset xs ++ (ys ++ drop (offset + length ys) xs)) xs
    (λ (zs : List ℕ). length zs ≡ length xs) within (λ _. refl)
  where
    within : has_range xs offset (length ys) ≡ true
        → length (take offset xs ++ (ys ++ drop (offset + length ys) xs)) ≡ length xs
    within there =
        let fits : offset + length ys ≤ length xs =
        leb-true (offset + length ys) (length xs) there in
        let outer = length-append (take offset xs) (ys ++ drop (offset + length ys) xs) in
        let inner = length-append ys (drop (offset + length ys) xs) in
        let front = length-take-le offset xs (omega (arith, fits)) in
        let back = length-drop (offset + length ys) xs in
        omega (arith, fits, outer, inner, front, back)

-- ---- letters

module _ (shape : Shaped) (own : ℕ) where
  letters-append : (ls ms : List Letter) → AreLetters shape own ls → AreLetters shape own ms
      → AreLetters shape own (ls ++ ms)
  letters-append [] ms first second = second
  letters-append (l ∷ ls) ms first second = (
    first.0,
    (omega (arith, first.1.0, length-append ls ms), first.1.1),
    letters-append ls ms first.2 second,
  )

  letters-rest : (ls : List Letter) → AreLetters shape own ls → AreLetters shape own (drop 1 ls)
  letters-rest [] all = tt
  letters-rest (l ∷ ls) all = all.2

  length-more : (from label : ℕ) (rs : List (Option Ref))
      → length (more_letters from label rs) ≡ length rs
  length-more from label [] = refl
  length-more from label (r ∷ rs) = ap suc (length-more from label rs)

  in-wide : {P : Type 0} → shape.wide ≡ true → shape.wide ≡ false → P
  in-wide wide plain = absurd (true≢false (sym wide ∙ plain))

  more-letters : (from label : ℕ) (rs : List (Option Ref)) → shape.wide ≡ true
      → IsOther shape own from → AreLetters shape own (more_letters from label rs)
  more-letters from label [] wide other = tt
  more-letters from label (r ∷ rs) wide other = (
    other,
    (omega (arith, length-more from label rs), in-wide wide),
    more-letters from label rs wide other,
  )

  -- a letter as it waits
  pub new-letters : (from label : ℕ) (rs : List (Option Ref)) (bytes : List ℕ)
      → shape.wide ≡ true → IsOther shape own from
      → AreLetters shape own (letters_of from label rs bytes)
  new-letters from label [] bytes wide other =
      (other, (omega arith, in-wide wide), tt)
  new-letters from label (r ∷ rs) bytes wide other = (
    other,
    (omega (arith, length-more from label rs), in-wide wide),
    more-letters from label rs wide other,
  )

  -- a letter with at most one reference, and no bytes
  pub new-letter : (from label : ℕ) (r : Option Ref) → IsOther shape own from
      → AreLetters shape own (simple_letter from label r ∷ [])
  new-letter from label r other = (other, (omega arith, λ plain. (refl, refl)), tt)

-- ---- a new heap

pub stocked-new : (shape : Shaped) (own : ℕ) → IsStocked shape own 0 0 (new_heap shape)
unfolding IsDistinct
stocked-new shape own = record {
  registers = length-replicate {A = Option Ref} shape.registers None;
  letters = tt;
  slots = λ k. tt;
  grey = tt;
  once = tt;
  calm = λ _. refl;
}

module _ {shape : Shaped} {own cycle ended : ℕ} {h : Heap} (old : IsStocked shape own cycle ended h)
  where
    -- ---- registers and letters

    pub stocked-register : (k : ℕ) (r : Option Ref)
        → IsStocked shape own cycle ended (with_register h k r)
    stocked-register k r = record {
      registers = length-set h.registers k r ∙ old.registers;
      letters = old.letters;
      slots = old.slots;
      grey = old.grey;
      once = old.once;
      calm = old.calm;
    }

    pub stocked-letters : (ls : List Letter) → AreLetters shape own ls
        → IsStocked shape own cycle ended (with_letters h ls)
    stocked-letters ls all = record {
      registers = old.registers;
      letters = letters-append shape own h.letters ls old.letters all;
      slots = old.slots;
      grey = old.grey;
      once = old.once;
      calm = old.calm;
    }

    -- what waits longest is taken
    pub stocked-letter_taken : (register : ℕ)
        → IsStocked shape own cycle ended (letter_taken h register)
    stocked-letter_taken register = record {
      registers =
          length-set h.registers register (oldest_letter h).reference ∙ old.registers;
      letters = letters-rest shape own h.letters old.letters;
      slots = old.slots;
      grey = old.grey;
      once = old.once;
      calm = old.calm;
    }

    -- ---- slots

    -- a list of slots in which every marked slot is still marked
    stocked-slots : (slots : List Slot) (free : List ℕ)
        → ((k : ℕ) → IsSlotOf shape cycle (get_or slots k Retired))
        → ((k : ℕ) → HasMarked cycle (slot_at h k) → HasMarked cycle (get_or slots k Retired))
        → IsStocked shape own cycle ended (record h { slots = slots; free = free })
    stocked-slots slots free all marked = record {
      registers = old.registers;
      letters = old.letters;
      slots = all;
      grey = all-map (λ (k : ℕ). HasMarked cycle (slot_at h k))
          (λ (k : ℕ). HasMarked cycle (get_or slots k Retired)) marked h.grey old.grey;
      once = old.once;
      calm = old.calm;
    }

    -- a new object

    born-later : (s : Slot) → IsSlotOf shape cycle s → 1 ≤ next_generation s
    born-later (Free g) is = omega (arith, is)
    born-later (Occupied g o) is = is.born
    born-later Retired is = omega arith

    new-slot : (shared : Bool) (g places : ℕ) → (shape.wide ≡ false → shared ≡ true) → 1 ≤ g
        → places ≤ shape.places
        → IsSlotOf shape cycle (Occupied g (new_object shared cycle places))
    new-slot shared g places plain born few = record {
      born = born;
      places = (let wide = length-replicate {A = Option Ref} places None in
          omega (arith, wide, few));
      bytes = omega arith;
      mark = omega arith;
      shared = plain;
      age = λ narrow. cond-true shared Old Young (plain narrow);
    }

    pub stocked-object : (shared : Bool) (places : ℕ) → (shape.wide ≡ false → shared ≡ true)
        → places ≤ shape.places
        → IsStocked shape own cycle ended (with_object h (new_object shared cycle places))
    stocked-object shared places plain few =
        stocked-slots (slots_with h.free h.slots (new_object shared cycle places)) (drop 1 h.free)
        (λ k. all h.free k) (λ k. marked h.free k)
      where
        all : (free : List ℕ) (k : ℕ)
            → IsSlotOf shape cycle (get_or (slots_with free h.slots
            (new_object shared cycle places)) k Retired)
        all [] k =
            at_push (IsSlotOf shape cycle) h.slots k
            (Occupied 1 (new_object shared cycle places)) Retired
            (new-slot shared 1 places plain (omega arith) few) tt (old.slots k)
        all (j ∷ free) k =
            at_set (IsSlotOf shape cycle) h.slots j k
            (Occupied (next_generation (slot_at h j)) (new_object shared cycle places)) Retired
            (new-slot shared (next_generation (slot_at h j)) places plain
            (born-later (slot_at h j) (old.slots j)) few)
            (old.slots k)

        marked : (free : List ℕ) (k : ℕ) → HasMarked cycle (slot_at h k)
            → HasMarked cycle
            (get_or (slots_with free h.slots (new_object shared cycle places)) k Retired)
        marked [] k there =
            subst (HasMarked cycle)
            (sym (get_or_append_left h.slots (Occupied 1 (new_object shared cycle places) ∷ [])
            Retired k
            (marked-within cycle h.slots k there)))
            there
        marked (j ∷ free) k there =
            at_set (HasMarked cycle) h.slots j k
            (Occupied (next_generation (slot_at h j)) (new_object shared cycle places)) Retired
            refl there

    -- an object is rewritten, which keeps its number of places, and a mark of this cycle

    rewritten-slot : (f : Object → Object) (generation : ℕ) (s : Slot)
        → ((g : ℕ) (o : Object) → IsObject shape cycle g o
        → IsObject shape cycle g (f o)) → IsSlotOf shape cycle s
        → IsSlotOf shape cycle (rewritten f generation s)
    rewritten-slot f generation (Free g) keeps is = is
    rewritten-slot f generation (Occupied g o) keeps is =
        cond_both (g == generation) (f o) o (IsObject shape cycle g) (λ _. keeps g o is)
        (λ _. is)
    rewritten-slot f generation Retired keeps is = is

    rewritten-marked : (f : Object → Object) (generation : ℕ) (s : Slot)
        → ((o : Object) → o.mark ≡ cycle → (f o).mark ≡ cycle) → HasMarked cycle s
        → HasMarked cycle (rewritten f generation s)
    rewritten-marked f generation (Free g) keeps is = is
    rewritten-marked f generation (Occupied g o) keeps is =
        cond_both (g == generation) (f o) o (λ (z : Object). z.mark ≡ cycle) (λ _. keeps o is)
        (λ _. is)
    rewritten-marked f generation Retired keeps is = is

    module _ (r : Ref) (f : Object → Object)
        (sound : (g : ℕ) (o : Object) → IsObject shape cycle g o
        → IsObject shape cycle g (f o))
        (marks : (o : Object) → o.mark ≡ cycle → (f o).mark ≡ cycle)
      where
        pub still-marked : (k : ℕ) → HasMarked cycle (slot_at h k)
            → HasMarked cycle (slot_at (with_rewritten h r f) k)
        still-marked k there =
            at_set_if (HasMarked cycle) h.slots r.slot k
            (rewritten f r.generation (slot_at h r.slot)) Retired
            (λ at.
            rewritten-marked f r.generation (slot_at h r.slot) marks
            (subst (λ (j : ℕ). HasMarked cycle (slot_at h j)) (sym at) there))
            there

        pub stocked-rewritten : IsStocked shape own cycle ended (with_rewritten h r f)
        stocked-rewritten =
            stocked-slots (with_rewritten h r f).slots h.free
            (λ k.
            at_set (IsSlotOf shape cycle) h.slots r.slot k
            (rewritten f r.generation (slot_at h r.slot)) Retired
            (rewritten-slot f r.generation (slot_at h r.slot) sound (old.slots r.slot))
            (old.slots k))
            still-marked

    pub stocked-remembering : (r : Ref)
        → IsStocked shape own cycle ended (with_rewritten h r remembering)
    stocked-remembering r =
        stocked-rewritten r remembering
        (λ g o is. record {
          born = is.born;
          places = is.places;
          bytes = is.bytes;
          mark = is.mark;
          shared = is.shared;
          age = λ narrow. ap remembered (is.age narrow);
        })
        (λ o there. there)

    pub stocked-placing : (r : Ref) (place : ℕ) (v : Option Ref)
        → IsStocked shape own cycle ended (with_rewritten h r (placing place v))
    stocked-placing r place v =
        stocked-rewritten r (placing place v)
        (λ g o is. record {
          born = is.born;
          places = (let wide = length-set o.places place v in
              let few = is.places in
              omega (arith, wide, few));
          bytes = is.bytes;
          mark = is.mark;
          shared = is.shared;
          age = is.age;
        })
        (λ o there. there)

    pub stocked-word : (r : Ref) (word : ℕ) → IsStocked shape own cycle ended (with_word h r word)
    stocked-word r word =
        stocked-rewritten r (λ o. record o { word = word })
        (λ g o is. record {
          born = is.born;
          places = is.places;
          bytes = is.bytes;
          mark = is.mark;
          shared = is.shared;
          age = is.age;
        })
        (λ o there. there)

    pub stocked-bytes : (r : Ref) (bytes : List ℕ) → length bytes ≤ shape.bytes
        → IsStocked shape own cycle ended (with_rewritten h r (filling bytes))
    stocked-bytes r bytes few =
        stocked-rewritten r (filling bytes)
        (λ g o is. record {
          born = is.born;
          places = is.places;
          bytes = few;
          mark = is.mark;
          shared = is.shared;
          age = is.age;
        })
        (λ o there. there)

    pub stocked-patch : (r : Ref) (offset : ℕ) (bytes : List ℕ)
        → IsStocked shape own cycle ended (with_rewritten h r (patching offset bytes))
    stocked-patch r offset bytes =
        stocked-rewritten r (patching offset bytes)
        (λ g o is. record {
          born = is.born;
          places = is.places;
          bytes = (let same = length-overwritten o.bytes offset bytes in
              let few = is.bytes in
              omega (arith, same, few));
          mark = is.mark;
          shared = is.shared;
          age = is.age;
        })
        (λ o there. there)

    -- ---- grey objects

    pub stocked-make_grey : (r : Ref) → ended ≢ cycle
        → IsStocked shape own cycle ended (make_grey cycle h r)
    unfolding make_grey
    stocked-make_grey r opened =
        cond_both (is_unmarked cycle (object_at h r))
        (record (with_rewritten h r (with_mark cycle)) { grey = h.grey ++ r.slot ∷ [] }) h
        (IsStocked shape own cycle ended) turned (λ _. old)
      where
        sound : (g : ℕ) (o : Object) → IsObject shape cycle g o
            → IsObject shape cycle g (with_mark cycle o)
        sound g o is =
            record {
              born = is.born;
              places = is.places;
              bytes = is.bytes;
              mark = omega arith;
              shared = is.shared;
              age = is.age;
            }

        marks : (o : Object) → o.mark ≡ cycle → (with_mark cycle o).mark ≡ cycle
        marks o e = refl

        now-marked : (x : Object) → slot_at h r.slot ≡ Occupied r.generation x
            → HasMarked cycle (slot_at (with_rewritten h r (with_mark cycle)) r.slot)
        now-marked x there =
            subst (HasMarked cycle)
            (sym (get_or-set_same h.slots r.slot
            (rewritten (with_mark cycle) r.generation (slot_at h r.slot)) Retired
            (occupied-within h.slots r.slot r.generation x there)
            ∙ ap (rewritten (with_mark cycle) r.generation) there
            ∙ ap (Occupied r.generation) (cond-true (r.generation == r.generation)
            (with_mark cycle x) x (eq-eqb r.generation r.generation refl))))
            refl

        apart : {x : Object} → slot_at h r.slot ≡ Occupied r.generation x → x.mark ≢ cycle → (k : ℕ)
            → HasMarked cycle (slot_at h k) → eqb k r.slot ≡ false
        apart there white k marked =
            ne_eqb k r.slot
            (λ (e : k ≡ r.slot).
            white (subst (HasMarked cycle) (ap (slot_at h) e ∙ there) marked))

        turned : is_unmarked cycle (object_at h r) ≡ true
            → IsStocked shape own cycle ended
            (record (with_rewritten h r (with_mark cycle)) { grey = h.grey ++ r.slot ∷ [] })
        turned unmarked =
            let found = unmarked-there cycle (object_at h r) unmarked in
            let there = found-object h r found.0 found.1 in
            let base = stocked-rewritten r (with_mark cycle) sound marks in
            record {
              registers = old.registers;
              letters = old.letters;
              slots = base.slots;
              grey = all-append
                  (λ (k : ℕ). HasMarked cycle (slot_at (with_rewritten h r (with_mark cycle)) k))
                  h.grey (r.slot ∷ []) base.grey (now-marked found.0 there, tt);
              once = distinct-push eqb h.grey r.slot old.once
                  (all-map (λ (k : ℕ). HasMarked cycle (slot_at h k)) (λ k. eqb k r.slot ≡ false)
                  (apart there found.2) h.grey old.grey);
              calm = λ done. absurd (opened done);
            }

    -- the last grey object is scanned; a sweep and a later cycle find no grey objects

    pub stocked-scanned : IsStocked shape own cycle ended (without_last_grey h)
    stocked-scanned = record {
      registers = old.registers;
      letters = old.letters;
      slots = old.slots;
      grey = all-take (λ (k : ℕ). HasMarked cycle (slot_at h k)) (length h.grey - 1) h.grey
          old.grey;
      once = distinct-take eqb (length h.grey - 1) h.grey old.once;
      calm = λ done.
          ap (λ (ks : List ℕ). take (length ks - 1) ks) (old.calm done);
    }

    slot-later : (later : ℕ) (s : Slot) → cycle ≤ later → IsSlotOf shape cycle s
        → IsSlotOf shape later s
    slot-later later (Free g) more is = is
    slot-later later (Occupied g o) more is =
        let mark = is.mark in
        record {
          born = is.born;
          places = is.places;
          bytes = is.bytes;
          mark = omega (arith, mark, more);
          shared = is.shared;
          age = is.age;
        }
    slot-later later Retired more is = is

    pub stocked-later : (later last : ℕ) → cycle ≤ later → h.grey ≡ []
        → IsStocked shape own later last h
    stocked-later later last more none = record {
      registers = old.registers;
      letters = old.letters;
      slots = λ k. slot-later later (slot_at h k) more (old.slots k);
      grey = subst (AllByRecursion (λ (k : ℕ). HasMarked later (slot_at h k))) (sym none) tt;
      once = old.once;
      calm = λ _. none;
    }

-- ---- a place is written

pub stocked-place : {shape : Shaped} {own cycle ended : ℕ} {h : Heap}
    → IsStocked shape own cycle ended h → (node : ℕ) (r : Ref) (place : ℕ) (v : Option Ref)
    → IsStocked shape own cycle ended (with_place node h r place v)
stocked-place {shape} {own} {cycle} {ended} {h} old node r place v =
    stocked-placing
    (noted-keeps (IsStocked shape own cycle ended) node h r v (stocked-remembering old) old) r place
    v

-- ---- many objects turn grey

pub stocked-greyed : {shape : Shaped} {own cycle ended : ℕ} (rs : List Ref) {h : Heap}
    → ended ≢ cycle → IsStocked shape own cycle ended h
    → IsStocked shape own cycle ended (make_all_grey own cycle h rs)
stocked-greyed [] opened old = old
stocked-greyed {shape} {own} {cycle} {ended} (r ∷ rs) {h} opened old =
    stocked-greyed rs opened
    (cond_both (r.node == own) (make_grey cycle h r) h (IsStocked shape own cycle ended)
    (λ _. stocked-make_grey old r opened)
    (λ _. old))

-- ---- objects become shared

pub stocked-shared : {shape : Shaped} {own cycle ended : ℕ} (by : ℕ) (rs : List Ref) {h : Heap}
    → IsStocked shape own cycle ended h → IsStocked shape own cycle ended (share_all by h rs)
stocked-shared by [] old = old
stocked-shared {shape} {own} {cycle} {ended} by (r ∷ rs) {h} old =
    stocked-shared by rs
    (cond_both (r.node == by) (with_rewritten h r sharing) h (IsStocked shape own cycle ended)
    (λ _.
    stocked-rewritten old r sharing
    (λ g o is. record {
      born = is.born;
      places = is.places;
      bytes = is.bytes;
      mark = is.mark;
      shared = λ _. refl;
      age = is.age;
    })
    (λ o there. there))
    (λ _. old))

-- ---- objects are freed

vacated-sound : (shape : Shaped) (cycle g : ℕ) → 1 ≤ g → IsSlotOf shape cycle (vacated_slot g)
vacated-sound shape cycle g born =
    cond_both (g == GREATEST_GENERATION) Retired (Free (g + 1)) (IsSlotOf shape cycle)
    (λ _. tt)
    (λ _. omega (arith, born))

freed-slot : (shape : Shaped) (cycle : ℕ) {s t : Slot} → Vacates s t → IsSlotOf shape cycle s
    → IsSlotOf shape cycle t
freed-slot shape cycle v old =
    let is : IsObject shape cycle v.generation v.object =
    subst (IsSlotOf shape cycle) v.was old in
    subst (IsSlotOf shape cycle) (sym v.is) (vacated-sound shape cycle v.generation is.born)

-- only the grey list may have to change
freed-stocked : {shape : Shaped} {own cycle ended : ℕ} {h g : Heap} (grey : List ℕ) → Freed h g
    → IsStocked shape own cycle ended h
    → AllByRecursion (λ (k : ℕ). HasMarked cycle (slot_at g k)) grey → IsDistinct eqb grey
    → (ended ≡ cycle → grey ≡ []) → IsStocked shape own cycle ended (record g { grey = grey })
freed-stocked {shape} {own} {cycle} {ended} {h} {g} grey f old marked once calm = record {
  registers = ap length f.registers ∙ old.registers;
  letters = subst (AreLetters shape own) (sym f.letters)
      old.letters;
  slots = λ k.
      ⊎_elim {C = IsSlotOf shape cycle (slot_at g k)}
      (λ same. subst (IsSlotOf shape cycle) (sym same) (old.slots k))
      (λ v. freed-slot shape cycle v (old.slots k))
      (f.each k);
  grey = marked;
  once = once;
  calm = calm;
}

-- slots are swept while no object is grey
pub stocked-swept : {shape : Shaped} {own cycle ended : ℕ} (of k count : ℕ) (s : Sweeping)
    → s.heap.grey ≡ [] → IsStocked shape own cycle ended s.heap
    → IsStocked shape own cycle ended (sweep_some of k count s).heap
stocked-swept {shape} {own} {cycle} {ended} of k count s none old =
    let f = freed-some (λ _. is_garbage of) (garbage-test of) k count s in
    let g : Heap = (sweep_some of k count s).heap in
    let now : g.grey ≡ [] = f.grey ∙ none in
    freed-stocked g.grey f old
    (subst (AllByRecursion (λ (j : ℕ). HasMarked cycle (slot_at g j))) (sym now) tt)
    (subst (IsDistinct eqb) (sym f.grey) old.once) (λ _. now)

all-filter : {A : Type 0} (P : A → Type 0) (test : A → Bool) (xs : List A) → AllByRecursion P xs
    → AllByRecursion P (filter test xs)
all-filter P test [] all = tt
all-filter P test (x ∷ xs) all =
    cond_both (test x) (x ∷ filter test xs) (filter test xs) (AllByRecursion P)
    (λ _. (all.0, all-filter P test xs all.1)) (λ _. all-filter P test xs all.1)

distinct-filter : {A : Type 0} (same : A → A → Bool) (test : A → Bool) (xs : List A)
    → IsDistinct same xs → IsDistinct same (filter test xs)
unfolding IsDistinct
distinct-filter same test [] once = tt
distinct-filter {A = A} same test (x ∷ xs) once =
    let rest = distinct-filter same test xs once.1 in
    cond_both (test x) (x ∷ filter test xs) (filter test xs) (IsDistinct same)
    (λ _. (all-filter (λ (y : A). same x y ≡ false) test xs once.0, rest)) (λ _. rest)

-- a grey slot that still has an object has the object that it had
left-marked : (cycle : ℕ) {h g : Heap} → Freed h g → (ks : List ℕ)
    → AllByRecursion (λ (k : ℕ). HasMarked cycle (slot_at h k)) ks
    → AllByRecursion (λ (k : ℕ). HasMarked cycle (slot_at g k))
    (filter (λ k. is_occupied (slot_at g k)) ks)
left-marked cycle f [] all = tt
left-marked cycle {h} {g} f (k ∷ ks) all =
    let rest = left-marked cycle f ks all.1 in
    cond_both (is_occupied (slot_at g k))
    (k ∷ filter (λ k. is_occupied (slot_at g k)) ks)
    (filter (λ k. is_occupied (slot_at g k)) ks)
    (AllByRecursion (λ (k : ℕ). HasMarked cycle (slot_at g k)))
    (λ there.
    let found = occupied-object (slot_at g k) there in
    let e = generation_in (slot_at g k) in
    let was = freed-left f k e found.0 found.1 in
    (subst (HasMarked cycle) (was ∙ sym found.1) all.0, rest))
    (λ _. rest)

stocked-freed : {shape : Shaped} {own cycle ended : ℕ} {h : Heap} (scope : Scope)
    → IsStocked shape own cycle ended h
    → IsStocked shape own cycle ended (freed_within scope own h)
stocked-freed {shape} {own} {cycle} {ended} {h} scope old =
    let f = freed-reclaiming scope own h in
    let g : Heap = (reclaiming scope own h).heap in
    freed-stocked (left_grey g) f old
    (subst (λ ks. AllByRecursion (λ (k : ℕ). HasMarked cycle (slot_at g k))
    (filter (λ k. is_occupied (slot_at g k)) ks)) (sym f.grey)
    (left-marked cycle f h.grey old.grey))
    (distinct-filter eqb (λ k. is_occupied (slot_at g k)) g.grey
    (subst (IsDistinct eqb) (sym f.grey) old.once))
    (λ done.
    ap (filter (λ k. is_occupied (slot_at g k))) (f.grey ∙ old.calm done))

-- what is left becomes old

slot-aged : (shape : Shaped) (cycle : ℕ) (s : Slot) → IsSlotOf shape cycle s
    → IsSlotOf shape cycle (slot_aged s)
slot-aged shape cycle (Free g) is = is
slot-aged shape cycle (Occupied g o) is = record {
  born = is.born;
  places = is.places;
  bytes = is.bytes;
  mark = is.mark;
  shared = is.shared;
  age = λ _. refl;
}
slot-aged shape cycle Retired is = is

aged-marked : (cycle : ℕ) (s : Slot) → HasMarked cycle s → HasMarked cycle (slot_aged s)
aged-marked cycle (Free g) is = is
aged-marked cycle (Occupied g o) is = is
aged-marked cycle Retired is = is

pub stocked-aged : {shape : Shaped} {own cycle ended : ℕ} {h : Heap}
    → IsStocked shape own cycle ended h → IsStocked shape own cycle ended (aged h)
stocked-aged {shape} {own} {cycle} {ended} {h} old =
    stocked-slots old (map slot_aged h.slots) h.free
    (λ k. subst (IsSlotOf shape cycle) (sym (aged-at h k))
    (slot-aged shape cycle (slot_at h k) (old.slots k)))
    (λ k is. subst (HasMarked cycle) (sym (aged-at h k)) (aged-marked cycle (slot_at h k) is))

pub stocked-reclaimed : {shape : Shaped} {own cycle ended : ℕ} {h : Heap} (scope : Scope)
    → IsStocked shape own cycle ended h → IsStocked shape own cycle ended (reclaimed scope own h)
stocked-reclaimed scope old = stocked-aged (stocked-freed scope old)

-- a letter is taken into registers
pub stocked-letters_taken : {shape : Shaped} {own cycle ended : ℕ} (n : ℕ) {h : Heap}
    → IsStocked shape own cycle ended h → (register : ℕ)
    → IsStocked shape own cycle ended (letters_taken n h register)
stocked-letters_taken zero old register = old
stocked-letters_taken (suc n) old register =
    stocked-letters_taken n (stocked-letter_taken old register) (suc register)
