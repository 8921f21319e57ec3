-- Each change of a heap keeps a property of all references that the heap holds.
use Rattle.std.proofs.Common.{Bool, ◌≡◌, ℕ, zero, suc, ◌+◌, ◌-◌, cond, ◌==◌, List, [], ◌∷◌, ◌++◌, length, map, take, drop, replicate, get_or, Option, Some, None, refl, sym, subst}
use Rattle.std.specs.List.{AllByRecursion}
use Rattle.std.specs.Option.{option_to_list}
use Rattle.std.proofs.lemmas.Bool.{cond_both}
use Rattle.std.proofs.lemmas.Grind.{get_or_after_one}
use Rattle.std.proofs.lemmas.List.{append-nil, append_assoc, get_or-drop}
use Rattle.ids.specs.Limits.{Shaped}
use Rattle.ids.specs.declared.names.Ref.{Ref}
use Rattle.model.specs.declared.event.Letter.{Letter}
use Rattle.model.specs.State.{Object, Slot, Free, Occupied, Retired, Heap, register_at, slot_at, new_heap}
use Rattle.model.specs.Heaps.{remembering, sharing, share_all, with_register, with_object, new_object, next_generation, slots_with, object_of, object_at, place_of, rewritten, with_rewritten, with_place, with_word, with_letter, with_letters, no_letter, oldest_letter, letter_taken, letters_taken, more_letters, letters_of, contents}
use Rattle.model.specs.Shading.{is_unmarked, with_mark, make_grey, make_all_grey, filled, reference_of, roots, without_last_grey}
use Rattle.model.specs.Collecting.{places_in}
use Rattle.model.specs.References.{IfAny, HoldsOnly}
use Rattle.model.proofs.Lookups.{at_set, at_push}
use Rattle.model.proofs.Ages.{noted_for, noted-keeps}
use Rattle.model.proofs.Shading.{filled-append}

pub holds-with_register : (P : Ref → Type 0) (h : Heap) (k : ℕ) (r : Option Ref) → HoldsOnly P h
    → IfAny P r → HoldsOnly P (with_register h k r)
holds-with_register P h k r all here = record {
  registers = λ i. at_set (IfAny P) h.registers k i r None here (all.registers i);
  letters = all.letters;
  places = all.places;
}

empty_place : (P : Ref → Type 0) (n j : ℕ) → IfAny P (get_or (replicate n None) j None)
empty_place P zero j = tt
empty_place P (suc n) zero = tt
empty_place P (suc n) (suc j) = empty_place P n j

-- a new heap holds no references
pub holds-new_heap : (P : Ref → Type 0) (shape : Shaped) → HoldsOnly P (new_heap shape)
holds-new_heap P shape = record {
  registers = λ k. empty_place P shape.registers k;
  letters = λ k. tt;
  places = λ k g o j e. absurd cc;
}

-- if the slot has an object, that object holds only such references
abbrev SlotHolds : (P : Ref → Type 0) → Slot → Type 0
SlotHolds P s = (g : ℕ) (o : Object) (j : ℕ) → s ≡ Occupied g o → IfAny P (get_or o.places j None)

new_slot : (P : Ref → Type 0) (shared : Bool) (generation cycle places : ℕ)
    → SlotHolds P (Occupied generation (new_object shared cycle places))
new_slot P shared generation cycle places g o j e =
    let same : new_object shared cycle places ≡ o = cc in
    subst (λ (z : Object). IfAny P (get_or z.places j None)) same (empty_place P places j)

retired_slot : (P : Ref → Type 0) → SlotHolds P Retired
retired_slot P g o j e = absurd cc

places-slots_with : (P : Ref → Type 0) (free : List ℕ) (slots : List Slot) (shared : Bool)
    (cycle places : ℕ) (k : ℕ) → SlotHolds P (get_or slots k Retired)
    → SlotHolds P (get_or (slots_with free slots (new_object shared cycle places)) k Retired)
places-slots_with P [] slots shared cycle places k h =
    at_push (SlotHolds P) slots k (Occupied 1 (new_object shared cycle places)) Retired
    (new_slot P shared 1 cycle places) (retired_slot P) h
places-slots_with P (i ∷ free) slots shared cycle places k h =
    at_set (SlotHolds P) slots i k
    (Occupied (next_generation (get_or slots i Retired)) (new_object shared cycle places)) Retired
    (new_slot P shared _ cycle places) h

pub holds-with_object : (P : Ref → Type 0) (h : Heap) (shared : Bool) (cycle places : ℕ)
    → HoldsOnly P h → HoldsOnly P (with_object h (new_object shared cycle places))
holds-with_object P h shared cycle places all = record {
  registers = all.registers;
  letters = all.letters;
  places = λ k g o j e.
      places-slots_with P h.free h.slots shared cycle places k
      (λ g o j. all.places k g o j) g o j e;
}

-- rewriting an object keeps the property, if the rewriting function keeps it
rewritten_slot : (P : Ref → Type 0) (f : Object → Object) (generation : ℕ) (s : Slot)
    → ((o : Object) (j : ℕ) → IfAny P (get_or o.places j None)
    → IfAny P (get_or (f o).places j None)) → SlotHolds P s → SlotHolds P (rewritten f generation s)
rewritten_slot P f generation (Free k) keeps h g o j e = absurd cc
rewritten_slot P f generation (Occupied k x) keeps h g o j e =
    let same : cond (k == generation) (f x) x ≡ o = cc in
    subst (λ (z : Object). IfAny P (get_or z.places j None)) same
    (cond_both (k == generation) (f x) x (λ z. IfAny P (get_or z.places j None))
    (λ _. keeps x j (h k x j refl)) (λ _. h k x j refl))
rewritten_slot P f generation Retired keeps h g o j e = absurd cc

pub holds-with_rewritten : (P : Ref → Type 0) (h : Heap) (r : Ref) (f : Object → Object)
    → ((o : Object) (j : ℕ) → IfAny P (get_or o.places j None)
    → IfAny P (get_or (f o).places j None)) → HoldsOnly P h → HoldsOnly P (with_rewritten h r f)
holds-with_rewritten P h r f keeps all = record {
  registers = all.registers;
  letters = all.letters;
  places = λ k g o j e.
      at_set (SlotHolds P) h.slots r.slot k
      (rewritten f r.generation (get_or h.slots r.slot Retired)) Retired
      (rewritten_slot P f r.generation (get_or h.slots r.slot Retired) keeps
      (λ g o j. all.places r.slot g o j))
      (λ g o j. all.places k g o j) g o j e;
}

pub holds-with_place : (P : Ref → Type 0) (own : ℕ) (h : Heap) (r : Ref) (place : ℕ)
    (v : Option Ref) → HoldsOnly P h → IfAny P v → HoldsOnly P (with_place own h r place v)
holds-with_place P own h r place v all here =
    holds-with_rewritten P (noted_for own h r v) r _
    (λ o j there. at_set (IfAny P) o.places place j v None here there)
    (noted-keeps (HoldsOnly P) own h r v
    (λ z. holds-with_rewritten P h z remembering (λ o j there. there) all) all)

pub holds-with_word : (P : Ref → Type 0) (h : Heap) (r : Ref) (word : ℕ) → HoldsOnly P h
    → HoldsOnly P (with_word h r word)
holds-with_word P h r word all = holds-with_rewritten P h r _ (λ o j there. there) all

pub holds-share_all : (P : Ref → Type 0) (own : ℕ) (h : Heap) (rs : List Ref) → HoldsOnly P h
    → HoldsOnly P (share_all own h rs)
holds-share_all P own h [] all = all
holds-share_all P own h (r ∷ rs) all =
    holds-share_all P own (cond (r.node == own) (with_rewritten h r sharing) h) rs
    (cond_both (r.node == own) (with_rewritten h r sharing) h (HoldsOnly P)
    (λ _. holds-with_rewritten P h r sharing (λ o j there. there) all)
    (λ _. all))

place_of-object : (P : Ref → Type 0) (s : Slot) (generation place : ℕ) → SlotHolds P s
    → IfAny P (place_of (object_of s generation) place)
place_of-object P (Free g) generation place h = tt
place_of-object P (Occupied g o) generation place h =
    cond_both (g == generation) (Some o) None (λ z. IfAny P (place_of z place))
    (λ _. h g o place refl) (λ _. tt)
place_of-object P Retired generation place h = tt

-- the reference in a place has the property
pub holds-place_of : (P : Ref → Type 0) (h : Heap) (r : Ref) (place : ℕ) → HoldsOnly P h
    → IfAny P (place_of (object_at h r) place)
holds-place_of P h r place all =
    place_of-object P (get_or h.slots r.slot Retired) r.generation place
    (λ g o j. all.places r.slot g o j)

-- a letter is added, and the oldest letter leaves
pub holds-with_letter : (P : Ref → Type 0) (h : Heap) (l : Letter) → HoldsOnly P h
    → IfAny P l.reference → HoldsOnly P (with_letter h l)
holds-with_letter P h l all here = record {
  registers = all.registers;
  letters = λ k.
      at_push (λ (z : Letter). IfAny P z.reference) h.letters k l no_letter here tt (all.letters k);
  places = all.places;
}

pub holds-letter_gone : (P : Ref → Type 0) (h : Heap) → HoldsOnly P h
    → HoldsOnly P (record h { letters = drop 1 h.letters })
holds-letter_gone P h all = record {
  registers = all.registers;
  letters = λ k.
      subst (λ (z : Letter). IfAny P z.reference) (sym (get_or_after_one h.letters k no_letter))
      (all.letters (1 + k));
  places = all.places;
}

-- several letters are added, and a letter is taken into registers
pub holds-with_letters : (P : Ref → Type 0) (h : Heap) (ls : List Letter) → HoldsOnly P h
    → AllByRecursion (λ (l : Letter). IfAny P l.reference) ls → HoldsOnly P (with_letters h ls)
holds-with_letters P h [] all here = rw (append-nil h.letters) all
holds-with_letters P h (l ∷ ls) all here =
    subst (λ (z : List Letter). HoldsOnly P (record h { letters = z }))
    (append_assoc h.letters (l ∷ []) ls)
    (holds-with_letters P (with_letter h l) ls (holds-with_letter P h l all here.0) here.1)

pub holds-letter_taken : (P : Ref → Type 0) (h : Heap) (register : ℕ) → HoldsOnly P h
    → HoldsOnly P (letter_taken h register)
holds-letter_taken P h register all =
    holds-with_register P (record h { letters = drop 1 h.letters }) register
    (oldest_letter h).reference (holds-letter_gone P h all) (all.letters 0)

pub holds-letters_taken : (P : Ref → Type 0) (n : ℕ) (h : Heap) (register : ℕ) → HoldsOnly P h
    → HoldsOnly P (letters_taken n h register)
holds-letters_taken P zero h register all = all
holds-letters_taken P (suc n) h register all =
    holds-letters_taken P n (letter_taken h register) (suc register)
    (holds-letter_taken P h register all)

-- the references of a letter as it waits
more-references : (P : Ref → Type 0) (from label : ℕ) (rs : List (Option Ref))
    → AllByRecursion P (filled rs)
    → AllByRecursion (λ (l : Letter). IfAny P l.reference) (more_letters from label rs)
more-references P from label [] all = tt
more-references P from label (None ∷ rs) all = (tt, more-references P from label rs all)
more-references P from label (Some r ∷ rs) all = (all.0, more-references P from label rs all.1)

pub new-references : (P : Ref → Type 0) (from label : ℕ) (rs : List (Option Ref)) (bytes : List ℕ)
    → AllByRecursion P (filled rs)
    → AllByRecursion (λ (l : Letter). IfAny P l.reference) (letters_of from label rs bytes)
new-references P from label [] bytes all = (tt, tt)
new-references P from label (None ∷ rs) bytes all = (tt, more-references P from label rs all)
new-references P from label (Some r ∷ rs) bytes all =
    (all.0, more-references P from label rs all.1)

-- an optional reference as a list
pub any-list : (P : Ref → Type 0) (v : Option Ref) → IfAny P v → AllByRecursion P (option_to_list v)
any-list P None h = tt
any-list P (Some r) h = (h, tt)

pub list-any : (P : Ref → Type 0) (v : Option Ref) → AllByRecursion P (option_to_list v) → IfAny P v
list-any P None h = tt
list-any P (Some r) h = h.0

-- ---- marking and sweeping

marks_no_place : (P : Ref → Type 0) (h : Heap) (grey : List ℕ) → HoldsOnly P h
    → HoldsOnly P (record h { grey = grey })
marks_no_place P h grey all =
    record { registers = all.registers; letters = all.letters; places = all.places }

pub holds-make_grey : (P : Ref → Type 0) (cycle : ℕ) (h : Heap) (r : Ref) → HoldsOnly P h
    → HoldsOnly P (make_grey cycle h r)
unfolding make_grey
holds-make_grey P cycle h r all =
    cond_both
    (is_unmarked cycle (object_at h r))
    (record (with_rewritten h r (with_mark cycle)) { grey = h.grey ++ r.slot ∷ [] })
    h
    (HoldsOnly P)
    (λ _.
    marks_no_place P
    (with_rewritten h r (with_mark cycle))
    (h.grey ++ r.slot ∷ [])
    (holds-with_rewritten P h r (with_mark cycle) (λ o j there. there) all))
    (λ _. all)

pub holds-make_all_grey : (P : Ref → Type 0) (own cycle : ℕ) (h : Heap) (rs : List Ref)
    → HoldsOnly P h → HoldsOnly P (make_all_grey own cycle h rs)
holds-make_all_grey P own cycle h [] all = all
holds-make_all_grey P own cycle h (r ∷ rs) all =
    holds-make_all_grey P own cycle (cond (r.node == own) (make_grey cycle h r) h) rs
    (cond_both (r.node == own) (make_grey cycle h r) h
    (HoldsOnly P)
    (λ _. holds-make_grey P cycle h r all)
    (λ _. all))

pub holds-without_last_grey : (P : Ref → Type 0) (h : Heap) → HoldsOnly P h
    → HoldsOnly P (without_last_grey h)
holds-without_last_grey P h all = marks_no_place P h (take (length h.grey - 1) h.grey) all

-- ---- references that are shaded together

pub all-append : {X : Type 0} (P : X → Type 0) (xs ys : List X) → AllByRecursion P xs
    → AllByRecursion P ys → AllByRecursion P (xs ++ ys)
all-append P [] ys first second = second
all-append P (x ∷ xs) ys first second = (first.0, all-append P xs ys first.1 second)

-- the references that are present in a list have the property that all in the list have
pub holds-filled : (P : Ref → Type 0) (os : List (Option Ref))
    → ((k : ℕ) → IfAny P (get_or os k None)) → AllByRecursion P (filled os)
holds-filled P [] h = tt
holds-filled P (o ∷ os) h =
    all-append P (option_to_list o) (filled os)
    (any-list P o (h zero))
    (holds-filled P os (λ k. h (suc k)))

-- what some of the registers hold
any-take : (P : Ref → Type 0) (n : ℕ) (os : List (Option Ref))
    → ((k : ℕ) → IfAny P (get_or os k None)) → (k : ℕ) → IfAny P (get_or (take n os) k None)
any-take P zero os h k = tt
any-take P (suc n) [] h k = tt
any-take P (suc n) (o ∷ os) h zero = h zero
any-take P (suc n) (o ∷ os) h (suc k) = any-take P n os (λ i. h (suc i)) k

pub contents-any : (P : Ref → Type 0) (h : Heap) (first count : ℕ)
    → ((k : ℕ) → IfAny P (register_at h k)) → (k : ℕ)
    → IfAny P (get_or (contents h first count) k None)
contents-any P h first count all =
    any-take P count (drop first h.registers)
    (λ k. subst (IfAny P) (sym (get_or-drop first h.registers k None)) (all (first + k)))

pub holds-contents : (P : Ref → Type 0) (h : Heap) (first count : ℕ) → HoldsOnly P h
    → AllByRecursion P (filled (contents h first count))
holds-contents P h first count all =
    holds-filled P (contents h first count) (contents-any P h first count all.registers)

letter-references : (P : Ref → Type 0) (ls : List Letter)
    → ((k : ℕ) → IfAny P (get_or ls k no_letter).reference) → (k : ℕ)
    → IfAny P (get_or (map reference_of ls) k None)
letter-references P [] h k = tt
letter-references P (l ∷ ls) h zero = h zero
letter-references P (l ∷ ls) h (suc k) = letter-references P ls (λ i. h (suc i)) k

-- the roots of a program
pub holds-roots : (P : Ref → Type 0) (h : Heap) → HoldsOnly P h
    → AllByRecursion P (filled (roots h))
holds-roots P h all =
    subst (AllByRecursion P) (sym (filled-append h.registers (map reference_of h.letters)))
    (all-append P (filled h.registers) (filled (map reference_of h.letters))
    (holds-filled P h.registers all.registers)
    (holds-filled P (map reference_of h.letters) (letter-references P h.letters all.letters)))

places_in_slot : (P : Ref → Type 0) (s : Slot) → SlotHolds P s
    → AllByRecursion P (filled (places_in s))
places_in_slot P (Free g) h = tt
places_in_slot P (Occupied g o) h = holds-filled P o.places (λ j. h g o j refl)
places_in_slot P Retired h = tt

-- the references in the places of a slot's object
pub holds-places : (P : Ref → Type 0) (h : Heap) (k : ℕ) → HoldsOnly P h
    → AllByRecursion P (filled (places_in (slot_at h k)))
holds-places P h k all = places_in_slot P (slot_at h k) (λ g o j. all.places k g o j)
