-- What an event frees is what is listed before it, without what the node then still has.
use Rattle.std.proofs.Common.{◌≡◌, ℕ, zero, suc, ◌+◌, ◌-◌, ◌<◌, ◌≤◌, ◌⊎◌, ◌&&◌, Bool, true, false, cond, List, [], ◌∷◌, ◌++◌, length, set, take, drop, inl, inr, refl, sym, ap, ◌∙◌, arith, append_assoc, append-nil}
use Rattle.std.specs.Prelude.{filter}
use Rattle.std.proofs.lemmas.Bool.{cond-false}
use Rattle.std.proofs.lemmas.List.Elements.{filter-append}
use Rattle.model.specs.State.{Slot, Free, Occupied, Retired, Heap, slot_at}
use Rattle.c_values.specs.declared.fields.CFreed.{CFreed}
use Rattle.c_handles.specs.Candidates.{is_left_out}
use Rattle.c_handles.specs.Gone.{entries_from, entries_in, entry_of, gone, is_gone}

-- ---- Entries slot by slot

abbrev pub Test : Type 0
Test = ℕ → Slot → Bool

-- a slot that doesn't pass has no entry
pub entries-none : (passes : Test) (own k : ℕ) (s : Slot) → passes k s ≡ false
    → entries_in passes own k s ≡ []
entries-none passes own k (Free g) fails = refl
entries-none passes own k (Occupied g o) fails =
    cond-false (passes k (Occupied g o)) (entry_of own k g o ∷ []) [] fails
entries-none passes own k Retired fails = refl

-- the entries of the slots that are left are those of the next one and of the others
pub entries-next : (passes : Test) (own : ℕ) (h : Heap) (k last : ℕ) → k < last
    → entries_from passes own h k (last - k)
    ≡ entries_in passes own k (slot_at h k) ++ entries_from passes own h (k + 1) (last - (k + 1))
entries-next passes own h k last before =
    let count : last - k ≡ suc (last - (k + 1)) = omega (arith, before) in
    ap (entries_from passes own h k) count

-- slots that don't pass are passed over
pub entries-skip : (passes : Test) (own : ℕ) (h : Heap) (k m n : ℕ)
    → ((j : ℕ) → k ≤ j → j < k + m → passes j (slot_at h j) ≡ false)
    → entries_from passes own h k (m + n) ≡ entries_from passes own h (k + m) n
entries-skip passes own h k zero n none =
    let at : k ≡ k + 0 = omega arith in
    let count : 0 + n ≡ n = omega arith in
    rw (count) (ap (λ (i : ℕ). entries_from passes own h i n) at)
entries-skip passes own h k (suc m) n none =
    let count : suc m + n ≡ suc (m + n) = omega arith in
    let next : k + 1 + m ≡ k + suc m = omega arith in
    rw (count)
    (ap (λ (es : List CFreed). es ++ entries_from passes own h (k + 1) (m + n))
    (entries-none passes own k (slot_at h k) (none k (omega arith) (omega arith)))
    ∙ entries-skip passes own h (k + 1) m n
    (λ j from to. none j (omega (arith, from)) (omega (arith, to)))
    ∙ ap (λ (i : ℕ). entries_from passes own h i n) next)

pub entries-jump : (passes : Test) (own : ℕ) (h : Heap) (k m last : ℕ) → k ≤ m → m ≤ last
    → ((j : ℕ) → k ≤ j → j < m → passes j (slot_at h j) ≡ false)
    → entries_from passes own h k (last - k) ≡ entries_from passes own h m (last - m)
entries-jump passes own h k m last before within none =
    let count : last - k ≡ m - k + (last - m) = omega (arith, before, within) in
    let reach : k + (m - k) ≡ m = omega (arith, before) in
    ap (entries_from passes own h k) count
    ∙ entries-skip passes own h k (m - k) (last - m)
    (λ j from to. none j from (omega (arith, to, reach)))
    ∙ ap (λ (i : ℕ). entries_from passes own h i (last - m)) reach

-- none passes
pub entries-empty : (passes : Test) (own : ℕ) (h : Heap) (k n : ℕ)
    → ((j : ℕ) → k ≤ j → j < k + n → passes j (slot_at h j) ≡ false)
    → entries_from passes own h k n ≡ []
entries-empty passes own h k zero none = refl
entries-empty passes own h k (suc n) none =
    ap (λ (es : List CFreed). es ++ entries_from passes own h (k + 1) n)
    (entries-none passes own k (slot_at h k) (none k (omega arith) (omega arith)))
    ∙ entries-empty passes own h (k + 1) n
    (λ j from to. none j (omega (arith, from)) (omega (arith, to)))

-- slots that pass or not alike
entries-alike-in : (f g : Test) (own k : ℕ) (s : Slot) → f k s ≡ g k s
    → entries_in f own k s ≡ entries_in g own k s
entries-alike-in f g own k (Free e) same = refl
entries-alike-in f g own k (Occupied e o) same =
    ap (λ (b : Bool). cond b (entry_of own k e o ∷ []) []) same
entries-alike-in f g own k Retired same = refl

pub entries-alike : (f g : Test) (own : ℕ) (h : Heap) (k n : ℕ)
    → ((j : ℕ) → k ≤ j → j < k + n → f j (slot_at h j) ≡ g j (slot_at h j))
    → entries_from f own h k n ≡ entries_from g own h k n
entries-alike f g own h k zero same = refl
entries-alike f g own h k (suc n) same =
    let here = entries-alike-in f g own k (slot_at h k) (same k (omega arith) (omega arith)) in
    let rest = entries-alike f g own h (k + 1) n
    (λ j from to. same j (omega (arith, from)) (omega (arith, to))) in
    ap (λ (es : List CFreed). es ++ entries_from f own h (k + 1) n) here
    ∙ ap (λ (es : List CFreed). entries_in g own k (slot_at h k) ++ es) rest

-- the first slots, and then the others
entries-more : (passes : Test) (own : ℕ) (h : Heap) (k m n : ℕ)
    → entries_from passes own h k (m + n)
    ≡ entries_from passes own h k m ++ entries_from passes own h (k + m) n
entries-more passes own h k zero n =
    let at : k ≡ k + 0 = omega arith in
    let count : 0 + n ≡ n = omega arith in
    rw (count) (ap (λ (i : ℕ). entries_from passes own h i n) at)
entries-more passes own h k (suc m) n =
    let count : suc m + n ≡ suc (m + n) = omega arith in
    let next : k + 1 + m ≡ k + suc m = omega arith in
    let here : List CFreed = entries_in passes own k (slot_at h k) in
    rw (count)
    (ap (λ (es : List CFreed). here ++ es)
    (entries-more passes own h (k + 1) m n
    ∙ ap (λ (i : ℕ). entries_from passes own h (k + 1) m ++ entries_from passes own h i n) next)
    ∙ sym (append_assoc here (entries_from passes own h (k + 1) m)
    (entries_from passes own h (k + suc m) n)))

-- ---- A loop that lists slot by slot

-- What is listed so far behind what was listed, and what is still to be listed.
pub record IsListing (passes : Test) (own : ℕ) (h : Heap) (start end slot : ℕ)
    (held now : List CFreed) : Type 0 where
  pub found : List CFreed
  pub listed : now ≡ held ++ found
  pub left : found ++ entries_from passes own h slot (end - slot)
      ≡ entries_from passes own h start (end - start)

-- nothing is listed yet, and the slots before this one don't pass
pub listing_none : {passes : Test} {own : ℕ} {h : Heap} {start end : ℕ} {held : List CFreed}
    (slot : ℕ) → start ≤ slot → slot ≤ end
    → ((j : ℕ) → start ≤ j → j < slot → passes j (slot_at h j) ≡ false)
    → IsListing passes own h start end slot held held
listing_none {passes} {own} {h} {start} {end} {held} slot from to none = record {
  found = [];
  listed = sym (append-nil held);
  left = sym (entries-jump passes own h start slot end from to none);
}

module _ {passes : Test} {own : ℕ} {h : Heap} {start end slot : ℕ} {held now : List CFreed}
    (before : IsListing passes own h start end slot held now) where
  pub listing_one : {next : List CFreed} → slot < end
      → next ≡ now ++ entries_in passes own slot (slot_at h slot)
      → IsListing passes own h start end (slot + 1) held next
  listing_one {next} less is =
      let here : List CFreed = entries_in passes own slot (slot_at h slot) in
      let rest : List CFreed = entries_from passes own h (slot + 1) (end - (slot + 1)) in
      record {
        found = before.found ++ here;
        listed = is
            ∙ ap (λ (es : List CFreed). es ++ here) before.listed
            ∙ append_assoc held before.found here;
        left = append_assoc before.found here rest
            ∙ ap (λ (es : List CFreed). before.found ++ es)
            (sym (entries-next passes own h slot end less))
            ∙ before.left;
      }

  -- slots that don't pass are passed over
  pub listing_jump : (next : ℕ) → slot ≤ next → next ≤ end
      → ((j : ℕ) → slot ≤ j → j < next → passes j (slot_at h j) ≡ false)
      → IsListing passes own h start end next held now
  listing_jump next from to none = record {
    found = before.found;
    listed = before.listed;
    left = ap (λ (es : List CFreed). before.found ++ es)
        (sym (entries-jump passes own h slot next end from to none))
        ∙ before.left;
  }

-- ---- Handing out

pub drop_next : {A : Type 0} (i : ℕ) (xs : List A) → drop 1 (drop i xs) ≡ drop (suc i) xs
drop_next zero xs = refl
drop_next (suc i) [] = refl
drop_next (suc i) (x ∷ xs) = drop_next i xs

-- one more element is moved from the front of the first list over the second one
pub moved_one : {A : Type 0} (i : ℕ) (xs ys : List A) (x : A) (rest : List A)
    → drop i xs ≡ x ∷ rest → i < length ys
    → set (take i xs ++ drop i ys) i x ≡ take (suc i) xs ++ drop (suc i) ys
moved_one zero [] ys x rest is less = absurd cc
moved_one zero (a ∷ xs) [] x rest is less = absurd (omega (arith, less))
moved_one zero (a ∷ xs) (y ∷ ys) x rest is less =
    let same : a ≡ x = cc in ap (λ b. b ∷ ys) (sym same)
moved_one (suc i) [] ys x rest is less = absurd cc
moved_one (suc i) (a ∷ xs) [] x rest is less = absurd (omega (arith, less))
moved_one (suc i) (a ∷ xs) (y ∷ ys) x rest is less =
    ap (λ zs. a ∷ zs) (moved_one i xs ys x rest is (omega (arith, less)))

-- ---- What a later heap doesn't have

-- both tests
abbrev pub and_gone : Test → Heap → Test
and_gone passes later k s = passes k s && is_gone later k s

filter-one : (b c : Bool) (x : CFreed) (p : CFreed → Bool) → p x ≡ c
    → filter p (cond b (x ∷ []) []) ≡ cond (b && c) (x ∷ []) []
filter-one true c x p is = ap (λ (d : Bool). cond d (x ∷ []) []) is
filter-one false c x p is = refl

filter-in : (passes : Test) (own : ℕ) (later : Heap) (k : ℕ) (s : Slot)
    → filter (is_left_out later) (entries_in passes own k s)
    ≡ entries_in (and_gone passes later) own k s
filter-in passes own later k (Free g) = refl
filter-in passes own later k (Occupied g o) =
    filter-one (passes k (Occupied g o)) (is_gone later k (Occupied g o)) (entry_of own k g o)
    (is_left_out later) refl
filter-in passes own later k Retired = refl

-- what is listed, without what the later heap has
pub filter-entries : (passes : Test) (own : ℕ) (h later : Heap) (k n : ℕ)
    → filter (is_left_out later) (entries_from passes own h k n)
    ≡ entries_from (and_gone passes later) own h k n
filter-entries passes own h later k zero = refl
filter-entries passes own h later k (suc n) =
    let here : List CFreed = entries_in passes own k (slot_at h k) in
    let rest : List CFreed = entries_from passes own h (k + 1) n in
    filter-append (is_left_out later) here rest
    ∙ ap (λ (es : List CFreed). es ++ filter (is_left_out later) rest)
    (filter-in passes own later k (slot_at h k))
    ∙ ap (λ (es : List CFreed). entries_in (and_gone passes later) own k (slot_at h k) ++ es)
    (filter-entries passes own h later (k + 1) n)

-- every object that is gone was listed
pub record Lists (passes : Test) (h later : Heap) (k n : ℕ) : Type 0 where
  pub within : (k + n ≤ length h.slots) ⊎ (n ≡ 0)
  pub all : (j : ℕ) → is_gone later j (slot_at h j) ≡ true
      → (k ≤ j) × (j < k + n) × (passes j (slot_at h j) ≡ true)

and-true : (b c : Bool) → (c ≡ true → b ≡ true) → (b && c) ≡ c
and-true true c all = refl
and-true false false all = refl
and-true false true all = all refl

outside : (b : Bool) → (b ≡ true → ⊥) → b ≡ false
outside true never = absurd (never refl)
outside false never = refl

pub lists-gone : {passes : Test} {h later : Heap} {k n : ℕ} (own : ℕ) → Lists passes h later k n
    → filter (is_left_out later) (entries_from passes own h k n) ≡ gone own h later
lists-gone {passes} {h} {later} {k} {n} own l =
    filter-entries passes own h later k n
    ∙ entries-alike (and_gone passes later) (is_gone later) own h k n
    (λ j from to.
    and-true (passes j (slot_at h j)) (is_gone later j (slot_at h j)) (λ is. (l.all j is).2))
    ∙ sym (elim l.within [
      | inl within ↦
          let last : ℕ = length h.slots in
          let first : last - 0 ≡ last = omega arith in
          let rest : n + (last - (k + n)) ≡ last - k = omega (arith, within) in
          let far : k + n ≤ last = within in
          ap (entries_from (is_gone later) own h 0) (sym first)
          ∙ entries-jump (is_gone later) own h 0 k last (omega arith) (omega (arith, far))
          (λ j from to. outside _
          (λ is. (let at = (l.all j is).0 in absurd (omega (arith, at, to)))))
          ∙ ap (entries_from (is_gone later) own h k) (sym rest)
          ∙ entries-more (is_gone later) own h k n (last - (k + n))
          ∙ ap (λ (es : List CFreed). entries_from (is_gone later) own h k n ++ es)
          (entries-empty (is_gone later) own h (k + n) (last - (k + n))
          (λ j from to.
          outside _ (λ is. (let at = (l.all j is).1 in absurd (omega (arith, at, from))))))
          ∙ append-nil (entries_from (is_gone later) own h k n)
      | inr none ↦
          entries-empty (is_gone later) own h 0 (length h.slots)
          (λ j from to.
          outside _ (λ is. (let found = l.all j is in
          absurd (let a = found.0 in let b = found.1 in omega (arith, a, b, none)))))
          ∙ ap (entries_from (is_gone later) own h k) (sym none)
    ])
