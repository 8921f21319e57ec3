-- What is read of an object's bytes.
use Rattle.std.proofs.Common.{◌≡◌, ◌⊎◌, ℕ, ◌+◌, ◌<◌, ◌≤◌, Bool, true, false, ◌||◌, List, [], ◌∷◌, ◌++◌, length, take, drop, Option, Result, Ok, Err, inl, inr, refl, ap, sym, ◌∙◌, subst, arith}
use Rattle.std.specs.Prelude.{nat_le, IfErr, IsErrOf}
use Rattle.std.proofs.lemmas.Bool.{leb-true, lt-leb, or_parts, true≢false}
use Rattle.std.proofs.lemmas.List.{length-take, length-drop}
use Rattle.ids.specs.declared.refusal.Refusal.{Refusal}
use Rattle.ids.specs.declared.refusal.Refusal.TheVariants.{Closed, NoBytes}
use Rattle.model.specs.Checks.{guarded}
use Rattle.model.specs.State.{Heap}
use Rattle.model.specs.Heaps.{bytes_of, bytes_tests, has_range, heap_bytes, heap_bytes_len, heap_letter_part, letter_tests, named, object_at, oldest_letter, word_tests}
use Rattle.model.proofs.Checks.{guarded-ok, guarded-passed, guarded-passes}
use Rattle.disk.specs.Areas.{Areas}
use Rattle.cell.specs.Cells.{CellView}
use Rattle.cell.specs.Names.{Name}
use Rattle.cell.specs.Reading.{WasRead}

-- as many as were asked for
pub bytes-count : (own : ℕ) (h : Heap) (object offset count : ℕ) (bytes : List ℕ)
    → heap_bytes own h object offset count ≡ Ok bytes → length bytes ≡ count
unfolding heap_bytes
bytes-count own h object offset count bytes read =
    let held : List ℕ = bytes_of (object_at h (named h object)) in
    let found : List ℕ = take count (drop offset held) in
    let passed = guarded-passes (bytes_tests own h object offset count) found bytes read in
    let there : offset + count ≤ length held = leb-true _ _ passed.1.1.1.1.0 in
    let same = guarded-ok (bytes_tests own h object offset count) found bytes read in
    omega (
      arith,
      there,
      ap length same,
      length-take count (drop offset held),
      length-drop offset held,
    )

abbrev is_closed : Refusal → Bool
is_closed Closed = true
is_closed e = false

-- one of the tests has the refusal `Closed`
abbrev closes : List (Bool × Refusal) → Bool
closes [] = false
closes (c ∷ cs) = is_closed c.1 || closes cs

never : {A : Type 0} (cs : List (Bool × Refusal)) (x : A) → closes cs ≡ false
    → guarded cs x ≡ Err Closed → ⊥
never [] x none closed = absurd cc
never ((true, e) ∷ cs) x none closed =
    never cs x (or_parts (is_closed e) (closes cs) none).1 closed
never ((false, e) ∷ cs) x none closed =
    let same : e ≡ Closed = cc in
    absurd (true≢false (ap (λ (r : Refusal). is_closed r) (sym same)
    ∙ (or_parts (is_closed e) (closes cs) none).0))

-- reading is never refused with `Closed`
pub bytes-never-closed : (own : ℕ) (h : Heap) (object offset count : ℕ)
    → heap_bytes own h object offset count ≡ Err Closed → ⊥
unfolding heap_bytes
bytes-never-closed own h object offset count closed =
    never (bytes_tests own h object offset count)
    (take count (drop offset (bytes_of (object_at h (named h object))))) refl closed

-- a node never refuses to read with `Closed`
pub open-never-closed : {B : Type 0} (own : ℕ) (h : Heap) (object offset count : ℕ)
    (r : Result B Refusal)
    → IfErr r (λ e. heap_bytes own h object offset count ≡ Err e) → IsErrOf r Closed → ⊥
open-never-closed own h object offset count (Ok b) refused closed = absurd cc
open-never-closed own h object offset count (Err e) refused closed =
    let same : e ≡ Closed = cc in
    bytes-never-closed own h object offset count
    (subst (λ (f : Refusal). heap_bytes own h object offset count ≡ Err f) same refused)

-- nor does it refuse the bytes of a letter with `Closed`
letter-never-closed : (h : Heap) (count : ℕ) → heap_letter_part h count ≡ Err Closed → ⊥
unfolding heap_letter_part
letter-never-closed h count closed =
    let bytes : List ℕ = (oldest_letter h).bytes in
    never (letter_tests h ++ (nat_le count (length bytes), NoBytes) ∷ []) (take count bytes) refl
    closed

pub letter-open : {B : Type 0} (h : Heap) (count : ℕ) (r : Result B Refusal)
    → IfErr r (λ e. heap_letter_part h count ≡ Err e) → IsErrOf r Closed → ⊥
letter-open h count (Ok b) refused closed = absurd cc
letter-open h count (Err e) refused closed =
    let same : e ≡ Closed = cc in
    letter-never-closed h count
    (subst (λ (f : Refusal). heap_letter_part h count ≡ Err f) same refused)

-- as many as were asked for
pub letter-count : (h : Heap) (count : ℕ) (bytes : List ℕ)
    → heap_letter_part h count ≡ Ok bytes → length bytes ≡ count
unfolding heap_letter_part
letter-count h count bytes read =
    let held : List ℕ = (oldest_letter h).bytes in
    let tests = letter_tests h ++ (nat_le count (length held), NoBytes) ∷ [] in
    let passed = guarded-passes tests (take count held) bytes read in
    let there : count ≤ length held = leb-true _ _ passed.1.0 in
    let same = guarded-ok tests (take count held) bytes read in
    omega (arith, there, ap length same, length-take count held)

-- the refusal of the first tests stays if further tests follow
refused-first : {A : Type 0} {B : Type 0} (ts us : List (Bool × Refusal)) (x : A) (y : B)
    (e : Refusal) → guarded ts x ≡ Err e → guarded (ts ++ us) y ≡ Err e
refused-first [] us x y e h = absurd cc
refused-first ((true, r) ∷ ts) us x y e h = refused-first ts us x y e h
refused-first ((false, r) ∷ ts) us x y e h = let same : r ≡ e = cc in ap (λ f. Err f) same

-- what refuses to say how many bytes there are refuses to read some
pub unmeasured : (own : ℕ) (h : Heap) (object offset count : ℕ) (e : Refusal)
    → heap_bytes_len own h object ≡ Err e → heap_bytes own h object offset count ≡ Err e
unfolding heap_bytes heap_bytes_len
unmeasured own h object offset count e refused =
    let held : List ℕ = bytes_of (object_at h (named h object)) in
    refused-first (word_tests own h object) ((has_range held offset count, NoBytes) ∷ [])
    (length held) (take count (drop offset held)) e refused

-- no object has more bytes than it has
pub more-than-there : (own : ℕ) (h : Heap) (object offset count there : ℕ)
    → heap_bytes_len own h object ≡ Ok there → there < count
    → heap_bytes own h object offset count ≡ Err NoBytes
unfolding heap_bytes heap_bytes_len
more-than-there own h object offset count there measured more =
    let held : List ℕ = bytes_of (object_at h (named h object)) in
    let found : List ℕ = take count (drop offset held) in
    let passed = guarded-passes (word_tests own h object) (length held) there measured in
    let same = guarded-ok (word_tests own h object) (length held) there measured in
    let outside : has_range held offset count ≡ false =
    lt-leb (offset + count) (length held) (omega (arith, same, more)) in
    guarded-passed (word_tests own h object) ((has_range held offset count, NoBytes) ∷ []) found
    passed
    ∙ rw outside refl

-- ---- a shared cell

-- what a locked cell told while it was open, or what a closed one refused
pub told-or-shut : {D : Type 0} {may_leave : D → Areas → Type 0} {wire : Option Name}
    (Tells : CellView D → Type 0) (Refused : Type 0) (is_open : Bool)
    → (is_open ≡ true → WasRead may_leave wire Tells)
    → (is_open ≡ false → Refused)
    → Refused ⊎ WasRead may_leave wire Tells
told-or-shut Tells Refused true read closed = inr (read refl)
told-or-shut Tells Refused false read closed = inl (closed refl)
