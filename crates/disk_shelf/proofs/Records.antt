-- What is written for an image, and what is read.
use Rattle.std.proofs.Common.{◌≡◌, ℕ, ◌+◌, ◌-◌, ◌≤◌, ◌<◌, List, [], ◌++◌, length, take, drop, Some}
use Rattle.std.proofs.Common.{None, Option, Bool, true, false, inl, inr, refl, subst, sym, ◌∙◌, ap, arith}
use Rattle.std.proofs.Common.{length-append, length-drop}
use Rattle.std.specs.Int.{w64, to_be_bytes, from_be_bytes}
use Rattle.std.proofs.lemmas.Nat.{from_be_bytes-to_be_bytes_8}
use Rattle.std.proofs.lemmas.List.{append-nil, append_assoc, drop_all, take_all, take_at, drop_at}
use Rattle.std.proofs.lemmas.List.{drop-drop, length-take-le}
use Rattle.std.proofs.lemmas.Bool.Decides.{leb_tells, nat_tests}
use Rattle.disk_shelf.specs.declared.persist.TheConstants.{GREATEST_SAVED}
use Rattle.disk.specs.Areas.{Holds, Reads}
use Rattle.disk_shelf.specs.Shelf.{IsLength, IsWhole}
use Rattle.disk_shelf.specs.Shelf.{told, recorded, record_of, TellsLength}

-- what is read from an area that says a length
pub recorded_is : (held : List ℕ) (n : ℕ) → told held ≡ n → n ≤ GREATEST_SAVED →
    n + 8 ≤ length held → recorded held ≡ Some (take n (drop 8 held))
unfolding recorded
recorded_is held n is fits within =
    let small : told held ≤ GREATEST_SAVED = omega (arith, is, fits) in
    let inside : told held + 8 ≤ length held = omega (arith, is, within) in
    let here : recorded held ≡ Some (take (told held) (drop 8 held)) =
    grind (arith, nat_tests, small, inside) in
    here ∙ ap (λ k. Some (take k (drop 8 held))) is

-- an area that is too short, or says too great a length, holds no image
pub recorded_short : (held : List ℕ) → length held < 8 → recorded held ≡ None
unfolding recorded
recorded_short held short = grind (arith, nat_tests)

pub recorded_long : (held : List ℕ) → GREATEST_SAVED < told held → recorded held ≡ None
unfolding recorded
recorded_long held long = grind (arith, nat_tests)

pub recorded_cut : (held : List ℕ) → length held < told held + 8 → recorded held ≡ None
unfolding recorded
recorded_cut held cut = grind (arith, nat_tests)

-- an area that holds an image says how long it is
pub recorded_tells : (held image : List ℕ) → recorded held ≡ Some image → TellsLength held
recorded_tells held image is = (
  elim (leb_tells 8 (length held)) [
    | inl long ↦ long.1
    | inr short ↦ let none = recorded_short held short.1 in cc
  ],
  record {
    most = elim (leb_tells (told held) GREATEST_SAVED) [
      | inl fits ↦ fits.1
      | inr past ↦ let none = recorded_long held past.1 in cc
    ];
    there = λ _. elim (leb_tells (told held + 8) (length held)) [
      | inl all ↦ all.1
      | inr cut ↦ let none = recorded_cut held cut.1 in cc
    ];
  },
)

pub length_again : {m n : ℕ} {held held' : List ℕ} → m ≡ n → held ≡ held' → IsLength m held →
    IsLength n held'
length_again {n = n} {held = held} is same length =
    subst (IsLength n) same (subst (λ k. IsLength k held) is length)

-- an area that doesn't say so holds no image
pub untold_none : (held : List ℕ) → (TellsLength held → ⊥) → recorded held ≡ None
untold_none held not = by (recorded held) refl where
  by : (o : Option (List ℕ)) → recorded held ≡ o → o ≡ None
  by None is = refl
  by (Some image) is = absurd (not (recorded_tells held image is))

-- the image in what is written for it
pub record_image : (image : List ℕ) → drop 8 (record_of image) ≡ image
unfolding record_of
record_image image = drop_at (to_be_bytes w64 (length image)) image 8 refl

pub record_length : (image : List ℕ) → length (record_of image) ≡ 8 + length image
unfolding record_of
record_length image = length-append (to_be_bytes w64 (length image)) image

-- the length is put in place of the first eight bytes
pub put_all : (n : ℕ) (bytes text : List ℕ) → n ≡ length bytes → 8 ≤ length bytes →
    text ≡ record_of (drop 8 bytes) → take n text ≡ record_of (drop 8 bytes)
put_all n bytes text all long is =
    let fits : length text ≤ n =
    omega (arith, ap length is, record_length (drop 8 bytes), length-drop 8 bytes, all, long) in
    take_all n text fits ∙ is

-- what is written for an image, as a slice
pub text_long : (image rest : List ℕ) {end : ℕ} {bytes text : List ℕ} → text ≡ bytes →
    bytes ≡ record_of image ++ rest → end ≡ 8 + length image →
    (8 ≤ end) × (end ≤ length text)
text_long image rest same is at = (
  omega (arith, at),
  omega (
    arith,
    ap length same,
    ap length is,
    at,
    record_length image,
    length-append (record_of image) rest,
  ),
)

-- the image in it
pub image_seen : (image rest : List ℕ) (end : ℕ) {bytes text part : List ℕ} → text ≡ bytes →
    bytes ≡ record_of image ++ rest → end ≡ 8 + length image → part ≡ take (end - 8) (drop 8 text) →
    part ≡ image
unfolding record_of
image_seen image rest end same is at here =
    let head = to_be_bytes w64 (length image) in
    here ∙ ap (λ l. take (end - 8) (drop 8 l)) (same ∙ is ∙ append_assoc head image rest)
    ∙ ap (take (end - 8)) (drop_at head (image ++ rest) 8 refl)
    ∙ take_at image rest (end - 8) (omega (arith, at))

-- what was written is read, whatever follows it
pub recorded_front : (image rest : List ℕ) → length image ≤ GREATEST_SAVED →
    recorded (record_of image ++ rest) ≡ Some image
unfolding record_of told
recorded_front image rest fits =
    let n = length image in
    let head = to_be_bytes w64 n in
    let new = record_of image ++ rest in
    let size : length head ≡ 8 = refl in
    let whole : new ≡ head ++ (image ++ rest) = append_assoc head image rest in
    let tells : told new ≡ n =
    ap (from_be_bytes w64) (ap (take 8) whole ∙ take_at head (image ++ rest) 8 size)
    ∙ from_be_bytes-to_be_bytes_8 n (omega (arith, fits)) in
    let behind : drop 8 new ≡ image ++ rest =
    ap (drop 8) whole ∙ drop_at head (image ++ rest) 8 size in
    let long : length new ≡ 8 + (n + length rest) =
    ap length whole ∙ length-append head (image ++ rest)
    ∙ ap (λ k. 8 + k) (length-append image rest) in
    recorded_is new n tells fits (omega (arith, long))
    ∙ ap (λ (l : List ℕ). Some (take n l)) behind ∙ ap Some (take_at image rest n refl)

pub recorded_holds : (image rest : List ℕ) (old new : List ℕ) → length image ≤ GREATEST_SAVED →
    Holds 0 (record_of image ++ rest) old new → recorded new ≡ Some image
recorded_holds image rest old new fits is =
    let tail = drop (0 + length (record_of image ++ rest)) old in
    ap recorded (is ∙ append_assoc (record_of image) rest tail)
    ∙ recorded_front image (rest ++ tail) fits

-- what was read fills the buffer, if that many bytes were read
pub whole_read : {held old new : List ℕ} {at n : ℕ} (all : Bool) → Reads held at n old new →
    (all ≡ true → length old ≤ n) → (all ≡ false → n < length old) → IsWhole held at all old new
whole_read {held} {old} {new} {at} {n} all read enough short = record {
  enough = λ is. omega (arith, read.count, enough is);
  bytes = λ is.
      let whole : n ≡ length old = omega (arith, read.count, enough is) in
      let none : drop n old ≡ [] = drop_all n old (omega (arith, whole)) in
      read.bytes ∙ ap (λ (l : List ℕ). take n (drop at held) ++ l) none
      ∙ append-nil (take n (drop at held)) ∙ ap (λ k. take k (drop at held)) whole;
  short = λ is. omega (arith, read.count, short is);
}

-- the same from an offset on
pub whole_behind : {held old new : List ℕ} {all : Bool} (at from n : ℕ) → n ≡ at + from →
    1 ≤ from + length old → IsWhole held n all old new → IsWhole (drop at held) from all old new
whole_behind {held} {old} {new} {all} at from n same one whole = record {
  enough = λ is. omega (arith, whole.enough is, same, length-drop at held);
  bytes = λ is. whole.bytes is ∙ ap (λ k. take (length old) (drop k held)) same
      ∙ ap (take (length old)) (sym (drop-drop from at held));
  short = λ is. omega (arith, whole.short is, same, one, length-drop at held);
}

-- the first eight bytes say the length
pub told_read : (held new : List ℕ) → new ≡ take 8 held → told held ≡ from_be_bytes w64 new
unfolding told
told_read held new is = sym (ap (from_be_bytes w64) is)

-- as many bytes as the length says, read right after it, are the image
pub image_read : {held held' old new : List ℕ} {all : Bool} (rest : List ℕ) (n : ℕ) →
    IsWhole held' 8 all old new → all ≡ true → length old ≡ n → held' ≡ held → told held ≡ n →
    TellsLength held → recorded held ≡ Some (take n (new ++ rest))
image_read {held} {held'} {old} {new} rest n whole all size same tells fits =
    let is : new ≡ take n (drop 8 held') =
    whole.bytes all ∙ ap (λ k. take k (drop 8 held')) size in
    let within : length held' ≡ length held = ap length same in
    let enough : n ≤ length held' - 8 = omega (arith, whole.enough all, size) in
    let long : length new ≡ n =
    ap length is ∙ length-take-le n (drop 8 held') (omega (arith, length-drop 8 held')) in
    recorded_is held n tells (omega (arith, tells, fits.1.most))
    (omega (arith, within, fits.0, enough))
    ∙ ap (λ (l : List ℕ). Some (take n (drop 8 l))) (sym same)
    ∙ ap Some (sym (take_at new rest n long ∙ is))
