-- The first line of a text, by the place of its newline.
use Rattle.std.proofs.Common.{◌≡◌, ◌∙◌, ℕ, suc, ◌+◌, ◌<◌, ◌==◌, ◌||◌, Bool, true, false, cond, List, [], ◌∷◌, ◌++◌, length, take, drop, get_or, Option, Some, None, inl, inr, refl, sym, ap, arith, length-take}
use Rattle.std.specs.List.{All, slice_split}
use Rattle.std.specs.Str.{IsCharBoundary, IsUtf8}
use Rattle.std.specs.Str.Lines.{lines, lines_of_parts, strip_carriage_return}
use Rattle.std.proofs.Math.Seq.{drop-cons}
use Rattle.std.proofs.lemmas.Bool.{eqb-true}
use Rattle.std.proofs.lemmas.Bool.Decides.{eqb_tells}
use Rattle.std.proofs.lemmas.List.{get_or-take, get_or_default, take-append-drop}
use Rattle.std.proofs.lemmas.List.Splits.{length-slice_split, slice_split_at, slice_split_none}
use Rattle.std.proofs.lemmas.Str.{IsCharBoundary-after_ascii}
use Rattle.memchr.specs.Find.{IsFirstByte, is_byte, is_byte2}

-- the first newline in the front of a text is the first in the text
pub first_near : (text : List ℕ) (n k : ℕ) → IsFirstByte (is_byte 10) (take n text) (Some k)
    → IsFirstByte (is_byte 10) text (Some k)
first_near text n k h =
    let len = length-take n text in
    let same : (j : ℕ) → j < n → get_or (take n text) j 0 ≡ get_or text j 0 = λ j less.
    get_or-take n text j 0 less in (
      record {
        low = h.0.low;
        high = omega (arith, h.0.high, len);
        before = λ j low less passes.
            h.0.before j low less
            (ap (λ (b : ℕ). b == 10) (same j (omega (arith, h.0.high, len, less))) ∙ passes);
      },
      ap (λ (b : ℕ). b == 10) (sym (same k (omega (arith, h.0.high, len)))) ∙ h.1,
    )

-- two equal bytes
either : (t : Bool) → (t || t) ≡ t
either true = refl
either false = refl

pub first_of_two : (text : List ℕ) (r : Option ℕ) → IsFirstByte (is_byte2 10 10) text r
    → IsFirstByte (is_byte 10) text r
first_of_two text None h =
    λ k low high passes. h k low high (either (get_or text k 0 == 10) ∙ passes)
first_of_two text (Some k) h = (
  record {
    low = h.0.low;
    high = h.0.high;
    before = λ j low less passes.
        h.0.before j low less (either (get_or text j 0 == 10) ∙ passes);
  },
  sym (either (get_or text k 0 == 10)) ∙ h.1,
)

parts_cons : (x : List ℕ) (parts : List (List ℕ)) → 0 < length parts
    → lines_of_parts (x ∷ parts) ≡ strip_carriage_return x ∷ lines_of_parts parts
parts_cons x [] less = absurd (omega (arith, less))
parts_cons x (y ∷ more) less = refl

module _ (text : List ℕ) (k : ℕ) (h : IsFirstByte (is_byte 10) text (Some k)) where
  newline : get_or text k 0 ≡ 10
  newline = eqb-true (get_or text k 0) 10 h.1

  pub after_end : IsUtf8 text → IsCharBoundary text (k + 1)
  after_end utf8 = IsCharBoundary-after_ascii text k utf8 h.0.high (omega (arith, newline))

  others : (j : ℕ) → j < k → (get_or text j 0 == 10) ≡ false
  others j less = by (get_or text j 0 == 10) refl where
    by : (t : _) → (get_or text j 0 == 10) ≡ t → (get_or text j 0 == 10) ≡ false
    by true e = absurd (h.0.before j (omega arith) less e)
    by false e = e

  front : All (λ (b : ℕ). (b == 10) ≡ false) (take k text)
  front j d less =
      let len = length-take k text in
      let in_front : j < k = omega (arith, less, len) in
      ap (λ (b : ℕ). b == 10)
      (get_or-take k text j d in_front
      ∙ get_or_default text j d 0 (omega (arith, in_front, h.0.high)))
      ∙ others j in_front

  split : text ≡ take k text ++ 10 ∷ drop (k + 1) text
  split =
      let one : suc k ≡ k + 1 = omega arith in
      sym (take-append-drop k text)
      ∙ ap (λ (t : List ℕ). take k text ++ t) (drop-cons text k 0 h.0.high
      ∙ ap (λ (b : ℕ). b ∷ drop (suc k) text) newline
      ∙ ap (λ (m : ℕ). 10 ∷ drop m text) one)

  pub line_first : lines text
      ≡ strip_carriage_return (take k text) ∷ lines (drop (k + 1) text)
  line_first =
      let p = λ (b : ℕ). (b == 10) in
      let more = length-slice_split p (drop (k + 1) text) in
      ap lines split
      ∙ ap lines_of_parts (slice_split_at p (take k text) 10 (drop (k + 1) text) front refl)
      ∙ parts_cons (take k text) (slice_split p (drop (k + 1) text)) (omega (arith, more))

pub line_only : (text : List ℕ) → 0 < length text → IsFirstByte (is_byte 10) text None
    → lines text ≡ text ∷ []
line_only text some h =
    let p = λ (b : ℕ). (b == 10) in
    let none : All (λ (b : ℕ). (b == 10) ≡ false) text =
    λ j d less. by j d less (get_or text j d == 10) refl in
    ap lines_of_parts (slice_split_none p text none)
    ∙ ap (λ t. cond t [] (text ∷ [])) (different (length text) some)
  where
    different : (n : ℕ) → 0 < n → (n == 0) ≡ false
    different n less = elim (eqb_tells n 0) [
      | inl same ↦ absurd (omega (arith, same.1, less))
      | inr other ↦ other.0
    ]

    by : (j d : ℕ) → j < length text → (t : _) → (get_or text j d == 10) ≡ t
        → (get_or text j d == 10) ≡ false
    by j d less true e =
        absurd (h j (omega arith) less (ap (λ (b : ℕ). b == 10)
        (get_or_default text j 0 d less) ∙ e))
    by j d less false e = e
