-- One digit at the front of a text, followed by one space.
use Rattle.std.proofs.Common.{◌≡◌, ◌∙◌, ◌+◌, ◌-◌, ◌*◌, ◌^◌, ◌<◌, ◌≤◌, ◌&&◌, ℕ, Bool, true, false, not, cond, List, [], ◌∷◌, length, drop, get_or, Some, refl, sym, ap, subst, arith}
use Rattle.std.specs.Char.{is_ascii_digit}
use Rattle.std.specs.Str.{IsUtf8, IsCharBoundary}
use Rattle.std.proofs.lemmas.Bool.{and_parts, cond-true, eqb-true, false≢true, lt-ltb}
use Rattle.std.proofs.lemmas.Str.{IsCharBoundary-after_ascii}
use Rattle.script.specs.Grammar.{u64_of, value_after}
use Rattle.script.specs.Words.{digit_count, ends_word, fits_word, is_one_digit, is_space, word_of}
use Rattle.script.proofs.Fronts.{digits_of, number_is, word_ends, word_number, at_digit}

-- the three tests
record Tests (digit space next : ℕ) : Type 0 where
  is_digit : is_ascii_digit digit ≡ true
  is_one : is_space space ≡ true
  is_other : is_space next ≡ false

not_true : (b : Bool) → not b ≡ true → b ≡ false
not_true true is = absurd (false≢true is)
not_true false is = refl

three : (d s n : ℕ) (more : List ℕ) → is_one_digit (d ∷ s ∷ n ∷ more) ≡ true → Tests d s n
three d s n more is =
    let both = and_parts (is_ascii_digit d) (is_space s && not (is_space n)) is in
    let rest = and_parts (is_space s) (not (is_space n)) both.1 in
    record { is_digit = both.0; is_one = rest.0; is_other = not_true (is_space n) rest.1 }

-- a digit is small
small : (d : ℕ) → is_ascii_digit d ≡ true → (48 ≤ d) × (d ≤ 57)
small d is = grind arith

pub one_there : (text : List ℕ) → is_one_digit text ≡ true → 2 < length text
one_there [] is = absurd cc
one_there (d ∷ []) is = absurd cc
one_there (d ∷ s ∷ []) is = absurd cc
one_there (d ∷ s ∷ n ∷ more) is = omega arith

pub one_digit : (text : List ℕ) → is_one_digit text ≡ true
    → is_ascii_digit (get_or text 0 0) ≡ true
one_digit [] is = absurd cc
one_digit (d ∷ []) is = absurd cc
one_digit (d ∷ s ∷ []) is = absurd cc
one_digit (d ∷ s ∷ n ∷ more) is = (three d s n more is).is_digit

pub one_cut : (text : List ℕ) → IsUtf8 text → is_one_digit text ≡ true → IsCharBoundary text 2
one_cut [] utf8 is = absurd cc
one_cut (d ∷ []) utf8 is = absurd cc
one_cut (d ∷ s ∷ []) utf8 is = absurd cc
one_cut (d ∷ s ∷ n ∷ more) utf8 is =
    let at : s ≡ 32 = eqb-true s 32 (three d s n more is).is_one in
    IsCharBoundary-after_ascii (d ∷ s ∷ n ∷ more) 1 utf8 (omega arith) (omega (arith, at))

module _ (d n : ℕ) (more : List ℕ) (digit : is_ascii_digit d ≡ true)
    (other : is_space n ≡ false) where
  abbrev text : List ℕ
  text = d ∷ 32 ∷ n ∷ more

  count : digit_count text ≡ 1
  count = ap (λ (t : Bool). cond t (1 + digit_count (32 ∷ n ∷ more)) 0) digit

  ends : ends_word (drop (digit_count text) text) ≡ true
  ends = ap (λ (k : ℕ). ends_word (drop k text)) count

  value : value_after 0 (digits_of text) ≡ Some (d - 48)
  value =
      let bound = small d digit in
      let sum : 0 * 10 + (d - 48) ≡ d - 48 = omega arith in
      at_digit 0 d (32 ∷ n ∷ more) digit
      ∙ cond-true _ _ _ (lt-ltb (0 * 10 + (d - 48)) (2 ^ 64) (omega (arith, bound.1)))
      ∙ ap (λ (k : ℕ). Some k) sum

  number : Some (d - 48) ≡ u64_of (word_of text)
  number = sym value ∙ number_is (word_number text) (word_ends text ends) (ap fits_word count)

pub one_number : (text : List ℕ) → is_one_digit text ≡ true
    → Some (get_or text 0 0 - 48) ≡ u64_of (word_of text)
one_number [] is = absurd cc
one_number (d ∷ []) is = absurd cc
one_number (d ∷ s ∷ []) is = absurd cc
one_number (d ∷ s ∷ n ∷ more) is =
    let t = three d s n more is in
    subst (λ (k : ℕ). Some (d - 48) ≡ u64_of (word_of (d ∷ k ∷ n ∷ more)))
    (sym (eqb-true s 32 t.is_one)) (number d n more t.is_digit t.is_other)
