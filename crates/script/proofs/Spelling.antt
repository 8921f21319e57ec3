-- Numbers, and words that spell them.
use Rattle.std.proofs.Common.{◌≡◌, ◌∙◌, ◌<◌, ◌≤◌, ◌^◌, ℕ, Bool, true, false, cond, nat_lt, List, [], ◌∷◌, length, Some, None, refl, sym, ap, arith, decimal}
use Rattle.std.specs.Char.{is_ascii_digit, digit_value}
use Rattle.std.specs.List.{list_all}
use Rattle.std.specs.Option.{option_and_then}
use Rattle.std.specs.Str.Parse.{AllDigits, digits_value}
use Rattle.std.proofs.lemmas.Bool.{cond-true, le-leb, lt-ltb, ltb-false, ltb-true}
use Rattle.std.proofs.lemmas.Bool.Decides.{nat_tests}
use Rattle.std.proofs.lemmas.Str.Parse.{digit_from_value}
use Rattle.std.proofs.lemmas.Fmt.{decimal_is_IsNumeral, length-decimal-le}
use Rattle.script.specs.declared.line.TheConstants.{MOST_DIGITS}
use Rattle.script.specs.Grammar.{is_number, number_below, u8_of, u16_of, u32_of, u64_of}

digit : (c : ℕ) → digit_value c < 10 → is_ascii_digit c ≡ true
digit c is = let within = digit_from_value c is in grind (arith, nat_tests)

all_digits : (ds : List ℕ) → AllDigits 10 ds → list_all is_ascii_digit ds ≡ true
all_digits [] is = refl
all_digits (c ∷ cs) is = rw (digit c is.0) (all_digits cs is.1)

-- the digits of a number spell it
decimal_below : (limit n : ℕ) → n < 2 ^ 64
    → number_below limit (decimal n) ≡ cond (nat_lt n limit) (Some n) None
unfolding is_number
decimal_below limit n fits =
    let is = decimal_is_IsNumeral n fits in
    let short : length (decimal n) ≤ 20 = length-decimal-le 20 n (omega arith) (omega arith) fits in
    rw (
      lt-ltb 0 (length (decimal n)) is.0.0,
      le-leb (length (decimal n)) MOST_DIGITS short,
      all_digits (decimal n) is.0.1,
      is.1,
    ) refl

pub u64_of_decimal : (n : ℕ) → n < 2 ^ 64 → u64_of (decimal n) ≡ Some n
unfolding u64_of
u64_of_decimal n fits = decimal_below (2 ^ 64) n fits ∙ cond-true _ _ _ (lt-ltb n (2 ^ 64) fits)

-- so a narrower number is read if it fits
pub u8_of_decimal : (n : ℕ) → n < 2 ^ 64
    → u8_of (decimal n) ≡ cond (nat_lt n (2 ^ 8)) (Some n) None
unfolding u8_of
u8_of_decimal n fits = decimal_below (2 ^ 8) n fits

pub u16_of_decimal : (n : ℕ) → n < 2 ^ 64
    → u16_of (decimal n) ≡ cond (nat_lt n (2 ^ 16)) (Some n) None
unfolding u16_of
u16_of_decimal n fits = decimal_below (2 ^ 16) n fits

pub u32_of_decimal : (n : ℕ) → n < 2 ^ 64
    → u32_of (decimal n) ≡ cond (nat_lt n (2 ^ 32)) (Some n) None
unfolding u32_of
u32_of_decimal n fits = decimal_below (2 ^ 32) n fits

-- ---- what a word spells

-- a number below a limit by the number that the word spells
below-is : (limit : ℕ) (w : List ℕ) → limit ≤ 2 ^ 64
    → number_below limit w ≡ option_and_then (λ n. number_below limit (decimal n)) (u64_of w)
unfolding u64_of
below-is limit w small = by (is_number w) (nat_lt n limit) (nat_lt n (2 ^ 64)) refl refl where
  n : ℕ
  n = digits_value 10 w

  by : (is below fits : Bool) → nat_lt n limit ≡ below → nat_lt n (2 ^ 64) ≡ fits
      → cond is (cond below (Some n) None) None ≡ option_and_then
      (λ n. number_below limit (decimal n)) (cond is (cond fits (Some n) None) None)
  by false below fits e f = refl
  by true below true e f =
      sym (decimal_below limit n (ltb-true n (2 ^ 64) f)
      ∙ ap (λ (b : Bool). cond b (Some n) None) e)
  by true false false e f = refl
  by true true false e f =
      let under = ltb-true n limit e in
      let over = ltb-false n (2 ^ 64) f in
      absurd (omega (arith, small, under, over))

pub u8-is : (w : List ℕ) → u8_of w ≡ option_and_then (λ n. u8_of (decimal n)) (u64_of w)
unfolding u8_of
u8-is w = below-is (2 ^ 8) w (omega arith)

pub u16-is : (w : List ℕ) → u16_of w ≡ option_and_then (λ n. u16_of (decimal n)) (u64_of w)
unfolding u16_of
u16-is w = below-is (2 ^ 16) w (omega arith)

pub u32-is : (w : List ℕ) → u32_of w ≡ option_and_then (λ n. u32_of (decimal n)) (u64_of w)
unfolding u32_of
u32-is w = below-is (2 ^ 32) w (omega arith)

pub u64-is : (w : List ℕ) → u64_of w ≡ option_and_then (λ n. u64_of (decimal n)) (u64_of w)
unfolding u64_of
u64-is w = below-is (2 ^ 64) w (omega arith)
