-- The number that a word of digits spells.
use Rattle.std.proofs.Common.{◌≡◌, ℕ, ◌+◌, ◌-◌, ◌*◌, ◌^◌, ◌<◌, ◌≤◌, ⊎_elim, ◌&&◌, Bool, true, false, cond, nat_lt, List, [], ◌∷◌, Option, Some, None, refl, ◌∙◌, ap, sym, arith, rules, tests}
use Rattle.std.specs.Char.{digit_value, is_ascii_digit}
use Rattle.std.specs.List.{list_all}
use Rattle.std.specs.Str.Parse.{digits_value_after}
use Rattle.std.proofs.lemmas.Bool.{cases_lt, cond-false, cond-true, le-ltb, lt-ltb}
use Rattle.std.proofs.lemmas.Str.{digit_value_digit}
use Rattle.script.specs.Grammar.{value_after}

-- the number spelled by the digits of n followed by these, if all are digits and it fits
abbrev checked : ℕ → List ℕ → Option ℕ
checked n ds =
    let value = digits_value_after 10 n ds in
    cond (list_all is_ascii_digit ds) (cond (nat_lt value (2 ^ 64)) (Some value) None) None

-- further digits don't make a number smaller
grows : (n : ℕ) (ds : List ℕ) → n ≤ digits_value_after 10 n ds
grows n [] = omega arith
grows n (c ∷ cs) = omega (arith, grows (n * 10 + digit_value c) cs)

too_large : (n : ℕ) (ds : List ℕ) → 2 ^ 64 ≤ n → checked n ds ≡ None
too_large n ds large =
    let value : ℕ = digits_value_after 10 n ds in
    let above : nat_lt value (2 ^ 64) ≡ false = le-ltb value (2 ^ 64) (omega (arith, grows n ds)) in
    elim (list_all is_ascii_digit ds)
    as (λ b. cond b (cond (nat_lt value (2 ^ 64)) (Some value) None) None ≡ None) [
      | true ↦ cond-false _ _ _ above
      | false ↦ refl
    ]

digit : (c : ℕ) → is_ascii_digit c ≡ true → digit_value c ≡ c - 48
digit c is = omega (arith, digit_value_digit c (search (rules, tests)))

-- the first of the digits, when the others are known
from_digit : (n c : ℕ) (cs : List ℕ) → is_ascii_digit c ≡ true
    → ((m : ℕ) → m < 2 ^ 64 → value_after m cs ≡ checked m cs)
    → cond (nat_lt (n * 10 + (c - 48)) (2 ^ 64)) (value_after (n * 10 + (c - 48)) cs) None
    ≡ checked (n * 10 + digit_value c) cs
from_digit n c cs is others =
    let more : ℕ = n * 10 + (c - 48) in
    let same : more ≡ n * 10 + digit_value c = ap (λ d. n * 10 + d) (sym (digit c is)) in
    ⊎_elim
    (λ below. cond-true _ _ _ (lt-ltb more (2 ^ 64) below) ∙ others more below
    ∙ ap (λ m. checked m cs) same)
    (λ above. cond-false _ _ _ (le-ltb more (2 ^ 64) above) ∙ sym (too_large more cs above)
    ∙ ap (λ m. checked m cs) same)
    (cases_lt more (2 ^ 64))

-- so the number is read digit by digit
pub value_checked : (n : ℕ) (ds : List ℕ) → n < 2 ^ 64 → value_after n ds ≡ checked n ds
value_checked n [] small = sym (cond-true _ _ _ (lt-ltb n (2 ^ 64) small))
value_checked n (c ∷ cs) small =
    let value = digits_value_after 10 (n * 10 + digit_value c) cs in
    let test : Bool = is_ascii_digit c in
    let more = n * 10 + (c - 48) in
    elim test as (λ b. test ≡ b
    → cond b (cond (nat_lt more (2 ^ 64)) (value_after more cs) None) None
    ≡ cond (b && list_all is_ascii_digit cs)
    (cond (nat_lt value (2 ^ 64)) (Some value) None) None) [
      | true ↦ λ is. from_digit n c cs is (λ m fits. value_checked m cs fits)
      | false ↦ λ is. refl
    ] refl
