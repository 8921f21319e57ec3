-- The digits at the front of a text, and the number that they spell.
use Rattle.std.proofs.Common.{◌≡◌, ◌≢◌, ◌∙◌, ◌+◌, ◌-◌, ◌*◌, ◌^◌, ◌<◌, ◌≤◌, ◌&&◌, ◌==◌, ℕ, zero, suc, Bool, true, false, not, cond, nat_le, nat_lt, List, [], ◌∷◌, length, take, drop, get_or, Option, Some, None, inl, inr, refl, sym, ap, subst, arith, rules, tests, length-take}
use Rattle.std.specs.Char.{is_ascii_digit}
use Rattle.std.specs.List.{list_all}
use Rattle.std.specs.Str.Parse.{digits_value_after}
use Rattle.std.proofs.Math.Seq.{drop-cons}
use Rattle.std.proofs.lemmas.Bool.{cond-false, cond-true, eq-eqb, eqb-false, eqb-true, le-ltb, lt-ltb}
use Rattle.std.proofs.lemmas.Bool.Decides.{eqb_tells, nat_tests}
use Rattle.std.proofs.lemmas.List.{take-take}
use Rattle.std.proofs.lemmas.List.Sums.{prefix_len-drop_yes, prefix_len-le-length}
use Rattle.script.specs.declared.line.TheConstants.{MOST_DIGITS}
use Rattle.script.specs.Grammar.{is_number, u64_of, value_after}
use Rattle.script.specs.Words.{digit_count, ends_word, fits_word, is_space, starts_number, word_end, word_of}
use Rattle.script.proofs.Numbers.{value_checked}
use Rattle.script.proofs.Words.{drop_one, take_one}

abbrev pub digits_of : List ℕ → List ℕ
digits_of text = take (digit_count text) text

-- the number at a digit
pub at_digit : (n c : ℕ) (cs : List ℕ) → is_ascii_digit c ≡ true
    → value_after n (digits_of (c ∷ cs)) ≡ cond (nat_lt (n * 10 + (c - 48)) (2 ^ 64))
    (value_after (n * 10 + (c - 48)) (digits_of cs)) None
at_digit n c cs is =
    ap (λ (t : Bool). value_after n (take (cond t (1 + digit_count cs) 0) (c ∷ cs))) is
    ∙ ap (value_after n) (take_one c cs (digit_count cs))
    ∙ ap (λ (t : Bool). cond t (cond (nat_lt (n * 10 + (c - 48)) (2 ^ 64))
    (value_after (n * 10 + (c - 48)) (digits_of cs)) None) None) is

-- and at a later place
module _ (n i : ℕ) (text : List ℕ) (within : i < length text)
    (is : is_ascii_digit (get_or text i 0) ≡ true) where
  abbrev more : ℕ
  more = n * 10 + (get_or text i 0 - 48)

  next_digit : value_after n (digits_of (drop i text))
      ≡ cond (nat_lt more (2 ^ 64)) (value_after more (digits_of (drop (i + 1) text))) None
  next_digit =
      let one : suc i ≡ i + 1 = omega arith in
      ap (λ (t : List ℕ). value_after n (digits_of t)) (drop-cons text i 0 within)
      ∙ at_digit n (get_or text i 0) (drop (suc i) text) is
      ∙ ap (λ (k : ℕ). cond (nat_lt more (2 ^ 64))
      (value_after more (digits_of (drop k text))) None) one

  pub larger : (more < 2 ^ 64 → ⊥) → value_after n (digits_of (drop i text)) ≡ None
  larger over = next_digit ∙ cond-false _ _ _ (le-ltb more (2 ^ 64) (omega (arith, over)))

  pub goes_on : more < 2 ^ 64 → value_after more (digits_of (drop (i + 1) text))
      ≡ value_after n (digits_of (drop i text))
  goes_on fits = sym (next_digit ∙ cond-true _ _ _ (lt-ltb more (2 ^ 64) fits))

  pub one_more : digit_count (drop i text) ≡ 1 + digit_count (drop (i + 1) text)
  one_more = prefix_len-drop_yes is_ascii_digit text i 0 within is

-- ---- the first digit

pub no_digits : (text : List ℕ) → starts_number text ≡ false → 0 ≡ digit_count text
no_digits [] none = refl
no_digits (c ∷ cs) none = sym (ap (λ (t : Bool). cond t (1 + digit_count cs) 0) none)

pub spell_none : (text : List ℕ) → starts_number text ≡ false
    → Some 0 ≡ value_after 0 (take (digit_count text) text)
spell_none text none = ap (λ (k : ℕ). value_after 0 (take k text)) (no_digits text none)

pub some_digit : (text : List ℕ) → starts_number text ≡ true → 0 < length text
some_digit [] is = absurd cc
some_digit (c ∷ cs) is = omega arith

pub digit_first : (text : List ℕ) → starts_number text ≡ true
    → is_ascii_digit (get_or text 0 0) ≡ true
digit_first [] is = absurd cc
digit_first (c ∷ cs) is = is

-- tests of numbers that are one greater
eq_suc : (a b : ℕ) → (1 + a == 1 + b) ≡ (a == b)
eq_suc a b = grind (arith, nat_tests)

pub different : (a b : ℕ) → a ≢ b → (a == b) ≡ false
different a b apart = elim (eqb_tells a b) [
  | inl same ↦ absurd (apart same.1)
  | inr other ↦ other.0
]

cond-same : {X : Type 0} (b : Bool) (x : X) → cond b x x ≡ x
cond-same true x = refl
cond-same false x = refl

swap : {X : Type 0} (a b : Bool) (o : Option X)
    → cond a (cond b o None) None ≡ cond b (cond a o None) None
swap true b o = refl
swap false true o = refl
swap false false o = refl

-- a word is a number if it has nothing but its digits
all-one : (n c : ℕ) (cs : List ℕ) (is : Bool) → is_ascii_digit c ≡ is
    → ((m : ℕ) → value_after m cs
    ≡ cond (digit_count cs == length cs) (value_after m (digits_of cs)) None)
    → value_after n (c ∷ cs)
    ≡ cond (digit_count (c ∷ cs) == length (c ∷ cs)) (value_after n (digits_of (c ∷ cs))) None
all-one n c cs true is others =
    let more : ℕ = n * 10 + (c - 48) in
    let len : length (c ∷ cs) ≡ 1 + length cs = omega arith in
    ap (λ (t : Bool). cond t (cond (nat_lt more (2 ^ 64)) (value_after more cs) None) None) is
    ∙ ap (λ (o : Option ℕ). cond (nat_lt more (2 ^ 64)) o None) (others more)
    ∙ swap (nat_lt more (2 ^ 64)) (digit_count cs == length cs) (value_after more (digits_of cs))
    ∙ ap (λ (o : Option ℕ). cond (digit_count cs == length cs) o None) (sym (at_digit n c cs is))
    ∙ ap (λ (t : Bool). cond t (value_after n (digits_of (c ∷ cs))) None)
    (sym (eq_suc (digit_count cs) (length cs)) ∙ ap (λ (k : ℕ). 1 + digit_count cs == k) (sym len)
    ∙ ap (λ (t : Bool). cond t (1 + digit_count cs) 0 == length (c ∷ cs)) (sym is))
all-one n c cs false is others =
    let none : (0 == length (c ∷ cs)) ≡ false = search (rules, tests) in
    ap (λ (t : Bool). cond t (cond (nat_lt (n * 10 + (c - 48)) (2 ^ 64))
    (value_after (n * 10 + (c - 48)) cs) None) None) is
    ∙ sym (ap (λ (t : Bool). cond t (value_after n (digits_of (c ∷ cs))) None)
    (ap (λ (t : Bool). cond t (1 + digit_count cs) 0 == length (c ∷ cs)) is ∙ none))

all-front : (n : ℕ) (w : List ℕ)
    → value_after n w ≡ cond (digit_count w == length w) (value_after n (digits_of w)) None
all-front n [] = refl
all-front n (c ∷ cs) = all-one n c cs (is_ascii_digit c) refl (λ m. all-front m cs)

-- the number of a word that ends here and begins with this many digits, which spell this value
abbrev number_at : (digits end : ℕ) → Option ℕ → Option ℕ
number_at digits end value = cond (fits_word end) (cond (digits == end) value None) None

pub record IsNumberAt (digits end : ℕ) (value u : Option ℕ) : Type 0 where
  is : u ≡ number_at digits end value

whole_is : (w : List ℕ)
    → u64_of w ≡ number_at (digit_count w) (length w) (value_after 0 (digits_of w))
unfolding u64_of is_number
whole_is w =
    by (nat_lt 0 (length w)) (nat_le (length w) MOST_DIGITS)
    ∙ ap (λ (o : Option ℕ). cond (fits_word (length w)) o None)
    (sym (value_checked 0 w (omega arith)) ∙ all-front 0 w)
  where
    by : (a b : Bool)
        → cond (a && (b && list_all is_ascii_digit w))
        (cond (nat_lt (digits_value_after 10 0 w) (2 ^ 64)) (Some (digits_value_after 10 0 w)) None)
        None ≡ cond (a && b) (cond (list_all is_ascii_digit w)
        (cond (nat_lt (digits_value_after 10 0 w) (2 ^ 64)) (Some (digits_value_after 10 0 w)) None)
        None) None
    by true true = refl
    by true false = refl
    by false b = refl

pub whole_number : (w : List ℕ)
    → IsNumberAt (digit_count w) (length w) (value_after 0 (digits_of w)) (u64_of w)
whole_number w = record { is = whole_is w }

-- digits end before a space
record Stops (text : List ℕ) (digits end : ℕ) : Type 0 where
  same : digit_count (take end text) ≡ digits
  within : digits ≤ end
  whole : (digits == end) ≡ ends_word (drop digits text)

front_count : (c : ℕ) (cs : List ℕ) (n : ℕ)
    → digit_count (take (1 + n) (c ∷ cs)) ≡ cond (is_ascii_digit c) (1 + digit_count (take n cs)) 0
front_count c cs n = ap digit_count (take_one c cs n)

stops_one : (c : ℕ) (cs : List ℕ) (digit space : Bool) → is_ascii_digit c ≡ digit
    → is_space c ≡ space → Stops cs (digit_count cs) (word_end cs)
    → Stops (c ∷ cs) (cond digit (1 + digit_count cs) 0) (cond (not space) (1 + word_end cs) 0)
stops_one c cs true true digit space s =
    let is : c ≡ 32 = eqb-true c 32 space in
    let other : is_ascii_digit 32 ≡ true = subst (λ (k : ℕ). is_ascii_digit k ≡ true) is digit in
    absurd cc
stops_one c cs true false digit space s = record {
  same = front_count c cs (word_end cs)
      ∙ ap (λ (t : Bool). cond t (1 + digit_count (take (word_end cs) cs)) 0) digit
      ∙ ap (λ (k : ℕ). 1 + k) s.same;
  within = omega (arith, s.within);
  whole = eq_suc (digit_count cs) (word_end cs) ∙ s.whole
      ∙ ap ends_word (sym (drop_one c cs (digit_count cs)));
}
stops_one c cs false true digit space s = record {
  same = refl;
  within = omega arith;
  whole = sym space;
}
stops_one c cs false false digit space s =
    let none : (0 == 1 + word_end cs) ≡ false = search (rules, tests) in
    record {
      same = front_count c cs (word_end cs)
          ∙ ap (λ (t : Bool). cond t (1 + digit_count (take (word_end cs) cs)) 0) digit;
      within = omega arith;
      whole = none ∙ sym space;
    }

stops : (text : List ℕ) → Stops text (digit_count text) (word_end text)
stops [] = record { same = refl; within = omega arith; whole = refl }
stops (c ∷ cs) = stops_one c cs (is_ascii_digit c) (is_space c) refl refl (stops cs)

-- the number of the word at the front of a text
pub word_number : (text : List ℕ) → IsNumberAt (digit_count text) (word_end text)
    (value_after 0 (digits_of text)) (u64_of (word_of text))
word_number text =
    let s = stops text in
    let w = word_of text in
    let len : length w ≡ word_end text =
    omega (
      arith,
      length-take (word_end text) text,
      prefix_len-le-length (λ x. not (is_space x)) text,
    ) in
    let digits : digits_of w ≡ digits_of text =
    ap (λ (k : ℕ). take k w) s.same
    ∙ take-take (digit_count text) (word_end text) text s.within in
    record {
      is = whole_is w
          ∙ ap (λ (k : ℕ). number_at (digit_count w) k (value_after 0 (digits_of w))) len
          ∙ ap (λ (k : ℕ). number_at k (word_end text) (value_after 0 (digits_of w))) s.same
          ∙ ap (λ (ds : List ℕ). number_at (digit_count text) (word_end text) (value_after 0 ds))
          digits;
    }

-- it is the whole word if the word ends after its digits
pub word_ends : (text : List ℕ) → ends_word (drop (digit_count text) text) ≡ true
    → digit_count text ≡ word_end text
word_ends text ends = eqb-true _ _ ((stops text).whole ∙ ends)

pub word_goes_on : (text : List ℕ) → ends_word (drop (digit_count text) text) ≡ false
    → digit_count text ≢ word_end text
word_goes_on text goes_on = eqb-false _ _ ((stops text).whole ∙ goes_on)

-- by the tests that decide whether there is such a number
module _ {digits end : ℕ} {value u : Option ℕ} (at : IsNumberAt digits end value u) where
  pub not_value : None ≡ value → None ≡ u
  not_value none =
      sym (at.is ∙ ap (number_at digits end) (sym none)
      ∙ ap (λ (o : Option ℕ). cond (fits_word end) o None) (cond-same (digits == end) None)
      ∙ cond-same (fits_word end) None)

  pub not_whole : digits ≢ end → None ≡ u
  not_whole part =
      sym (at.is ∙ ap (λ (o : Option ℕ). cond (fits_word end) o None)
      (cond-false _ _ _ (different digits end part)) ∙ cond-same (fits_word end) None)

  pub not_fitting : digits ≡ end → fits_word digits ≡ false → None ≡ u
  not_fitting whole unfit = sym (at.is ∙ cond-false _ _ _ (ap fits_word (sym whole) ∙ unfit))

  pub number_is : digits ≡ end → fits_word digits ≡ true → value ≡ u
  number_is whole fits =
      sym (at.is ∙ cond-true _ _ _ (ap fits_word (sym whole) ∙ fits)
      ∙ cond-true _ _ _ (eq-eqb digits end whole))

  pub no_digit : digits ≡ 0 → None ≡ u
  no_digit none = sym (at.is ∙ ap (λ (k : ℕ). number_at k end value) none ∙ by end) where
    by : (end : ℕ) → number_at 0 end value ≡ None
    by zero = refl
    by (suc n) =
        let some : (0 == suc n) ≡ false = search (rules, tests) in
        ap (λ (o : Option ℕ). cond (fits_word (suc n)) o None) (cond-false _ _ _ some)
        ∙ cond-same (fits_word (suc n)) None
