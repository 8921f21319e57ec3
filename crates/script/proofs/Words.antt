-- The words of a text, one after another.
use Rattle.std.proofs.Common.{◌≡◌, ℕ, suc, ◌+◌, ◌<◌, ◌==◌, nat_lt, Bool, true, false, not, cond, List, [], ◌∷◌, length, filter, take, drop, get_or, refl, ap, sym, ◌∙◌, subst, arith}
use Rattle.std.specs.List.{slice_split, onto_first, prefix_len}
use Rattle.std.specs.Str.{IsUtf8, IsCharBoundary}
use Rattle.std.proofs.Math.Seq.{drop-cons}
use Rattle.std.proofs.lemmas.Bool.{eq-eqb, eqb-true, cond-true, lt-ltb}
use Rattle.std.proofs.lemmas.List.{get_or-take}
use Rattle.std.proofs.lemmas.List.Sums.{fails_before_first, position_or_len_is, prefix_len-le-length, passes_at_first}
use Rattle.std.proofs.lemmas.Str.{IsUtf8-drop, IsCharBoundary-after_ascii, IsCharBoundary-from_drop}
use Rattle.script.specs.Grammar.{words_of}
use Rattle.script.specs.Words.{IsTrimmed, behind, ends_word, is_space, past, word_end, word_of}

-- the words of a text whose parts are these
abbrev filled : List (List ℕ) → List (List ℕ)
filled parts = filter (λ word. nat_lt 0 (length word)) parts

-- the parts of a text whose first byte is a space, or not
abbrev parts_with : Bool → ℕ → List ℕ → List (List ℕ)
parts_with is b text =
    cond is ([] ∷ slice_split is_space text) (onto_first b (slice_split is_space text))

-- the words of a text by its first byte
by_first : (b : ℕ) (text : List ℕ) (is : Bool) → is_space b ≡ is
    → words_of (b ∷ text) ≡ filled (parts_with is b text)
unfolding words_of
by_first b text is e = ap (λ (t : Bool). filled (parts_with t b text)) e

pub drop_one : (b : ℕ) (text : List ℕ) (n : ℕ) → drop (1 + n) (b ∷ text) ≡ drop n text
drop_one b text n =
    let one : 1 + n ≡ suc n = omega arith in
    ap (λ (m : ℕ). drop m (b ∷ text)) one

pub take_one : (b : ℕ) (text : List ℕ) (n : ℕ) → take (1 + n) (b ∷ text) ≡ b ∷ take n text
take_one b text n =
    let one : 1 + n ≡ suc n = omega arith in
    ap (λ (m : ℕ). take m (b ∷ text)) one

-- ---- spaces at the front

past_one : (P : List ℕ → Type 0) (b : ℕ) (text : List ℕ) (is : Bool) → is_space b ≡ is
    → (is ≡ true → P (past text)) → (is ≡ false → P (b ∷ text))
    → P (drop (cond is (1 + prefix_len is_space text) 0) (b ∷ text))
past_one P b text true e space other =
    subst P (sym (drop_one b text (prefix_len is_space text))) (space refl)
past_one P b text false e space other = other refl

words_past : (b : ℕ) (text : List ℕ) → is_space b ≡ true → words_of text ≡ words_of (b ∷ text)
unfolding words_of
words_past b text e = sym (by_first b text true e)

utf8_after : (b : ℕ) (text : List ℕ) → IsUtf8 (b ∷ text) → is_space b ≡ true → IsUtf8 text
utf8_after b text utf8 e =
    let is : b ≡ 32 = eqb-true b 32 e in
    IsUtf8-drop (b ∷ text) 1 utf8
    (IsCharBoundary-after_ascii (b ∷ text) 0 utf8 (omega arith) (omega (arith, is)))

pub after_spaces : (text : List ℕ) → words_of (past text) ≡ words_of text
after_spaces [] = refl
after_spaces (b ∷ text) =
    past_one (λ t. words_of t ≡ words_of (b ∷ text)) b text (is_space b) refl
    (λ e. after_spaces text ∙ words_past b text e) (λ _. refl)

past_utf8 : (text : List ℕ) → IsUtf8 text → IsUtf8 (past text)
past_utf8 [] utf8 = utf8
past_utf8 (b ∷ text) utf8 =
    past_one IsUtf8 b text (is_space b) refl
    (λ e. past_utf8 text (utf8_after b text utf8 e)) (λ _. utf8)

-- then no space is at the front
past_all : (text : List ℕ) → prefix_len is_space (past text) ≡ 0
past_all [] = refl
past_all (b ∷ text) =
    past_one (λ t. prefix_len is_space t ≡ 0) b text (is_space b) refl
    (λ _. past_all text)
    (λ e. ap (λ (t : Bool). cond t (1 + prefix_len is_space text) 0) e)

pub past_trimmed : (text : List ℕ) → IsTrimmed (past text)
past_trimmed text = record { none = past_all text }

-- ---- the word at the front

-- the parts of a text: the first one, and those whose words are the words after it
record Parts (text first others : List ℕ) : Type 0 where
  rest : List (List ℕ)
  parts : slice_split is_space text ≡ first ∷ rest
  words : filled rest ≡ words_of others

parts_one : (b : ℕ) (text : List ℕ) (is : Bool) → is_space b ≡ is
    → Parts text (word_of text) (drop (word_end text) text)
    → Parts (b ∷ text) (take (cond (not is) (1 + word_end text) 0) (b ∷ text))
    (drop (cond (not is) (1 + word_end text) 0) (b ∷ text))
unfolding words_of
parts_one b text true e p = record {
  rest = slice_split is_space text;
  parts = ap (λ (t : Bool). parts_with t b text) e;
  words = sym (by_first b text true e);
}
parts_one b text false e p = record {
  rest = p.rest;
  parts = ap (λ (t : Bool). parts_with t b text) e ∙ ap (onto_first b) p.parts
      ∙ ap (λ (w : List ℕ). w ∷ p.rest) (sym (take_one b text (word_end text)));
  words = p.words ∙ ap words_of (sym (drop_one b text (word_end text)));
}

parts_of : (text : List ℕ) → Parts text (word_of text) (drop (word_end text) text)
unfolding words_of
parts_of [] = record { rest = []; parts = refl; words = refl }
parts_of (b ∷ text) = parts_one b text (is_space b) refl (parts_of text)

filled_one : (b : ℕ) (w : List ℕ) (rest : List (List ℕ))
    → filled ((b ∷ w) ∷ rest) ≡ (b ∷ w) ∷ filled rest
filled_one b w rest = cond-true _ _ _ (lt-ltb 0 (length (b ∷ w)) (omega arith))

-- a text that begins with a word has that word, and those after it
one_word : (b : ℕ) (text : List ℕ) (is : Bool) → is_space b ≡ is
    → cond is (1 + prefix_len is_space text) 0 ≡ 0
    → Parts (b ∷ text) (take (cond (not is) (1 + word_end text) 0) (b ∷ text))
    (drop (cond (not is) (1 + word_end text) 0) (b ∷ text))
    → words_of (b ∷ text) ≡ take (cond (not is) (1 + word_end text) 0) (b ∷ text)
    ∷ words_of (drop (cond (not is) (1 + word_end text) 0) (b ∷ text))
unfolding words_of
one_word b text true e none p = absurd (omega (arith, none))
one_word b text false e none p =
    let front = take_one b text (word_end text) in
    ap filled p.parts ∙ ap (λ (w : List ℕ). filled (w ∷ p.rest)) front
    ∙ filled_one b (word_of text) p.rest ∙ ap (λ (w : List ℕ). w ∷ filled p.rest) (sym front)
    ∙ ap (λ (ws : List (List ℕ)). take (1 + word_end text) (b ∷ text) ∷ ws) p.words

pub words_split : (text : List ℕ) → IsTrimmed text → (length text == 0) ≡ false
    → words_of text ≡ word_of text ∷ words_of (behind text)
words_split [] trimmed some = absurd cc
words_split (b ∷ text) trimmed some =
    one_word b text (is_space b) refl trimmed.none (parts_of (b ∷ text))
    ∙ ap (λ (ws : List (List ℕ)). word_of (b ∷ text) ∷ ws)
    (sym (after_spaces (drop (word_end (b ∷ text)) (b ∷ text))))

-- an empty text has none
pub words_none : (text : List ℕ) → (length text == 0) ≡ true → words_of text ≡ []
unfolding words_of
words_none [] none = refl
words_none (b ∷ text) none = let is = eqb-true _ _ none in absurd (omega (arith, is))

-- a text may be cut before its first space
pub cut_at_word : (text : List ℕ) → IsCharBoundary text (word_end text)
cut_at_word text = (
  prefix_len-le-length (λ x. not (is_space x)) text,
  λ within high.
      let at : get_or text (word_end text) 0 ≡ 32 =
      eqb-true (get_or text (word_end text) 0) 32 (passes_at_first is_space text 0 within) in
      absurd (omega (arith, at, high)),
)

-- a text may be cut after the spaces at its front
pub cut_at_past : (text : List ℕ) → IsUtf8 text → IsCharBoundary text (prefix_len is_space text)
cut_at_past text utf8 =
    IsCharBoundary-from_drop text (prefix_len is_space text) (prefix_len-le-length is_space text)
    (past_utf8 text utf8)

-- ---- after a word

pub past_none : (text : List ℕ) → (length text == 0) ≡ true → text ≡ past text
past_none [] none = refl
past_none (b ∷ text) none = let is = eqb-true _ _ none in absurd (omega (arith, is))

pub trimmed_none : (text : List ℕ) → (length text == 0) ≡ true → IsTrimmed text
trimmed_none [] none = record { none = refl }
trimmed_none (b ∷ text) none = let is = eqb-true _ _ none in absurd (omega (arith, is))

-- a space ends a word
pub past_one_space : (text : List ℕ) → ends_word text ≡ true → (length text == 0) ≡ false
    → past (drop 1 text) ≡ past text
past_one_space [] ends some = absurd cc
past_one_space (b ∷ text) ends some =
    sym (ap (λ (t : Bool). drop (cond t (1 + prefix_len is_space text) 0) (b ∷ text)) ends
    ∙ drop_one b text (prefix_len is_space text))

pub cut_at_one : (text : List ℕ) → IsUtf8 text → ends_word text ≡ true
    → (length text == 0) ≡ false → IsCharBoundary text 1
cut_at_one [] utf8 ends some = absurd cc
cut_at_one (b ∷ text) utf8 ends some =
    let is : b ≡ 32 = eqb-true b 32 ends in
    IsCharBoundary-after_ascii (b ∷ text) 0 utf8 (omega arith) (omega (arith, is))

-- ---- a text that begins with this word and a space

pub record StartsWord (name text : List ℕ) : Type 0 where
  pub word : word_end name ≡ length name
  pub within : length name < length text
  pub front : take (length name) text ≡ name
  pub space : get_or text (length name) 0 ≡ 32

module _ {name text : List ℕ} (starts : StartsWord name text) where
  pub started_end : word_end text ≡ length name
  started_end =
      let within = starts.within in
      position_or_len_is is_space text (length name) 0 (omega (arith, within))
      (λ k less. ap is_space (sym (get_or-take (length name) text k 0 less)
      ∙ ap (λ (t : List ℕ). get_or t k 0) starts.front)
      ∙ fails_before_first is_space name k 0 (subst (λ (n : ℕ). k < n) (sym starts.word) less))
      (λ _. eq-eqb (get_or text (length name) 0) 32 starts.space)

  pub started_word : word_of text ≡ name
  started_word = ap (λ (n : ℕ). take n text) started_end ∙ starts.front

  pub started_rest : past (drop (length name + 1) text) ≡ behind text
  started_rest =
      let n : ℕ = length name in
      let rest : List ℕ = drop (suc n) text in
      let one : n + 1 ≡ suc n = omega arith in
      let cut : drop n text ≡ 32 ∷ rest = drop-cons text n 0 starts.within
      ∙ ap (λ (c : ℕ). c ∷ rest) starts.space in
      ap (λ (k : ℕ). past (drop k text)) one
      ∙ sym (ap (λ (k : ℕ). past (drop k text)) started_end ∙ ap past cut
      ∙ drop_one 32 rest (prefix_len is_space rest))

  pub started_cut : IsUtf8 text → IsCharBoundary text (length name + 1)
  started_cut utf8 =
      let at = starts.space in
      IsCharBoundary-after_ascii text (length name) utf8 starts.within (omega (arith, at))
