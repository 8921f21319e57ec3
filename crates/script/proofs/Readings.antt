-- Operands, read one after another.
use Rattle.std.proofs.Common.{◌≡◌, ◌∙◌, ◌==◌, ℕ, true, false, List, [], ◌∷◌, length, Option, Some, None, refl, sym, ap}
use Rattle.std.specs.Option.{option_and_then}
use Rattle.script.specs.Grammar.{u64_of, words_of}
use Rattle.script.specs.declared.operands.Operands.TheVariants as operands
use Rattle.script.specs.Operands.{operands_of}
use Rattle.script.specs.Words.{IsTrimmed, behind, word_of}
use Rattle.script.proofs.Words.{words_none, words_split}

-- the number at the front of a text, and the text after it
pub record Takes (text : List ℕ) (n : ℕ) (rest : List ℕ) : Type 0 where
  pub word : List ℕ
  pub words : words_of text ≡ word ∷ words_of rest
  pub number : Some n ≡ u64_of word

-- the word at the front spells no number
pub record TakesNone (text : List ℕ) : Type 0 where
  pub word : List ℕ
  pub others : List (List ℕ)
  pub words : words_of text ≡ word ∷ others
  pub number : None ≡ u64_of word

pub takes : (text rest : List ℕ) (n : ℕ) → IsTrimmed text → (length text == 0) ≡ false
    → Some n ≡ u64_of (word_of text) → rest ≡ behind text → Takes text n rest
takes text rest n trimmed some number is = record {
  word = word_of text;
  words = words_split text trimmed some ∙ ap (λ (t : List ℕ). word_of text ∷ words_of t) (sym is);
  number = number;
}

pub takes_none : (text : List ℕ) → IsTrimmed text → (length text == 0) ≡ false
    → None ≡ u64_of (word_of text) → TakesNone text
takes_none text trimmed some number = record {
  word = word_of text;
  others = words_of (behind text);
  words = words_split text trimmed some;
  number = number;
}

-- ---- by the words

none_then : {A B : Type 0} (f : A → Option B) → ((x : A) → f x ≡ None) → (o : Option A)
    → option_and_then f o ≡ None
none_then f none None = refl
none_then f none (Some x) = none x

wrong_one : (a : List ℕ) (ws : List (List ℕ)) → None ≡ u64_of a → operands_of (a ∷ ws) ≡ None
unfolding operands_of
wrong_one a [] none = rw (← none) refl
wrong_one a (b ∷ []) none = rw (← none) refl
wrong_one a (b ∷ c ∷ []) none = rw (← none) refl
wrong_one a (b ∷ c ∷ d ∷ ws) none = refl

wrong_two : (a b : List ℕ) (ws : List (List ℕ)) → None ≡ u64_of b
    → operands_of (a ∷ b ∷ ws) ≡ None
unfolding operands_of
wrong_two a b [] none = none_then _ (λ x. rw (← none) refl) (u64_of a)
wrong_two a b (c ∷ []) none = none_then _ (λ x. rw (← none) refl) (u64_of a)
wrong_two a b (c ∷ d ∷ ws) none = refl

wrong_three : (a b c : List ℕ) (ws : List (List ℕ)) → None ≡ u64_of c
    → operands_of (a ∷ b ∷ c ∷ ws) ≡ None
unfolding operands_of
wrong_three a b c [] none =
    none_then _ (λ x. none_then _ (λ y. rw (← none) refl) (u64_of b)) (u64_of a)
wrong_three a b c (d ∷ ws) none = refl

-- ---- by the text

pub none_left : (t : List ℕ) → (length t == 0) ≡ true
    → Some operands.Zero ≡ operands_of (words_of t)
unfolding operands_of
none_left t empty = sym (ap operands_of (words_none t empty))

pub first_wrong : {s : List ℕ} → TakesNone s → None ≡ operands_of (words_of s)
first_wrong p = sym (ap operands_of p.words ∙ wrong_one p.word p.others p.number)

module _ {s t : List ℕ} {a : ℕ} (p : Takes s a t) where
  pub one_left : (length t == 0) ≡ true → Some (operands.One a) ≡ operands_of (words_of s)
  unfolding operands_of
  one_left empty =
      sym (ap operands_of (p.words ∙ ap (λ ws. p.word ∷ ws) (words_none t empty))
      ∙ rw (← p.number) refl)

  pub second_wrong : TakesNone t → None ≡ operands_of (words_of s)
  second_wrong q =
      sym (ap operands_of (p.words ∙ ap (λ ws. p.word ∷ ws) q.words)
      ∙ wrong_two p.word q.word q.others q.number)

  module _ {u : List ℕ} {b : ℕ} (q : Takes t b u) where
    two : (ws : List (List ℕ)) → words_of u ≡ ws → words_of s ≡ p.word ∷ q.word ∷ ws
    two ws is = p.words ∙ ap (λ ws. p.word ∷ ws) (q.words ∙ ap (λ ws. q.word ∷ ws) is)

    pub two_left : (length u == 0) ≡ true → Some (operands.Two a b) ≡ operands_of (words_of s)
    unfolding operands_of
    two_left empty =
        sym (ap operands_of (two [] (words_none u empty)) ∙ rw (← p.number, ← q.number) refl)

    pub third_wrong : TakesNone u → None ≡ operands_of (words_of s)
    third_wrong r =
        sym (ap operands_of (two (r.word ∷ r.others) r.words)
        ∙ wrong_three p.word q.word r.word r.others r.number)

    module _ {v : List ℕ} {c : ℕ} (r : Takes u c v) where
      pub three_left : (length v == 0) ≡ true
          → Some (operands.Three a b c) ≡ operands_of (words_of s)
      unfolding operands_of
      three_left empty =
          sym (ap operands_of (two (r.word ∷ [])
          (r.words ∙ ap (λ ws. r.word ∷ ws) (words_none v empty)))
          ∙ rw (← p.number, ← q.number, ← r.number) refl)

      pub more_left : IsTrimmed v → (length v == 0) ≡ false → None ≡ operands_of (words_of s)
      unfolding operands_of
      more_left trimmed some =
          sym (ap operands_of (two (r.word ∷ words_of v) r.words
          ∙ ap (λ ws. p.word ∷ q.word ∷ r.word ∷ ws) (words_split v trimmed some)))
