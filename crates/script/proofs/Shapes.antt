-- Lines by the numbers that their operands spell.
use Rattle.std.proofs.Common.{◌≡◌, ◌≢◌, ◌∙◌, ◌+◌, ◌==◌, ℕ, Bool, true, false, not, cond, slice_get, take, List, [], ◌∷◌, Option, Some, None, refl, sym, ap, subst, arith, rules, tests, codes, decimal}
use Rattle.std.specs.Char.{is_ascii_digit}
use Rattle.std.specs.List.{prefix_len, starts_with}
use Rattle.std.specs.Option.{option_and_then}
use Rattle.std.specs.Str.{bytes_eq}
use Rattle.std.proofs.lemmas.Bool.{cond-false, cond-true, eq-eqb}
use Rattle.std.proofs.lemmas.Bool.Decides.{nat_tests}
use Rattle.std.proofs.lemmas.Slice.Eq.{bytes_eq-Decides}
use Rattle.model.specs.declared.event.Event.TheVariants as event
use Rattle.model.specs.declared.step.Step.TheVariants as step
use Rattle.script.specs.declared.line.Line.TheVariants as line
use Rattle.script.specs.declared.operands.Operands.{Operands}
use Rattle.script.specs.declared.operands.Operands.TheVariants as operands
use Rattle.script.specs.Grammar.{acted, alone, by_operands, command_of, delivery_of, hand_of, line_of, node_line_of, numbered_of, report_of, space_of, stepped, u16_of, u32_of, u64_of, u8_of, wide_of, with_none, with_one, with_three, with_two, words_of}
use Rattle.script.specs.Operands.{operands_of, spelled}
use Rattle.script.specs.Words.{IsTrimmed, behind, digit_count, is_space, starts_number, word_end, word_of}
use Rattle.script.proofs.Fronts.{different as different_number, no_digit, word_number}
use Rattle.script.proofs.Spelling.{u16-is, u32-is, u64-is, u8-is}
use Rattle.script.proofs.Spelt.{All, One, Three, Two, all_either, one_either, one_map, one_none, operands_are, three_either, three_map, three_none, three_of, two_either, two_map, two_none, two_of}
use Rattle.script.proofs.Words.{take_one, words_none, words_split}

one8 : One u8_of
one8 = record { is = u8-is }

one16 : One u16_of
one16 = record { is = u16-is }

one32 : One u32_of
one32 = record { is = u32-is }

one64 : One u64_of
one64 = record { is = u64-is }

-- ---- the words after a node's number and a verb

one-verb : (verb : List ℕ) → One (λ a. with_one verb a)
unfolding with_one
one-verb verb =
    one_either _ (one_map (λ x. event.Drop x) one16)
    (one_either _ (one_map (λ x. event.Accept x) one16)
    (one_either _ (one_map (λ x. event.Word x) one16)
    (one_either _ (one_map (λ x. event.Sweep x) one32)
    (one_either _ (one_map (λ x. event.Next x) one8) one_none))))

two-verb : (verb : List ℕ) → Two (λ a b. with_two verb a b)
unfolding with_two
two-verb verb =
    two_either _ (two_of (λ x y. event.Alloc x y) one16 one8)
    (two_either _ (two_of (λ x y. event.Copy x y) one16 one16)
    (two_either _ (two_of (λ x y. event.Clear x y) one16 one8)
    (two_either _ (two_of (λ x y. event.SetWord x y) one16 one64) two_none)))

three-verb : (verb : List ℕ) → Three (λ a b c. with_three verb a b c)
unfolding with_three
three-verb verb =
    three_either _ (three_of (λ x y z. event.Give x y z) one8 one32 one16)
    (three_either _ (three_of (λ x y z. event.Load x y z) one16 one16 one8)
    (three_either _ (three_of (λ x y z. event.Store x y z) one16 one8 one16)
    (three_either _ (three_of (λ x y z. event.Put x y z) one16 one8 one16)
    (three_either _ (three_of (λ x y z. event.Get x y z) one16 one8 one32) three_none))))

node-all : (node : ℕ) (verb : List ℕ) → All (λ ws. numbered_of node (verb ∷ ws))
unfolding numbered_of
node-all node verb = record {
  one = one_map (λ e. line.Step (step.Act node e)) (one-verb verb);
  two = two_map (λ e. line.Step (step.Act node e)) (two-verb verb);
  three = three_map (λ e. line.Step (step.Act node e)) (three-verb verb);
  more = λ a b c d ws. refl;
}

-- no verb is empty
no_verb : (node : ℕ) → None ≡ numbered_of node ([] ∷ [])
unfolding numbered_of alone with_none
no_verb node = refl

no_words : (node : ℕ) → numbered_of node [] ≡ None
unfolding numbered_of
no_words node = refl

-- ---- the words after a first word that isn't a number

space-all : All space_of
unfolding space_of
space-all = record {
  one = one_none;
  two = two_none;
  three = three_of (λ x y z. line.Space x y z) one8 one16 one32;
  more = λ a b c d ws. refl;
}

delivery-all : All (λ ws. stepped (delivery_of ws))
unfolding delivery_of
delivery-all = record {
  one = one_none;
  two = two_none;
  three = three_map (λ s. line.Step s) (three_of (λ x y z. step.Deliver x y z) one8 one8 one64);
  more = λ a b c d ws. refl;
}

hand-all : All (λ ws. stepped (hand_of ws))
unfolding hand_of
hand-all = record {
  one = one_none;
  two = two_map (λ s. line.Step s) (two_of (λ x y. step.Hand x y) one8 one8);
  three = three_none;
  more = λ a b c d ws. refl;
}

report-all : All report_of
unfolding report_of
report-all = record {
  one = one_none;
  two = two_none;
  three = three_none;
  more = λ a b c d ws. refl;
}

none-all : All (λ ws. None)
none-all = record {
  one = one_none;
  two = two_none;
  three = three_none;
  more = λ a b c d ws. refl;
}

command-all : (first : List ℕ) → u8_of first ≡ None → All (λ ws. by_operands first ws)
unfolding by_operands
command-all first none =
    all_either _ space-all (all_either _ delivery-all (all_either _ hand-all
    (all_either _ report-all
    (subst (λ o. All (λ ws. option_and_then (λ node. node_line_of node ws) o)) (sym none)
    none-all))))

-- ---- once the operands are read

asked : (node : ℕ) (text : List ℕ) → IsTrimmed text → numbered_of node (words_of text)
    ≡ option_and_then (λ o. numbered_of node (word_of text ∷ spelled o))
    (operands_of (words_of (behind text)))
unfolding operands_of
asked node [] trimmed =
    let none = words_none [] refl in
    ap (numbered_of node) none ∙ no_words node ∙ no_verb node
    ∙ sym (ap (λ ws. option_and_then (λ o. numbered_of node ([] ∷ spelled o)) (operands_of ws))
    none)
asked node (b ∷ bytes) trimmed =
    ap (numbered_of node) (words_split (b ∷ bytes) trimmed (search (rules, tests)))
    ∙ operands_are (node-all node (word_of (b ∷ bytes))) (words_of (behind (b ∷ bytes)))

-- how the text after a node's number is cut
pub record IsCut (text verb rest : List ℕ) : Type 0 where
  pub trimmed : IsTrimmed text
  pub word : verb ≡ word_of text
  pub others : rest ≡ behind text

module _ (node : ℕ) {text verb rest : List ℕ} (cut : IsCut text verb rest) where
  cut_asked : numbered_of node (words_of text)
      ≡ option_and_then (λ o. numbered_of node (verb ∷ spelled o)) (operands_of (words_of rest))
  cut_asked =
      asked node text cut.trimmed
      ∙ ap (λ v. option_and_then (λ o. numbered_of node (v ∷ spelled o))
      (operands_of (words_of (behind text)))) (sym cut.word)
      ∙ ap (λ t. option_and_then (λ o. numbered_of node (verb ∷ spelled o))
      (operands_of (words_of t))) (sym cut.others)

  pub node_read : {o : Option Operands} → o ≡ operands_of (words_of rest)
      → option_and_then (λ o. numbered_of node (verb ∷ spelled o)) o
      ≡ numbered_of node (words_of text)
  node_read e =
      sym (cut_asked ∙ ap (λ o. option_and_then (λ o. numbered_of node (verb ∷ spelled o)) o)
      (sym e))

  pub read_zero : Some operands.Zero ≡ operands_of (words_of rest)
      → alone node verb ≡ numbered_of node (words_of text)
  unfolding numbered_of
  read_zero e = node_read e

  pub read_one : (a : ℕ) → Some (operands.One a) ≡ operands_of (words_of rest)
      → acted node (with_one verb (decimal a)) ≡ numbered_of node (words_of text)
  unfolding numbered_of
  read_one a e = node_read e

  pub read_two : (a b : ℕ) → Some (operands.Two a b) ≡ operands_of (words_of rest)
      → acted node (with_two verb (decimal a) (decimal b)) ≡ numbered_of node (words_of text)
  unfolding numbered_of
  read_two a b e = node_read e

  pub read_three : (a b c : ℕ) → Some (operands.Three a b c) ≡ operands_of (words_of rest)
      → acted node (with_three verb (decimal a) (decimal b) (decimal c))
      ≡ numbered_of node (words_of text)
  unfolding numbered_of
  read_three a b c e = node_read e

-- a line that asks for a save
pub read_save : (node : ℕ) (text : List ℕ) → true ≡ bytes_eq text (codes "save")
    → Some (line.Step (step.Save node)) ≡ node_line_of node (words_of text)
unfolding node_line_of numbered_of alone words_of
read_save node text is =
    sym (ap (λ t. node_line_of node (words_of t))
    ((bytes_eq-Decides text (codes "save")).0 (sym is)))

-- ---- by the first byte

-- a byte that isn't a digit begins no number
pub no_number : (text : List ℕ) → starts_number text ≡ false → u8_of (word_of text) ≡ None
no_number text none = u8-is (word_of text)
    ∙ ap (λ o. option_and_then (λ n. u8_of (decimal n)) o) (no_u64 text none)
  where
    count : (text : List ℕ) → starts_number text ≡ false → digit_count text ≡ 0
    count [] none = refl
    count (c ∷ cs) none = cond-false _ _ _ none

    no_u64 : (text : List ℕ) → starts_number text ≡ false → u64_of (word_of text) ≡ None
    no_u64 text none = sym (no_digit (word_number text) (count text none))

different : (a b : List ℕ) → (a ≡ b → ⊥) → bytes_eq a b ≡ false
different a b apart = by (bytes_eq a b) refl
  where
    by : (t : Bool) → bytes_eq a b ≡ t → t ≡ false
    by true same = absurd (apart ((bytes_eq-Decides a b).0 same))
    by false same = refl

-- how a text whose first word isn't a number is cut
pub record IsCommand (text first rest : List ℕ) : Type 0 where
  pub none : starts_number text ≡ false
  pub narrow : bytes_eq first (codes "wide") ≡ false
  pub word : first ≡ word_of text
  pub others : rest ≡ behind text

module _ {text first rest : List ℕ} (cut : IsCommand text first rest) where
  command_told : by_operands (word_of text) (words_of (behind text))
      ≡ option_and_then (λ o. by_operands first (spelled o)) (operands_of (words_of rest))
  command_told =
      operands_are (command-all (word_of text) (no_number text cut.none)) (words_of (behind text))
      ∙ ap (λ w. option_and_then (λ o. by_operands w (spelled o))
      (operands_of (words_of (behind text)))) (sym cut.word)
      ∙ ap (λ t. option_and_then (λ o. by_operands first (spelled o)) (operands_of (words_of t)))
      (sym cut.others)

  -- no other word has that many operands
  unless_wide : by_operands (word_of text) (words_of (behind text))
      ≡ command_of (word_of text) (words_of (behind text))
  unfolding command_of
  unless_wide =
      sym (cond-false _ _ _ (ap (λ w. bytes_eq w (codes "wide")) (sym cut.word) ∙ cut.narrow))

  pub command_read : {o : Option Operands} → o ≡ operands_of (words_of rest)
      → option_and_then (λ o. by_operands first (spelled o)) o
      ≡ command_of (word_of text) (words_of (behind text))
  command_read e =
      sym (command_told ∙ ap (option_and_then (λ o. by_operands first (spelled o))) (sym e))
      ∙ unless_wide

-- by that word
pub of_wide : (text : List ℕ) {first rest : List ℕ} → bytes_eq first (codes "wide") ≡ true
    → first ≡ word_of text → rest ≡ behind text
    → wide_of (words_of rest) ≡ command_of (word_of text) (words_of (behind text))
unfolding command_of
of_wide text is word others =
    ap (λ t. wide_of (words_of t)) others
    ∙ sym (cond-true _ _ _ (ap (λ w. bytes_eq w (codes "wide")) (sym word) ∙ is))

pub of_space : (vs : List (List ℕ)) (first : List ℕ) → first ≡ codes "space"
    → space_of vs ≡ by_operands first vs
unfolding by_operands
of_space vs first is = sym (ap (λ f. by_operands f vs) is)

pub of_delivery : (vs : List (List ℕ)) (first : List ℕ) → first ≡ codes "deliver"
    → stepped (delivery_of vs) ≡ by_operands first vs
unfolding by_operands
of_delivery vs first is = sym (ap (λ f. by_operands f vs) is)

pub of_hand : (vs : List (List ℕ)) (first : List ℕ) → first ≡ codes "ack"
    → stepped (hand_of vs) ≡ by_operands first vs
unfolding by_operands
of_hand vs first is = sym (ap (λ f. by_operands f vs) is)

pub of_report : (vs : List (List ℕ)) (first : List ℕ) → first ≡ codes "report"
    → report_of vs ≡ by_operands first vs
unfolding by_operands
of_report vs first is = sym (ap (λ f. by_operands f vs) is)

pub of_none : (vs : List (List ℕ)) (first : List ℕ) → u8_of first ≡ None
    → (first ≡ codes "space" → ⊥) → (first ≡ codes "deliver" → ⊥) → (first ≡ codes "ack" → ⊥)
    → (first ≡ codes "report" → ⊥) → None ≡ by_operands first vs
unfolding by_operands
of_none vs first no_number no_space no_deliver no_ack no_report =
    sym (cond-false _ _ _ (different first (codes "space") no_space)
    ∙ cond-false _ _ _ (different first (codes "deliver") no_deliver)
    ∙ cond-false _ _ _ (different first (codes "ack") no_ack)
    ∙ cond-false _ _ _ (different first (codes "report") no_report)
    ∙ ap (option_and_then (λ node. node_line_of node vs)) no_number)

-- a digit begins a node's number
command-digit : (c : ℕ) (w : List ℕ) (ws : List (List ℕ)) → is_ascii_digit c ≡ true
    → command_of (c ∷ w) ws ≡ option_and_then (λ node. node_line_of node ws) (u8_of (c ∷ w))
unfolding command_of by_operands
command-digit c w ws is =
    cond-false _ _ _ (different (c ∷ w) (codes "wide") (λ e. other 119 (head e) refl))
    ∙ cond-false _ _ _ (different (c ∷ w) (codes "space") (λ e. other 115 (head e) refl))
    ∙ cond-false _ _ _ (different (c ∷ w) (codes "deliver") (λ e. other 100 (head e) refl))
    ∙ cond-false _ _ _ (different (c ∷ w) (codes "ack") (λ e. other 97 (head e) refl))
    ∙ cond-false _ _ _ (different (c ∷ w) (codes "report") (λ e. other 114 (head e) refl))
  where
    head : {a b : ℕ} {x y : List ℕ} → a ∷ x ≡ b ∷ y → a ≡ b
    head e = cc

    other : (k : ℕ) → c ≡ k → is_ascii_digit k ≡ false → ⊥
    other k e not =
        let digit : is_ascii_digit k ≡ true = subst (λ (x : ℕ). is_ascii_digit x ≡ true) e is in
        absurd cc

-- whether a comment begins there
begins : (c : ℕ) (w : List ℕ) → starts_with (λ x y. x == y) (c ∷ w) (codes "#") ≡ (c == 35)
begins c w = grind (arith, nat_tests)

-- the first word begins with the first byte
front : (c : ℕ) (cs : List ℕ) → IsTrimmed (c ∷ cs) → word_of (c ∷ cs) ≡ c ∷ word_of cs
front c cs trimmed = by (is_space c) trimmed.none where
  by : (is : Bool) → cond is (1 + prefix_len is_space cs) 0 ≡ 0
      → take (cond (not is) (1 + word_end cs) 0) (c ∷ cs) ≡ c ∷ word_of cs
  by true none = absurd (omega (arith, none))
  by false none = take_one c cs (word_end cs)

line-split : (c : ℕ) (cs : List ℕ) → IsTrimmed (c ∷ cs) → line_of (words_of (c ∷ cs))
    ≡ cond (c == 35) (Some line.Blank)
    (command_of (c ∷ word_of cs) (words_of (behind (c ∷ cs))))
unfolding line_of
line-split c cs trimmed =
    ap line_of (words_split (c ∷ cs) trimmed (search (rules, tests))
    ∙ ap (λ w. w ∷ words_of (behind (c ∷ cs))) (front c cs trimmed))
    ∙ ap (λ (t : Bool). cond t (Some line.Blank)
    (command_of (c ∷ word_of cs) (words_of (behind (c ∷ cs))))) (begins c (word_of cs))

pub line_blank : (text : List ℕ) → None ≡ slice_get text 0
    → Some line.Blank ≡ line_of (words_of text)
unfolding line_of
line_blank [] none = sym (ap line_of (words_none [] refl))
line_blank (c ∷ cs) none = absurd cc

-- a text that begins with this byte
pub record Begins (text : List ℕ) (first : ℕ) : Type 0 where
  pub trimmed : IsTrimmed text
  pub byte : Some first ≡ slice_get text 0

pub line_comment : (text : List ℕ) (first : ℕ) → Begins text first → first ≡ 35
    → Some line.Blank ≡ line_of (words_of text)
line_comment [] first b is = let e = b.byte in absurd cc
line_comment (c ∷ cs) first b is =
    let e = b.byte in
    let same : c ≡ 35 = cc in
    sym (line-split c cs b.trimmed ∙ cond-true _ _ _ (eq-eqb c 35 same))

pub line_number : (text : List ℕ) (first : ℕ) → Begins text first → is_ascii_digit first ≡ true
    → option_and_then (λ node. node_line_of node (words_of (behind text))) (u8_of (word_of text))
    ≡ line_of (words_of text)
line_number [] first b is = let e = b.byte in absurd cc
line_number (c ∷ cs) first b is =
    let e = b.byte in
    let same : first ≡ c = cc in
    let digit = subst (λ (k : ℕ). is_ascii_digit k ≡ true) same is in
    let other : (c == 35) ≡ false = grind (arith, nat_tests, digit) in
    sym (line-split c cs b.trimmed ∙ cond-false _ _ _ other
    ∙ command-digit c (word_of cs) (words_of (behind (c ∷ cs))) digit
    ∙ ap (λ w. option_and_then (λ node. node_line_of node (words_of (behind (c ∷ cs)))) (u8_of w))
    (sym (front c cs b.trimmed)))

pub line_command : (text : List ℕ) (first : ℕ) → Begins text first → first ≢ 35
    → command_of (word_of text) (words_of (behind text)) ≡ line_of (words_of text)
line_command [] first b is = let e = b.byte in absurd cc
line_command (c ∷ cs) first b is =
    let e = b.byte in
    let same : first ≡ c = cc in
    let other : (c == 35) ≡ false = different_number c 35 (λ e. is (same ∙ e)) in
    sym (line-split c cs b.trimmed ∙ cond-false _ _ _ other
    ∙ ap (λ w. command_of w (words_of (behind (c ∷ cs)))) (sym (front c cs b.trimmed)))

pub begins_none : (text : List ℕ) (first : ℕ) → Some first ≡ slice_get text 0
    → is_ascii_digit first ≡ false → starts_number text ≡ false
begins_none [] first byte is = refl
begins_none (c ∷ cs) first byte is =
    let same : first ≡ c = cc in
    subst (λ (k : ℕ). is_ascii_digit k ≡ false) same is
