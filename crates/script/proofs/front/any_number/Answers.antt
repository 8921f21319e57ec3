use Rattle.std.proofs.Common.{◌≡◌, ◌∙◌, ℕ, drop, take, sym, ap, subst, length-drop}
use Rattle.std.proofs.Math.Seq.{take-length}
use Rattle.script.specs.Grammar.{u64_of, value_after}
use Rattle.script.specs.Words.{digit_count, ends_word, fits_word, past, word_end, word_of}
use Rattle.script.proofs.Fronts.{IsNumberAt, digits_of, not_fitting, not_value, not_whole, number_is, word_ends, word_goes_on, word_number}
use Rattle.script.proofs.front.any_number.Goals as goal
use Rattle.script.proofs.front.any_number.Goals.{After-as_bytes-bytes, After-ends_word}

at_front : (c : After-as_bytes-bytes)
    → IsNumberAt (digit_count c.as_bytes-bytes.result.now) (word_end c.as_bytes-bytes.result.now)
    (value_after 0 (digits_of c.as_bytes-bytes.result.now)) (u64_of (word_of c.args.text.now))
at_front c =
    let bytes = c.as_bytes-bytes.result.now in
    subst (λ t. IsNumberAt (digit_count bytes) (word_end bytes) (value_after 0 (digits_of bytes))
    (u64_of (word_of t))) c.as_bytes-bytes.ensures.value (word_number bytes)

-- the test of the text after the digits
test : (c : After-ends_word) → c.ends_word.result
    ≡ ends_word (drop (digit_count c.as_bytes-bytes.result.now) c.as_bytes-bytes.result.now)
test c =
    let bytes = c.as_bytes-bytes.result.now in
    c.ends_word.ensures
    ∙ ap (λ (k : ℕ). ends_word (take k (drop c.in-Some.len bytes)))
    (sym (length-drop c.in-Some.len bytes))
    ∙ ap ends_word (take-length (drop c.in-Some.len bytes))
    ∙ ap (λ (k : ℕ). ends_word (drop k bytes)) c.in-Some.ensures.len

pub returns-in_default-clause-number : goal.returns-in_default-clause-number
returns-in_default-clause-number c =
    not_value (at_front (goal.at.returns-in_default-clause-number c).After-as_bytes-bytes)
    c.in_default.ensures.number

pub returns-then-not-ends_word-clause-number : goal.returns-then-not-ends_word-clause-number
returns-then-not-ends_word-clause-number c =
    let at = goal.at.returns-then-not-ends_word-clause-number c in
    not_whole (at_front at.After-as_bytes-bytes)
    (word_goes_on c.as_bytes-bytes.result.now
    (sym (test at.After-ends_word) ∙ c.if-not-ends_word.true))

pub returns-then-not-fits_word-clause-number : goal.returns-then-not-fits_word-clause-number
returns-then-not-fits_word-clause-number c =
    let at = goal.at.returns-then-not-fits_word-clause-number c in
    not_fitting (at_front at.After-as_bytes-bytes)
    (word_ends c.as_bytes-bytes.result.now
    (sym (test at.After-ends_word) ∙ c.if-not-ends_word.false))
    (ap fits_word (sym c.in-Some.ensures.len) ∙ sym c.fits_word.ensures ∙ c.if-not-fits_word.true)

pub returns-clause-number : goal.returns-clause-number
returns-clause-number c =
    let at = goal.at.returns-clause-number c in
    c.in-Some.ensures.number
    ∙ number_is (at_front at.After-as_bytes-bytes)
    (word_ends c.as_bytes-bytes.result.now
    (sym (test at.After-ends_word) ∙ c.if-not-ends_word.false))
    (ap fits_word (sym c.in-Some.ensures.len) ∙ sym c.fits_word.ensures ∙ c.if-not-fits_word.false)

pub past_word-requires : goal.past_word-requires
past_word-requires c =
    let at = goal.at.past_word-requires c in
    let bytes = c.as_bytes-bytes.result.now in
    ap ends_word (c.range_from.ensures.value
    ∙ ap (λ t. drop c.in-Some.len t) (sym c.as_bytes-bytes.ensures.value)
    ∙ ap (λ (k : ℕ). drop k bytes) c.in-Some.ensures.len)
    ∙ sym (test at.After-ends_word) ∙ c.if-not-ends_word.false

pub returns-clause-rest : goal.returns-clause-rest
returns-clause-rest c =
    let at = goal.at.returns-clause-rest c in
    let ends = word_ends c.as_bytes-bytes.result.now
    (sym (test at.After-ends_word) ∙ c.if-not-ends_word.false) in
    c.past_word.ensures.rest
    ∙ ap past (c.range_from.ensures.value
    ∙ ap (λ (k : ℕ). drop k c.args.text.now) (c.in-Some.ensures.len ∙ ends
    ∙ ap word_end c.as_bytes-bytes.ensures.value))
