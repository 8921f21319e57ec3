use Rattle.std.proofs.Common.{◌∙◌, length, sym, ap, subst, arith}
use Rattle.std.specs.Char.{is_ascii_digit}
use Rattle.std.proofs.lemmas.List.Sums.{prefix_len-le-length}
use Rattle.script.specs.Grammar.{u64_of, value_after}
use Rattle.script.specs.Words.{digit_count, fits_word}
use Rattle.script.proofs.Fronts.{IsNumberAt, digits_of, not_fitting, not_value, not_whole, number_is, whole_number}
use Rattle.script.proofs.front.read_u64.Goals as goal
use Rattle.script.proofs.front.read_u64.Goals.{After-as_bytes-digits}

whole : (c : After-as_bytes-digits)
    → IsNumberAt (digit_count c.as_bytes-digits.result.now) (length c.as_bytes-digits.result.now)
    (value_after 0 (digits_of c.as_bytes-digits.result.now)) (u64_of c.args.word.now)
whole c =
    let bytes = c.as_bytes-digits.result.now in
    subst (λ w. IsNumberAt (digit_count bytes) (length bytes) (value_after 0 (digits_of bytes))
    (u64_of w)) c.as_bytes-digits.ensures.value (whole_number bytes)

pub returns-in_default : goal.returns-in_default
returns-in_default c =
    not_value (whole (goal.at.returns-in_default c).After-as_bytes-digits)
    c.in_default.ensures.number

pub returns-then-len-digits : goal.returns-then-len-digits
returns-then-len-digits c =
    not_whole (whole (goal.at.returns-then-len-digits c).After-as_bytes-digits)
    (λ same. omega (arith, same, c.in-Some.ensures.len, c.if-len-digits.true))

pub returns-then-not-fits_word : goal.returns-then-not-fits_word
returns-then-not-fits_word c =
    let few = prefix_len-le-length is_ascii_digit c.as_bytes-digits.result.now in
    not_fitting (whole (goal.at.returns-then-not-fits_word c).After-as_bytes-digits)
    (omega (arith, few, c.in-Some.ensures.len, c.if-len-digits.false))
    (ap fits_word (sym c.in-Some.ensures.len) ∙ sym c.fits_word.ensures ∙ c.if-not-fits_word.true)

pub returns : goal.returns
returns c =
    let few = prefix_len-le-length is_ascii_digit c.as_bytes-digits.result.now in
    c.in-Some.ensures.number
    ∙ number_is (whole (goal.at.returns c).After-as_bytes-digits)
    (omega (arith, few, c.in-Some.ensures.len, c.if-len-digits.false))
    (ap fits_word (sym c.in-Some.ensures.len) ∙ sym c.fits_word.ensures ∙ c.if-not-fits_word.false)
