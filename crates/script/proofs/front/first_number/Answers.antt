use Rattle.std.proofs.Common.{◌∙◌, ◌-◌, ℕ, List, get_or, Some, sym, ap}
use Rattle.script.specs.Words.{is_one_digit}
use Rattle.script.proofs.OneDigit.{one_cut, one_number}
use Rattle.script.proofs.front.first_number.Goals as goal

pub range_from-requires : goal.range_from-requires
range_from-requires c _ =
    one_cut c.args.text.now c.utf8.text
    (ap is_one_digit (sym c.as_bytes-bytes.ensures.value) ∙ sym c.is_one_digit.ensures
    ∙ c.if-is_one_digit.true)

pub returns-then-is_one_digit-clause-number : goal.returns-then-is_one_digit-clause-number
returns-then-is_one_digit-clause-number c =
    let digit = c.from.ensures
    ∙ ap (λ (t : List ℕ). get_or t 0 0 - 48) c.as_bytes-bytes.ensures.value in
    ap (λ (k : ℕ). Some k) digit
    ∙ one_number c.args.text.now
    (ap is_one_digit (sym c.as_bytes-bytes.ensures.value) ∙ sym c.is_one_digit.ensures
    ∙ c.if-is_one_digit.true)
