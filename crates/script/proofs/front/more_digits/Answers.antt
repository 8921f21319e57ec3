use Rattle.std.proofs.Common.{◌≡◌, ◌+◌, ◌*◌, ◌-◌, ℕ, drop, get_or, sym, ap, ◌∙◌, arith, option_map}
use Rattle.script.specs.Grammar.{value_after}
use Rattle.script.proofs.Fronts.{digits_of, goes_on, larger, one_more}
use Rattle.script.proofs.front.more_digits.Goals as goal
use Rattle.script.proofs.front.more_digits.Goals.{After-is_ascii_digit}

pub returns-in_err-checked_mul-clause-number : goal.returns-in_err-checked_mul-clause-number
returns-in_err-checked_mul-clause-number c =
    ap (option_map (λ r. r.0)) c.from_residual.ensures
    ∙ sym (sym c.loop-len.invariant.number
    ∙ larger c.loop-len.number c.loop-len.len c.args.text.now c.loop-len-test.true
    (sym c.is_ascii_digit.ensures.value ∙ c.if-is_ascii_digit.true)
    (λ fits. c.in_err-checked_mul.ensures (omega (arith, fits))))

pub returns-in_err-number-clause-number : goal.returns-in_err-number-clause-number
returns-in_err-number-clause-number c =
    ap (option_map (λ r. r.0)) c.from_residual-in_err-number.ensures
    ∙ sym (sym c.loop-len.invariant.number
    ∙ larger c.loop-len.number c.loop-len.len c.args.text.now c.loop-len-test.true
    (sym c.is_ascii_digit.ensures.value ∙ c.if-is_ascii_digit.true)
    (λ fits. c.in_err-number.ensures
    (omega (arith, fits, c.in_ok-checked_mul.ensures.1, c.from.ensures))))

pub loop-len-init : goal.loop-len-init
loop-len-init c =
    let text = c.args.text.now in
    let sum : c.args.first ≡ 0 * 10 + (get_or text 0 0 - 48) = omega (arith, c.requires.first) in
    record {
      within = omega (arith, c.requires.some);
      count = one_more 0 0 text c.requires.some c.requires.digit;
      number = ap (λ (k : ℕ). value_after k (digits_of (drop 1 text))) sum
          ∙ goes_on 0 0 text c.requires.some c.requires.digit
          (omega (arith, sum, c.ranges.first.fits));
    }

pub loop-len-preserved : goal.loop-len-preserved
loop-len-preserved c =
    let n = c.loop-len.number in
    let i = c.loop-len.len in
    let text = c.args.text.now in
    let is = sym c.is_ascii_digit.ensures.value ∙ c.if-is_ascii_digit.true in
    let sum : c.in_ok-number.number ≡ n * 10 + (get_or text i 0 - 48) =
    omega (arith, c.in_ok-number.ensures.1, c.in_ok-checked_mul.ensures.1, c.from.ensures) in
    let fits = c.in_ok-number.ensures.0 in
    record {
      within = omega (arith, c.loop-len-test.true);
      count = omega (arith, c.loop-len.invariant.count, one_more n i text c.loop-len-test.true is);
      number = ap (λ (k : ℕ). value_after k (digits_of (drop (i + 1) text))) sum
          ∙ goes_on n i text c.loop-len-test.true is
          (omega (arith, fits, c.in_ok-checked_mul.ensures.1, c.from.ensures))
          ∙ c.loop-len.invariant.number;
    }
