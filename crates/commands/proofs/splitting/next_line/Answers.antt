use Rattle.std.proofs.Common.{◌≡◌, ◌∙◌, ◌-◌, ℕ, Some, None, ap, arith, subst, take}
use Rattle.memchr.specs.Find.{IsFirstByte, is_byte}
use Rattle.commands.proofs.FirstLines.{after_end, line_first, line_only}
use Rattle.commands.proofs.splitting.next_line.Goals as goal

pub range_from-requires : goal.range_from-requires
range_from-requires c _ =
    after_end c.args.text.now c.in-Some.end
    (subst (λ t. IsFirstByte (is_byte 10) t (Some c.in-Some.end)) c.as_bytes.ensures.value
    c.in-Some.ensures) c.utf8.text

pub returns-in-Some-clause-line : goal.returns-in-Some-clause-line
returns-in-Some-clause-line c =
    let whole : c.in-Some.end - 0 ≡ c.in-Some.end = omega arith in
    let front = c.range.ensures.value ∙ ap (λ (k : ℕ). take k c.args.text.now) whole in
    rw (c.without_return.ensures, front, c.range_from.ensures.value)
    (line_first c.args.text.now c.in-Some.end
    (subst (λ t. IsFirstByte (is_byte 10) t (Some c.in-Some.end)) c.as_bytes.ensures.value
    c.in-Some.ensures))

pub returns-in-None-clause-line : goal.returns-in-None-clause-line
returns-in-None-clause-line c =
    line_only c.args.text.now c.requires
    (subst (λ t. IsFirstByte (is_byte 10) t None) c.as_bytes.ensures.value c.in-None.ensures)
