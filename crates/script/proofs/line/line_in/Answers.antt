use Rattle.std.proofs.Common.{◌∙◌, slice_get, sym, ap}
use Rattle.script.proofs.Shapes.{Begins, begins_none, line_blank, line_command, line_comment, line_number}
use Rattle.script.proofs.line.line_in.Goals as goal
use Rattle.script.proofs.line.line_in.Goals.{In-Some}

begin : (c : In-Some) → Begins c.args.text.now c.in-Some.first.now
begin c = record {
  trimmed = c.requires;
  byte = c.in-Some.ensures.value ∙ ap (λ t. slice_get t 0) c.as_bytes.ensures.value;
}

pub returns-in_default : goal.returns-in_default
returns-in_default c =
    c.blank.ensures ∙ line_blank c.args.text.now
    (c.in_default.ensures.value ∙ ap (λ t. slice_get t 0) c.as_bytes.ensures.value)

pub returns-then-first-eq35 : goal.returns-then-first-eq35
returns-then-first-eq35 c =
    c.blank-then-first-eq35.ensures ∙ line_comment c.args.text.now c.in-Some.first.now
    (begin (goal.at.returns-then-first-eq35 c).In-Some) c.if-first-eq35.true

pub command-requires-clause-other : goal.command-requires-clause-other
command-requires-clause-other c =
    begins_none c.args.text.now c.in-Some.first.now
    (begin (goal.at.command-requires-clause-other c).In-Some).byte
    (sym c.is_ascii_digit.ensures.value ∙ c.if-is_ascii_digit.false)

pub returns-then-is_ascii_digit : goal.returns-then-is_ascii_digit
returns-then-is_ascii_digit c =
    c.node_line.ensures ∙ line_number c.args.text.now c.in-Some.first.now
    (begin (goal.at.returns-then-is_ascii_digit c).In-Some)
    (sym c.is_ascii_digit.ensures.value ∙ c.if-is_ascii_digit.true)

pub returns : goal.returns
returns c =
    c.command.ensures ∙ line_command c.args.text.now c.in-Some.first.now
    (begin (goal.at.returns c).In-Some) c.if-first-eq35.false
