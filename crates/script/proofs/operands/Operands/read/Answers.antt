use Rattle.std.proofs.Common.{◌∙◌, sym}
use Rattle.script.proofs.Readings.{Takes, first_wrong, more_left, none_left, one_left, second_wrong, takes, takes_none, third_wrong, three_left, two_left}
use Rattle.script.proofs.operands.Operands.read.Goals as goal
use Rattle.script.proofs.operands.Operands.read.Goals.{After-is_empty-2, After-is_empty-3, After-is_empty-4}

first : (c : After-is_empty-2) → Takes c.args.text.now c.in-Some.a c.in-Some.text.now
first c =
    takes c.args.text.now c.in-Some.text.now c.in-Some.a c.requires
    (sym c.is_empty.ensures ∙ c.if-is_empty.false) c.in-Some.ensures.number c.in-Some.ensures.rest

second : (c : After-is_empty-3)
    → Takes c.in-Some.text.now c.in-Some-first_number.b c.in-Some-first_number.text.now
second c =
    takes c.in-Some.text.now c.in-Some-first_number.text.now c.in-Some-first_number.b
    c.in-Some.ensures.trimmed (sym c.is_empty-2.ensures ∙ c.if-is_empty-2.false)
    c.in-Some-first_number.ensures.number c.in-Some-first_number.ensures.rest

third : (c : After-is_empty-4) → Takes c.in-Some-first_number.text.now
    c.in-Some-first_number-2.c c.in-Some-first_number-2.text.now
third c =
    takes c.in-Some-first_number.text.now c.in-Some-first_number-2.text.now
    c.in-Some-first_number-2.c c.in-Some-first_number.ensures.trimmed
    (sym c.is_empty-3.ensures ∙ c.if-is_empty-3.false)
    c.in-Some-first_number-2.ensures.number c.in-Some-first_number-2.ensures.rest

pub returns-then-is_empty : goal.returns-then-is_empty
returns-then-is_empty c = none_left c.args.text.now (sym c.is_empty.ensures ∙ c.if-is_empty.true)

pub returns-in_default : goal.returns-in_default
returns-in_default c =
    first_wrong (takes_none c.args.text.now c.requires
    (sym c.is_empty.ensures ∙ c.if-is_empty.false) c.in_default.ensures.number)

pub returns-then-is_empty-2 : goal.returns-then-is_empty-2
returns-then-is_empty-2 c =
    one_left (first (goal.at.returns-then-is_empty-2 c).After-is_empty-2)
    (sym c.is_empty-2.ensures ∙ c.if-is_empty-2.true)

pub returns-in_default-first_number : goal.returns-in_default-first_number
returns-in_default-first_number c =
    second_wrong (first (goal.at.returns-in_default-first_number c).After-is_empty-2)
    (takes_none c.in-Some.text.now c.in-Some.ensures.trimmed
    (sym c.is_empty-2.ensures ∙ c.if-is_empty-2.false)
    c.in_default-first_number.ensures.number)

pub returns-then-is_empty-3 : goal.returns-then-is_empty-3
returns-then-is_empty-3 c =
    let at = goal.at.returns-then-is_empty-3 c in
    two_left (first at.After-is_empty-2) (second at.After-is_empty-3)
    (sym c.is_empty-3.ensures ∙ c.if-is_empty-3.true)

pub returns-in_default-first_number-2 : goal.returns-in_default-first_number-2
returns-in_default-first_number-2 c =
    let at = goal.at.returns-in_default-first_number-2 c in
    third_wrong (first at.After-is_empty-2) (second at.After-is_empty-3)
    (takes_none c.in-Some-first_number.text.now c.in-Some-first_number.ensures.trimmed
    (sym c.is_empty-3.ensures ∙ c.if-is_empty-3.false)
    c.in_default-first_number-2.ensures.number)

pub returns-then-is_empty-4 : goal.returns-then-is_empty-4
returns-then-is_empty-4 c =
    let at = goal.at.returns-then-is_empty-4 c in
    three_left (first at.After-is_empty-2) (second at.After-is_empty-3) (third at.After-is_empty-4)
    (sym c.is_empty-4.ensures ∙ c.if-is_empty-4.true)

pub returns : goal.returns
returns c =
    let at = goal.at.returns c in
    more_left (first at.After-is_empty-2) (second at.After-is_empty-3) (third at.After-is_empty-4)
    c.in-Some-first_number-2.ensures.trimmed (sym c.is_empty-4.ensures ∙ c.if-is_empty-4.false)
