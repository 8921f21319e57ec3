use Rattle.std.proofs.Common.{◌∙◌, Some, sym, ap}
use Rattle.script.proofs.Shapes.{IsCut, node_read, read_one, read_three, read_two, read_zero}
use Rattle.script.proofs.line.numbered.Goals as goal
use Rattle.script.proofs.line.numbered.Goals.{After-first_word}

cut : (c : After-first_word)
    → IsCut c.args.text.now c.first_word.result.0.now c.first_word.result.1.now
cut c = record {
  trimmed = c.requires;
  word = c.first_word.ensures.word;
  others = c.first_word.ensures.rest;
}

pub returns-in-Some-Zero : goal.returns-in-Some-Zero
returns-in-Some-Zero c =
    let read = c.in-Some-Zero in
    c.alone.ensures
    ∙ read_zero c.args.node (cut (goal.at.returns-in-Some-Zero c).After-first_word)
    (ap (λ o. Some o) (sym read.field-0-is) ∙ sym read.is ∙ c.read.ensures)

pub returns-in-Some-One : goal.returns-in-Some-One
returns-in-Some-One c =
    let read = c.in-Some-One in
    c.with_one.ensures
    ∙ read_one c.args.node (cut (goal.at.returns-in-Some-One c).After-first_word) read.a
    (ap (λ o. Some o) (sym read.field-0-is) ∙ sym read.is ∙ c.read.ensures)

pub returns-in-Some-Two : goal.returns-in-Some-Two
returns-in-Some-Two c =
    let read = c.in-Some-Two in
    c.with_two.ensures
    ∙ read_two c.args.node (cut (goal.at.returns-in-Some-Two c).After-first_word) read.a read.b
    (ap (λ o. Some o) (sym read.field-0-is) ∙ sym read.is ∙ c.read.ensures)

pub returns-in-Some-Three : goal.returns-in-Some-Three
returns-in-Some-Three c =
    let read = c.in-Some-Three in
    c.with_three.ensures
    ∙ read_three c.args.node (cut (goal.at.returns-in-Some-Three c).After-first_word)
    read.a read.b read.c
    (ap (λ o. Some o) (sym read.field-0-is) ∙ sym read.is ∙ c.read.ensures)

pub returns-in-None : goal.returns-in-None
returns-in-None c =
    node_read c.args.node (cut (goal.at.returns-in-None c).After-first_word)
    (sym c.in-None.is ∙ c.read.ensures)
