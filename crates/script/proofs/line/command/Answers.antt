use Rattle.std.proofs.Common.{◌∙◌, refl, sym, ap, codes}
use Rattle.script.specs.Operands.{read, spelled}
use Rattle.script.proofs.Shapes.{IsCommand, command_read, of_delivery, of_hand}
use Rattle.script.proofs.line.command.Goals as goal
use Rattle.script.proofs.line.command.Goals.{In-Some, In-Some-behind_word}

delivers : (c : In-Some) → IsCommand c.args.text.now (codes "deliver") c.in-Some.rest.now
delivers c = record {
  none = c.requires.other;
  narrow = refl;
  word = sym c.in-Some.ensures.word;
  others = c.in-Some.ensures.rest;
}

hands : (c : In-Some-behind_word)
    → IsCommand c.args.text.now (codes "ack") c.in-Some-behind_word.rest.now
hands c = record {
  none = c.requires.other;
  narrow = refl;
  word = sym c.in-Some-behind_word.ensures.word;
  others = c.in-Some-behind_word.ensures.rest;
}

pub returns-in_err-read : goal.returns-in_err-read
returns-in_err-read c =
    ap (λ r. read r c.args.line.now) c.from_residual.ensures
    ∙ command_read (delivers (goal.at.returns-in_err-read c).In-Some) c.in_err-read.ensures

pub returns-in-Some : goal.returns-in-Some
returns-in-Some c =
    c.delivery.ensures ∙ of_delivery (spelled c.in_ok-read.field-0) (codes "deliver") refl
    ∙ command_read (delivers (goal.at.returns-in-Some c).In-Some) c.in_ok-read.ensures

pub returns-in_err-read-2 : goal.returns-in_err-read-2
returns-in_err-read-2 c =
    ap (λ r. read r c.args.line.now) c.from_residual-in_err-read-2.ensures
    ∙ command_read (hands (goal.at.returns-in_err-read-2 c).In-Some-behind_word)
    c.in_err-read-2.ensures

pub returns-in-Some-behind_word : goal.returns-in-Some-behind_word
returns-in-Some-behind_word c =
    c.hand.ensures ∙ of_hand (spelled c.in_ok-read-2.field-0) (codes "ack") refl
    ∙ command_read (hands (goal.at.returns-in-Some-behind_word c).In-Some-behind_word)
    c.in_ok-read-2.ensures
