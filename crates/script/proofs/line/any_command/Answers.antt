use Rattle.std.proofs.Common.{◌≡◌, ◌∙◌, None, ap, sym}
use Rattle.script.specs.Grammar.{u8_of}
use Rattle.script.specs.Operands.{read, spelled}
use Rattle.script.proofs.Shapes.{IsCommand, command_read, no_number, of_delivery, of_hand, of_none, of_report, of_space, of_wide}
use Rattle.script.proofs.line.any_command.Goals as goal
use Rattle.script.proofs.line.any_command.Goals.{Else-eq}

cut : (c : Else-eq)
    → IsCommand c.args.text.now c.first_word.result.0.now c.first_word.result.1.now
cut c = record {
  none = c.requires.other;
  narrow = sym c.eq.ensures ∙ c.if-eq.false;
  word = c.first_word.ensures.word;
  others = c.first_word.ensures.rest;
}

no_node : (c : Else-eq) → u8_of c.first_word.result.0.now ≡ None
no_node c = ap u8_of c.first_word.ensures.word ∙ no_number c.args.text.now c.requires.other

pub returns-then-eq : goal.returns-then-eq
returns-then-eq c =
    c.wide.ensures
    ∙ of_wide c.args.text.now (sym c.eq.ensures ∙ c.if-eq.true) c.first_word.ensures.word
    c.first_word.ensures.rest

pub returns-in_err-operands : goal.returns-in_err-operands
returns-in_err-operands c =
    ap (λ r. read r c.args.line.now) c.from_residual.ensures
    ∙ command_read (cut (goal.at.returns-in_err-operands c).Else-eq)
    c.in_err-operands.ensures

pub returns-in-space : goal.returns-in-space
returns-in-space c =
    c.space.ensures
    ∙ of_space (spelled c.in_ok-operands.operands) c.first_word.result.0.now c.in-space.is
    ∙ command_read (cut (goal.at.returns-in-space c).Else-eq) c.in_ok-operands.ensures

pub returns-in-deliver : goal.returns-in-deliver
returns-in-deliver c =
    c.delivery.ensures
    ∙ of_delivery (spelled c.in_ok-operands.operands) c.first_word.result.0.now c.in-deliver.is
    ∙ command_read (cut (goal.at.returns-in-deliver c).Else-eq) c.in_ok-operands.ensures

pub returns-in-ack : goal.returns-in-ack
returns-in-ack c =
    c.hand.ensures
    ∙ of_hand (spelled c.in_ok-operands.operands) c.first_word.result.0.now c.in-ack.is
    ∙ command_read (cut (goal.at.returns-in-ack c).Else-eq) c.in_ok-operands.ensures

pub returns-in-report : goal.returns-in-report
returns-in-report c =
    c.report.ensures
    ∙ of_report (spelled c.in_ok-operands.operands) c.first_word.result.0.now c.in-report.is
    ∙ command_read (cut (goal.at.returns-in-report c).Else-eq) c.in_ok-operands.ensures

pub returns-in_default : goal.returns-in_default
returns-in_default c =
    let at = goal.at.returns-in_default c in
    of_none (spelled c.in_ok-operands.operands) c.first_word.result.0.now
    (no_node at.Else-eq) c.in_default.not-space c.in_default.not-deliver
    c.in_default.not-ack c.in_default.not-report
    ∙ command_read (cut at.Else-eq) c.in_ok-operands.ensures
