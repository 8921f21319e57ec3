use Rattle.std.proofs.Common.{◌≡◌, ◌∙◌, ℕ, Option, sym, ap, decimal}
use Rattle.std.specs.Option.{option_and_then}
use Rattle.script.specs.Grammar.{node_line_of, u64_of, u8_of, words_of}
use Rattle.script.specs.Operands.{read}
use Rattle.script.specs.Words.{behind, word_of}
use Rattle.script.proofs.Spelling.{u8-is}
use Rattle.script.proofs.line.node_line.Goals as goal
use Rattle.script.proofs.line.node_line.Goals.{After-first_number}

-- what is read of a number, if it is this one
line : (c : After-first_number) (number : Option ℕ) → number ≡ u64_of (word_of c.args.text.now)
    → option_and_then (λ node. node_line_of node (words_of (behind c.args.text.now)))
    (option_and_then (λ n. u8_of (decimal n)) number)
    ≡ option_and_then (λ node. node_line_of node (words_of (behind c.args.text.now)))
    (u8_of (word_of c.args.text.now))
line c number e =
    ap (option_and_then (λ node. node_line_of node (words_of (behind c.args.text.now))))
    (sym (u8-is (word_of c.args.text.now)
    ∙ ap (option_and_then (λ n. u8_of (decimal n))) (sym e)))

pub returns-in_err-number : goal.returns-in_err-number
returns-in_err-number c =
    ap (λ r. read r c.args.line.now) c.from_residual.ensures
    ∙ line (goal.at.returns-in_err-number c).After-first_number _ c.in_err-number.ensures.number

pub returns-in_err-to_u8 : goal.returns-in_err-to_u8
returns-in_err-to_u8 c =
    ap (λ r. read r c.args.line.now) c.from_residual-in_err-to_u8.ensures
    ∙ ap (option_and_then (λ node. node_line_of node (words_of (behind c.args.text.now))))
    c.in_err-to_u8.ensures
    ∙ line (goal.at.returns-in_err-to_u8 c).After-first_number _ c.in_ok-number.ensures.number

pub returns : goal.returns
returns c =
    c.asked_of.ensures
    ∙ ap (λ t. node_line_of c.in_ok-to_u8.field-0 (words_of t)) c.in_ok-number.ensures.rest
    ∙ ap (option_and_then (λ node. node_line_of node (words_of (behind c.args.text.now))))
    c.in_ok-to_u8.ensures
    ∙ line (goal.at.returns c).After-first_number _ c.in_ok-number.ensures.number
