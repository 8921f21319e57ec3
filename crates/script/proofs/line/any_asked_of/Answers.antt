use Rattle.std.proofs.Common.{◌∙◌, ap, sym}
use Rattle.script.specs.Grammar.{only_wide, either_of, node_line_of, words_of}
use Rattle.script.specs.Operands.{read}
use Rattle.script.proofs.line.any_asked_of.Goals as goal

pub returns-in-Some : goal.returns-in-Some
unfolding node_line_of
returns-in-Some c =
    ap (λ o. either_of o (only_wide c.args.node (words_of c.args.text.now)))
    (ap (λ r. read r c.numbered.new.line) (sym c.in-Some.is) ∙ c.numbered.ensures)

pub returns-in-None : goal.returns-in-None
unfolding node_line_of
returns-in-None c =
    c.only_wide.ensures
    ∙ ap (λ o. either_of o (only_wide c.args.node (words_of c.args.text.now)))
    (ap (λ r. read r c.numbered.new.line) (sym c.in-None.is) ∙ c.numbered.ensures)
