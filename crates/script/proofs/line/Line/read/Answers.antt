use Rattle.std.proofs.Common.{◌∙◌, ap}
use Rattle.script.specs.Grammar.{line_of, words_of}
use Rattle.script.proofs.Own.{own_read}
use Rattle.script.proofs.Words.{after_spaces}
use Rattle.script.proofs.line.Line.read.Goals as goal

pub returns-clause-reads : goal.returns-clause-reads
returns-clause-reads c =
    c.line_in.ensures ∙ ap (λ t. line_of (words_of t)) c.past_spaces.ensures.rest
    ∙ ap line_of (after_spaces c.args.text.now)

pub returns-clause-own : goal.returns-clause-own
returns-clause-own c = own_read c.line_in.result c.line_in.new.line _ c.line_in.ensures
