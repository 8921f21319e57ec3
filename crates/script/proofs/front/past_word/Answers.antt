use Rattle.std.proofs.Common.{◌∙◌, ap, sym}
use Rattle.script.specs.Words.{past}
use Rattle.script.proofs.Words.{cut_at_one, past_none, past_one_space, trimmed_none}
use Rattle.script.proofs.front.past_word.Goals as goal

pub returns-then-is_empty-clause-rest : goal.returns-then-is_empty-clause-rest
returns-then-is_empty-clause-rest c =
    past_none c.args.rest.now (sym c.is_empty.ensures ∙ c.if-is_empty.true)

pub returns-then-is_empty-clause-trimmed : goal.returns-then-is_empty-clause-trimmed
returns-then-is_empty-clause-trimmed c =
    trimmed_none c.args.rest.now (sym c.is_empty.ensures ∙ c.if-is_empty.true)

pub range_from-requires : goal.range_from-requires
range_from-requires c _ =
    cut_at_one c.args.rest.now c.utf8.rest c.requires
    (sym c.is_empty.ensures ∙ c.if-is_empty.false)

pub returns-clause-rest : goal.returns-clause-rest
returns-clause-rest c =
    c.past_spaces.ensures.rest ∙ ap past c.range_from.ensures.value
    ∙ past_one_space c.args.rest.now c.requires (sym c.is_empty.ensures ∙ c.if-is_empty.false)
