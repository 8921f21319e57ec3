use Rattle.std.proofs.Common.{◌≡◌, ℕ, drop, sym, ap, ◌∙◌, subst}
use Rattle.std.specs.List.{prefix_len}
use Rattle.std.specs.Str.{IsCharBoundary}
use Rattle.script.specs.Words.{IsTrimmed, is_space, past}
use Rattle.script.proofs.Words.{cut_at_past, past_trimmed}
use Rattle.script.proofs.front.past_spaces.Goals as goal
use Rattle.script.proofs.front.past_spaces.Goals.{After-range_from}

pub range_from-requires : goal.range_from-requires
range_from-requires c _ =
    subst (IsCharBoundary c.args.text.now)
    (sym (c.space_len.ensures ∙ ap (prefix_len is_space) c.as_bytes.ensures.value))
    (cut_at_past c.args.text.now c.utf8.text)

rest : (c : After-range_from) → c.range_from.result.now ≡ past c.args.text.now
rest c =
    c.range_from.ensures.value
    ∙ ap (λ (n : ℕ). drop n c.args.text.now)
    (c.space_len.ensures ∙ ap (prefix_len is_space) c.as_bytes.ensures.value)

pub returns-clause-rest : goal.returns-clause-rest
returns-clause-rest c = rest (goal.at.returns-clause-rest c).After-range_from

pub returns-clause-trimmed : goal.returns-clause-trimmed
returns-clause-trimmed c =
    subst IsTrimmed (sym (rest (goal.at.returns-clause-trimmed c).After-range_from))
    (past_trimmed c.args.text.now)
