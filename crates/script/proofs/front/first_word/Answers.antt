use Rattle.std.proofs.Common.{◌≡◌, ℕ, drop, take, sym, ap, ◌∙◌, subst}
use Rattle.std.specs.List.{position_or_len}
use Rattle.std.specs.Str.{IsCharBoundary}
use Rattle.script.specs.Words.{is_space, past, word_end}
use Rattle.script.proofs.Words.{cut_at_word}
use Rattle.script.proofs.front.first_word.Goals as goal
use Rattle.script.proofs.front.first_word.Goals.{After-word_len}

end : (c : After-word_len) → c.word_len.result ≡ word_end c.args.text.now
end c = c.word_len.ensures ∙ ap (position_or_len is_space) c.as_bytes.ensures.value

pub split_at-requires : goal.split_at-requires
split_at-requires c =
    subst (IsCharBoundary c.args.text.now)
    (sym (end (goal.at.split_at-requires c).After-word_len)) (cut_at_word c.args.text.now)

pub returns-clause-word : goal.returns-clause-word
returns-clause-word c =
    c.split_at.ensures.front
    ∙ ap (λ (n : ℕ). take n c.args.text.now) (end (goal.at.returns-clause-word c).After-word_len)

pub returns-clause-rest : goal.returns-clause-rest
returns-clause-rest c =
    c.past_spaces.ensures.rest ∙ ap past (c.split_at.ensures.back
    ∙ ap (λ (n : ℕ). drop n c.args.text.now) (end (goal.at.returns-clause-rest c).After-word_len))
