use Rattle.std.proofs.Common.{◌≡◌, ◌+◌, ◌-◌, ◌≤◌, length, drop, not}
use Rattle.std.specs.List.{prefix_len}
use Rattle.script.specs.Words.{is_space}
use Rattle.script.proofs.front.word_len.Given as goal

abbrev pub invariant-loop-len : goal.invariant-loop-len
invariant-loop-len l =
    (l.len ≤ length l.text)
    × (prefix_len (λ x. not (is_space x)) l.text ≡ l.len
    + prefix_len (λ x. not (is_space x)) (drop l.len l.text))

abbrev pub decreases-loop-len : goal.decreases-loop-len
decreases-loop-len l = length l.text - l.len
