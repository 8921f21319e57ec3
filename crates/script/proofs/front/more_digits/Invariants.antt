use Rattle.std.proofs.Common.{◌≡◌, ◌+◌, ◌-◌, ◌≤◌, length, drop, take}
use Rattle.script.specs.Grammar.{value_after}
use Rattle.script.specs.Words.{digit_count}
use Rattle.script.proofs.front.more_digits.Given as goal

-- the remaining digits follow those of the number so far
abbrev pub invariant-loop-len : goal.invariant-loop-len
invariant-loop-len l = record {
  within : l.len ≤ length l.text;
  count : digit_count l.text ≡ l.len + digit_count (drop l.len l.text);
  number : value_after l.number (take (digit_count (drop l.len l.text)) (drop l.len l.text))
      ≡ value_after 0 (take (digit_count l.text) l.text);
}

abbrev pub decreases-loop-len : goal.decreases-loop-len
decreases-loop-len l = length l.text - l.len
