use Rattle.std.proofs.Common.{◌≡◌, ◌-◌, ◌≤◌, length, take}
use Rattle.script.proofs.front.behind_word.Given as goal

abbrev pub invariant-loop-place : goal.invariant-loop-place
invariant-loop-place l =
    (l.place ≤ length l.wanted) × (take l.place l.bytes ≡ take l.place l.wanted)

abbrev pub decreases-loop-place : goal.decreases-loop-place
decreases-loop-place l = length l.wanted - l.place
