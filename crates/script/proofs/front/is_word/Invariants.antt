use Rattle.std.proofs.Common.{◌≡◌, ◌-◌, ◌≤◌, length, drop}
use Rattle.std.specs.Str.{bytes_eq}
use Rattle.script.proofs.front.is_word.Given as goal

abbrev pub invariant-loop-place : goal.invariant-loop-place
invariant-loop-place l =
    (l.place ≤ length l.wanted) × (length l.bytes ≡ length l.wanted)
    × (bytes_eq l.bytes l.wanted ≡ bytes_eq (drop l.place l.bytes) (drop l.place l.wanted))

abbrev pub decreases-loop-place : goal.decreases-loop-place
decreases-loop-place l = length l.wanted - l.place
