use Rattle.std.proofs.Common.{◌≡◌, drop, length}
use Rattle.node.specs.Parts.{are_whole}
use Rattle.node.proofs.node_core.parts.home.are_whole.Given as goal

-- the letters that are left decide as all of them do
abbrev pub invariant-loop-number : goal.invariant-loop-number
invariant-loop-number l =
    record {
      count : l.number-end ≡ length l.letters.items;
      left : are_whole (drop l.number l.letters.items) ≡ are_whole l.letters.items;
    }
