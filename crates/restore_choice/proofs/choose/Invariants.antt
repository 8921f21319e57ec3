use Rattle.std.specs.List.{sum}
use Rattle.restore_choice.specs.Choices.{IsChoice}
use Rattle.restore_choice.proofs.Going.{IsAboveAll}
use Rattle.restore_choice.proofs.choose.Given as goal

abbrev pub invariant-loop-node : goal.invariant-loop-node
invariant-loop-node l =
    IsChoice l.histories l.choice.items × IsAboveAll l.histories l.choice.items

abbrev pub decreases-loop-node : goal.decreases-loop-node
decreases-loop-node l = sum l.choice.items
