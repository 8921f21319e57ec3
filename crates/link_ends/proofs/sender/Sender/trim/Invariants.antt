use Rattle.std.proofs.Common.{◌-◌}
use Rattle.link_ends.proofs.Trimming.{Trims}
use Rattle.link_ends.proofs.sender.Sender.trim.Given as goal

-- what is still to be dropped is dropped from what is left
abbrev pub invariant-loop-self : goal.invariant-loop-self
invariant-loop-self l =
    Trims l.fn.self l.number (record {
      base = l.self-inside.base;
      unacknowledged = l.self-inside.unacknowledged.items;
      kept = l.self-inside.kept;
    })

abbrev pub decreases-loop-self : goal.decreases-loop-self
decreases-loop-self l = l.number - l.self-inside.base
