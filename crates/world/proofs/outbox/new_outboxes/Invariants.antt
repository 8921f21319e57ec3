use Rattle.std.proofs.Common.{◌≡◌, replicate}
use Rattle.world.specs.Outboxes.{no_outbox}
use Rattle.world.proofs.outbox.new_outboxes.Given as goal

abbrev pub invariant-loop-node : goal.invariant-loop-node
invariant-loop-node l = l.row.items ≡ replicate l._node no_outbox
