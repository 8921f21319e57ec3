use Rattle.std.proofs.Common.{◌≡◌, replicate}
use Rattle.link.specs.Early.{no_early}
use Rattle.link.proofs.early.EarlyFrames.for_nodes.Given as goal

abbrev pub invariant-loop-node : goal.invariant-loop-node
invariant-loop-node l = l.by_node.items ≡ replicate l._node no_early
