use Rattle.std.proofs.Common.{◌≡◌, replicate}
use Rattle.link.specs.Ends.{new_ends}
use Rattle.link.proofs.links.Links.new.Given as goal

abbrev pub invariant-loop-node : goal.invariant-loop-node
invariant-loop-node l = l.by_node.items ≡ replicate l._node new_ends
