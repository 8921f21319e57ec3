use Rattle.std.proofs.Common.{◌≡◌, ℕ, ◌+◌, ◌*◌, ◌≤◌, take}
use Rattle.std.specs.List.{sum_by}
use Rattle.ids.specs.declared.limits.TheConstants.{GREATEST_NUMBER}
use Rattle.model.specs.View.{used}
use Rattle.node.proofs.node_core.parts.links.number_sum.Given as goal

abbrev pub invariant-loop-node : goal.invariant-loop-node
invariant-loop-node l = record {
  sum : l.sum ≡ sum_by used (take l.node l.links.links)
      + sum_by (λ (k : ℕ). k) (take l.node l.links.got);
  few : l.sum ≤ l.node * (2 * GREATEST_NUMBER);
}
