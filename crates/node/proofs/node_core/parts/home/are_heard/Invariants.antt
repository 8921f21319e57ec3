use Rattle.std.proofs.Common.{◌≡◌, ℕ, ◌<◌, true, get_or}
use Rattle.node.specs.Parts.{is_report}
use Rattle.node.proofs.node_core.parts.home.are_heard.Given as goal

abbrev pub invariant-loop-node : goal.invariant-loop-node
invariant-loop-node l = (k : ℕ) → k < l.node → is_report l.own k (get_or l.reports k 0) ≡ true
