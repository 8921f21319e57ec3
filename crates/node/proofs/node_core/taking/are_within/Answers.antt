use Rattle.std.proofs.Common.{◌∙◌}
use Rattle.node.proofs.Receipts.{each-within}
use Rattle.node.proofs.node_core.taking.are_within.Goals as goal

pub returns : goal.returns
returns c = c.is_each_within.ensures ∙ each-within c.args.shape c.args.references.now
