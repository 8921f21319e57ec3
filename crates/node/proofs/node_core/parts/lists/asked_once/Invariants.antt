use Rattle.std.proofs.Common.{◌≡◌, take}
use Rattle.node.proofs.Lists.{Asked}
use Rattle.node.proofs.node_core.parts.lists.asked_once.Given as goal

abbrev pub invariant-loop-reference : goal.invariant-loop-reference
invariant-loop-reference l = record {
  keys : l.asked.keys ≡ take l.reference-index l.references;
  asked : Asked l.shape l.own l.references l.reference-index;
}
