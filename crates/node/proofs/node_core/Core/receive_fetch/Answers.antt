use Rattle.node.proofs.Receiving.{fetch-small}
use Rattle.node.proofs.node_core.Core.receive_fetch.Goals as goal

pub run-requires-clause-extra : goal.run-requires-clause-extra
run-requires-clause-extra c = (
  (c.requires.sender.there, c.requires.sender.other),
  fetch-small _ c.requires c.in_ok-bytes.ensures.value,
)
