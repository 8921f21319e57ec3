use Rattle.node.proofs.Receiving.{post-few, post-wide}
use Rattle.node.proofs.node_core.Core.receive_post.Goals as goal

pub run-requires-clause-few : goal.run-requires-clause-few
run-requires-clause-few c = rw (c.as_slice-references.ensures) (post-few c.requires)

pub run-requires-clause-extra : goal.run-requires-clause-extra
run-requires-clause-extra c =
    rw (c.as_slice-references.ensures) (
      (c.requires.sender.there, c.requires.sender.other),
      (post-few c.requires, (c.requires.within, post-wide c.requires)),
    )
