use Rattle.std.proofs.Common.{◌∙◌, ap}
use Rattle.model.specs.State.{LocalState}
use Rattle.node.proofs.Receiving.{ended-calm, ended-free}
use Rattle.node.proofs.Runs.{run-quiet}
use Rattle.node.proofs.node_core.Core.receive_ended.Goals as goal

pub end_marking-requires-clause-calm : goal.end_marking-requires-clause-calm
end_marking-requires-clause-calm c =
    ap (λ (p : LocalState). p.heap.grey) (run-quiet c.args.stamp c.in_ok-run.ensures.done)
    ∙ ended-calm c.args.self.now.local c.args.stamp c.requires

pub end_marking-requires-clause-free : goal.end_marking-requires-clause-free
end_marking-requires-clause-free c =
    ap (λ (p : LocalState). p.ring.token) (run-quiet c.args.stamp c.in_ok-run.ensures.done)
    ∙ ended-free c.args.self.now.local c.args.stamp c.requires
