use Rattle.std.proofs.Common.{◌≢◌, subst, sym}
use Rattle.model.specs.State.{Phases}
use Rattle.node.proofs.Receiving.{token-open}
use Rattle.node.proofs.Runs.{run-phases}
use Rattle.node.proofs.node_core.Core.receive_token.Goals as goal

pub hold-requires : goal.hold-requires
hold-requires c =
    subst (λ (p : Phases). p.ended ≢ p.cycle)
    (sym (run-phases c.args.stamp _ _ _ c.in_ok-run.ensures.done))
    (token-open c.args.self.now.local c.args.stamp c.requires)
