use Rattle.std.proofs.Common.{subst, sym}
use Rattle.ids.specs.Limits.{Shaped}
use Rattle.model.specs.References.{IfAny, IsWithin}
use Rattle.model.proofs.References.{list-any}
use Rattle.node.proofs.Runs.{run-stands}
use Rattle.node.proofs.node_core.Core.receive_put.Goals as goal

pub put_place-requires : goal.put_place-requires
put_place-requires c =
    let same = run-stands c.args.stamp _ _ _ c.in_ok-run.ensures.done in
    subst (λ (s : Shaped). IfAny (IsWithin s) c.args.reference) (sym same.shape)
    (list-any (IsWithin c.args.self.now.local.shape) c.args.reference c.requires.within.1)
