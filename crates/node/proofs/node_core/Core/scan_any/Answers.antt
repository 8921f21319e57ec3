use Rattle.std.proofs.Common.{ap, sym, ◌∙◌, subst}
use Rattle.std.specs.List.{AllByRecursion}
use Rattle.model.specs.References.{IsWithin}
use Rattle.model.specs.Shading.{filled}
use Rattle.model.specs.View.{NodeView}
use Rattle.node.specs.Inside.{view_of}
use Rattle.node.proofs.Shading.{held_at, held-within}
use Rattle.node.proofs.node_core.Core.scan_any.Goals as goal

pub run-requires-clause-within : goal.run-requires-clause-within
run-requires-clause-within c =
    let n : NodeView = view_of c.self.inside in
    let holds =
    ap filled c.in-Some.ensures.value
    ∙ ap (λ (m : NodeView). held_at m c.args.slot) c.self.view_is in
    subst (AllByRecursion (IsWithin c.args.self.now.local.shape)) (sym holds)
    (subst (λ (m : NodeView). AllByRecursion (IsWithin m.local.shape) (held_at m c.args.slot))
    c.self.view_is (held-within n c.self.invariant.node c.args.slot))
