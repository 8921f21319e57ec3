use Rattle.std.proofs.Common.{ℕ, ◌∙◌, ap, sym, subst, replicate}
use Rattle.link.specs.Early.{no_early}
use Rattle.model.specs.declared.summary.Summary.{Summary}
use Rattle.node.specs.Keeping.{Rings, AreKept}
use Rattle.node.proofs.Held.{alone-kept}
use Rattle.node.proofs.node.Node.of.Goals as goal

pub invariant_of-result : goal.invariant_of-result
invariant_of-result c =
    let width =
    c.nodes-width.ensures.value ∙ ap (λ (s : Summary). s.shape.nodes) c.state.ensures.value in
    subst
    (λ (es : Rings).
    AreKept c.args.core.local.shape.nodes c.args.core.local.own c.args.core.local.got es)
    (sym (c.in_ok-early.ensures.made ∙ ap (λ (k : ℕ). replicate k no_early) width))
    (alone-kept c.args.core c.state.ensures.sound)
