use Rattle.std.proofs.Common.{ap, sym, subst, ◌∙◌}
use Rattle.std.proofs.lemmas.Result.{err_from_is_err_and}
use Rattle.model.specs.View.{NodeView, kept_view}
use Rattle.node.specs.Keeping.{WholeNode}
use Rattle.image.specs.Images.{image_of}
use Rattle.image.specs.Nodes.{IsImageOf}
use Rattle.model.proofs.NewNodes.{new-kept}
use Rattle.world.proofs.NewImages.{new-starved}
use Rattle.world.proofs.SiteLemmas.{no-frames, site-new}
use Rattle.world.proofs.site.Site.new.Goals as goal

-- a new node's image spells it, since nothing was sent
pub new-saved-requires : goal.new-saved-requires
new-saved-requires c =
    let made = ap (λ (w : WholeNode). w.core) c.in_ok-current.ensures.made in
    let kept = ap kept_view made ∙ new-kept c.args.shape c.args.own.number ∙ sym made in
    rw (c.in_ok-to_bytes.ensures.written, c.core.ensures.value)
    (subst (λ (n : NodeView). IsImageOf (image_of c.in_ok-current.current.core) n) kept
    c.in_ok-to_bytes.ensures.image)

pub returns-in_err-to_bytes-clause-refused : goal.returns-in_err-to_bytes-clause-refused
returns-in_err-to_bytes-clause-refused c =
    let p = err_from_is_err_and c.from_residual-in_err-to_bytes.result
    c.from_residual-in_err-to_bytes.ensures.1 in
    rw (p.1, p.2) (new-starved c.args.shape c.args.own.number _
    c.nodes.ensures.within
    (rw c.in_ok-current.ensures.made at c.in_err-to_bytes.ensures.refused))

pub invariant_of-result : goal.invariant_of-result
invariant_of-result c =
    rw (
      c.new-saved.ensures,
      c.core.ensures.value,
      c.in_ok-current.ensures.made,
      c.in_ok-outboxes.ensures.made,
      no-frames,
      c.nodes.ensures.value,
    )
    (site-new c.args.shape c.args.own.number)

pub returns-clause-made : goal.returns-clause-made
returns-clause-made c =
    rw (
      c.new-saved.ensures,
      c.core.ensures.value,
      c.in_ok-current.ensures.made,
      c.in_ok-outboxes.ensures.made,
      no-frames,
      c.nodes.ensures.value,
    )
