use Rattle.std.proofs.Common.{arith, ap, ◌∙◌, ℕ, length}
use Rattle.c_handles.specs.Images.{keeps, keeps_below}
use Rattle.c_handles.proofs.lone.images.keep.Goals as goal

pub returns : goal.returns
unfolding keeps
returns c =
    c.loop-peer.invariant.node
    ∙ ap (λ (k : ℕ). keeps_below c.args.counts.now k c.args.node.now)
    {x = c.loop-peer.peer} {y = length c.args.node.now.core.links}
    (omega (
      arith,
      c.loop-peer-test.false,
      c.loop-peer.auto.peer-end,
      c.loop-peer.invariant.width,
    ))
