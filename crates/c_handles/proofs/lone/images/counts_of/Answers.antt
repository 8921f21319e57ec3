use Rattle.std.proofs.Common.{arith, ap, ◌∙◌, ℕ, length}
use Rattle.c_handles.specs.Images.{counts_below, counts_of}
use Rattle.c_handles.proofs.lone.images.counts_of.Goals as goal

pub returns-clause-counted : goal.returns-clause-counted
unfolding counts_of
returns-clause-counted c =
    c.loop-peer.invariant.counts
    ∙ ap (λ (k : ℕ). counts_below c.args.core.now k)
    {x = c.loop-peer.peer} {y = length c.args.core.now.links}
    (omega (
      arith,
      c.loop-peer-test.false,
      c.loop-peer.auto.peer-end,
      c.loop-peer.invariant.width,
    ))
