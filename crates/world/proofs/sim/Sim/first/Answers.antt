use Rattle.std.proofs.Common.{length, sym, ap, ◌∙◌, arith}
use Rattle.model.specs.View.{NodeView}
use Rattle.world.specs.Moves.{has_sign, local_at}
use Rattle.world.proofs.Moves.{first-is}
use Rattle.world.proofs.sim.Sim.first.Goals as goal

pub returns-then-has_sign : goal.returns-then-has_sign
returns-then-has_sign c =
    first-is (length c.args.self.now.sites) c.loop-node.node
    (λ i. has_sign c.args.sign (local_at c.args.self.now.sites i))
    (omega (arith, c.loop-node-test.true, c.count-count.ensures.value)) c.loop-node.invariant
    (λ _.
    sym (ap (λ (n : NodeView). has_sign c.args.sign n.local) c.core.ensures)
    ∙ sym c.has_sign.ensures ∙ c.if-has_sign.true)

pub returns : goal.returns
returns c =
    first-is (length c.args.self.now.sites) c.count-count.result
    (λ i. has_sign c.args.sign (local_at c.args.self.now.sites i))
    (omega (arith, c.count-count.ensures.value))
    (λ j less. c.loop-node.invariant j (omega (arith, less, c.loop-node-test.false)))
    (λ below. absurd (omega (arith, below, c.count-count.ensures.value)))
