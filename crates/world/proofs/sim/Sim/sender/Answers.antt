use Rattle.std.proofs.Common.{length, lt-ltb, arith}
use Rattle.world.specs.Moves.{has_awaiting}
use Rattle.world.proofs.Moves.{first-is}
use Rattle.world.proofs.sim.Sim.sender.Goals as goal

pub returns-then-receiver-count : goal.returns-then-receiver-count
returns-then-receiver-count c =
    first-is (length c.args.self.now.sites) c.loop-from.from (has_awaiting c.args.self.now.sites)
    (omega (arith, c.loop-from-test.true, c.count-count.ensures.value)) c.loop-from.invariant
    (λ _.
    lt-ltb _ _
    (omega
    (arith, c.receiver.ensures, c.if-receiver-count.true, c.count-count.ensures.value)))

pub returns : goal.returns
returns c =
    first-is (length c.args.self.now.sites) c.count-count.result
    (has_awaiting c.args.self.now.sites) (omega (arith, c.count-count.ensures.value))
    (λ j less. c.loop-from.invariant j (omega (arith, less, c.loop-from-test.false)))
    (λ below. absurd (omega (arith, below, c.count-count.ensures.value)))
