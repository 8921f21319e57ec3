use Rattle.std.proofs.Common.{length, sym, ◌∙◌, arith}
use Rattle.world.specs.Moves.{awaits}
use Rattle.world.proofs.Moves.{first-is}
use Rattle.world.proofs.sim.Sim.receiver.Goals as goal

pub returns-then-is_some : goal.returns-then-is_some
returns-then-is_some c =
    first-is (length c.args.self.now.sites) c.loop-to.to (awaits c.args.self.now.sites c.args.from)
    (omega (arith, c.loop-to-test.true, c.count-count.ensures.value)) c.loop-to.invariant
    (λ _. sym c.in_flight.ensures.there ∙ sym c.is_some.ensures ∙ c.if-is_some.true)

pub returns : goal.returns
returns c =
    first-is (length c.args.self.now.sites) c.count-count.result
    (awaits c.args.self.now.sites c.args.from) (omega (arith, c.count-count.ensures.value))
    (λ j less. c.loop-to.invariant j (omega (arith, less, c.loop-to-test.false)))
    (λ below. absurd (omega (arith, below, c.count-count.ensures.value)))
