use Rattle.std.proofs.Common.{subst, arith}
use Rattle.world.specs.Shows.{IsSim}
use Rattle.world.specs.Spaces.{SpaceView}
use Rattle.world.proofs.Held.{acted-small, acted-space, given-sim, given-space, no-node-acts}
use Rattle.world.proofs.sim.Sim.act.Goals as goal

pub returns-then-node-count-clause-stepped : goal.returns-then-node-count-clause-stepped
returns-then-node-count-clause-stepped c =
    no-node-acts _ _ _ c.count.ensures.early
    (omega (arith, c.count.ensures.value))

pub invariant_of-self : goal.invariant_of-self
invariant_of-self c =
    given-sim (subst (λ (n : SpaceView). IsSim n.sites) c.self.view_is c.self.invariant)
    (given-space c.self.inside.sites.items c.self.view_is c.from.ensures
    (omega (arith, c.if-node-count.false, c.count.ensures.value)) c.index_mut-site.ensures.value
    c.act.ensures)

pub returns-clause-stepped : goal.returns-clause-stepped
returns-clause-stepped c =
    acted-space c.args.event.now
    (given-space c.self.inside.sites.items c.self.view_is c.from.ensures
    (omega (arith, c.if-node-count.false, c.count.ensures.value)) c.index_mut-site.ensures.value
    c.act.ensures)
    c.requires.own

pub returns-clause-small : goal.returns-clause-small
returns-clause-small c =
    acted-small c.act.result
    (acted-space c.args.event.now
    (given-space c.self.inside.sites.items c.self.view_is c.from.ensures
    (omega (arith, c.if-node-count.false, c.count.ensures.value)) c.index_mut-site.ensures.value
    c.act.ensures)
    c.requires.own)
