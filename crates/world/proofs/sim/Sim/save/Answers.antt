use Rattle.std.proofs.Common.{refl, subst, arith}
use Rattle.world.specs.Shows.{IsSim}
use Rattle.world.specs.Spaces.{SpaceView}
use Rattle.world.proofs.Held.{same-space, saved-space, sim-after-save, space-changes, wide-saved}
use Rattle.world.proofs.Steps.{no-node}
use Rattle.world.proofs.sim.Sim.save.Goals as goal

pub returns-then-node-count-clause-stepped : goal.returns-then-node-count-clause-stepped
returns-then-node-count-clause-stepped c =
    same-space refl (λ w shown. refl) (no-node _ _ (omega (arith, c.count.ensures.value)))

pub invariant_of-self : goal.invariant_of-self
invariant_of-self c =
    sim-after-save
    (space-changes c.self.inside.sites.items c.self.view_is c.from.ensures
    (omega (arith, c.count.ensures.value)) c.index_mut-site.ensures.value)
    c.save.result
    (subst (λ (n : SpaceView). IsSim n.sites) c.self.view_is c.self.invariant)
    c.save.ensures.done c.save.ensures.unchanged

pub returns-clause-stepped : goal.returns-clause-stepped
returns-clause-stepped c =
    let saves = c.save.ensures in
    saved-space
    (space-changes c.self.inside.sites.items c.self.view_is c.from.ensures
    (omega (arith, c.count.ensures.value)) c.index_mut-site.ensures.value)
    c.save.result (subst (λ (n : SpaceView). IsSim n.sites) c.self.view_is c.self.invariant)
    (record {
      done = saves.done;
      early = saves.early;
      node = saves.node;
      unchanged = saves.unchanged;
      refused = saves.refused;
      too_large = saves.too_large;
    })

pub returns-clause-wide : goal.returns-clause-wide
returns-clause-wide c =
    wide-saved _ _ c.save.result (returns-clause-stepped c).too_large.0
