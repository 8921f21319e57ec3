use Rattle.std.proofs.Common.{refl, ap, subst, arith}
use Rattle.std.proofs.lemmas.Result.{err_from_is_err_and}
use Rattle.world.specs.Shows.{IsSim}
use Rattle.world.specs.Spaces.{SpaceView, early_of, site_of}
use Rattle.world.proofs.Held.{early-lost, early-same, keeps-early, keeps-none, lifted, same-space, sim-after-restart, space-changes}
use Rattle.world.proofs.Steps.{no-node, restart-starved, restarted}
use Rattle.world.proofs.sim.Sim.restart.Goals as goal

pub returns-then-node-count : goal.returns-then-node-count
returns-then-node-count c =
    same-space refl (λ w shown. refl) (no-node _ _ (omega (arith, c.count.ensures.value)))

pub returns-in_err-restart : goal.returns-in_err-restart
returns-in_err-restart c =
    let p = err_from_is_err_and c.from_residual.result c.from_residual.ensures.1 in
    let change = space-changes c.self.inside.sites.items c.self.view_is c.from.ensures
    (omega (arith, c.count.ensures.value)) c.index_mut-site.ensures.value in
    rw (p.1, p.2)
    (lifted refl (keeps-early change (ap early_of c.in_err-restart.ensures.unchanged))
    (λ w shown. early-same change (ap early_of c.in_err-restart.ensures.unchanged))
    (restart-starved change.sites _ (ap site_of c.in_err-restart.ensures.unchanged)
    c.in_err-restart.ensures.refused))

pub invariant_of-self : goal.invariant_of-self
invariant_of-self c =
    sim-after-restart
    (space-changes c.self.inside.sites.items c.self.view_is c.from.ensures
    (omega (arith, c.count.ensures.value)) c.index_mut-site.ensures.value)
    c.restart.result
    (subst (λ (n : SpaceView). IsSim n.sites) c.self.view_is c.self.invariant)
    c.restart.ensures.done c.restart.ensures.unchanged

pub invariant_of-self-2 : goal.invariant_of-self-2
invariant_of-self-2 c =
    sim-after-restart
    (space-changes c.self.inside.sites.items c.self.view_is c.from.ensures
    (omega (arith, c.count.ensures.value)) c.index_mut-site.ensures.value)
    c.restart.result
    (subst (λ (n : SpaceView). IsSim n.sites) c.self.view_is c.self.invariant)
    c.restart.ensures.done c.restart.ensures.unchanged

pub returns : goal.returns
returns c =
    let change = space-changes c.self.inside.sites.items c.self.view_is c.from.ensures
    (omega (arith, c.count.ensures.value)) c.index_mut-site.ensures.value in
    lifted refl (keeps-none change _ (ap early_of c.in_ok-restart.ensures.done))
    (early-lost change
    (subst (λ (n : SpaceView). IsSim n.sites) c.self.view_is c.self.invariant)
    c.in_ok-restart.ensures.done)
    (restarted change.sites (ap site_of c.in_ok-restart.ensures.done))
