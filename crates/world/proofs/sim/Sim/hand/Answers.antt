use Rattle.std.proofs.Common.{refl, subst, arith}
use Rattle.world.specs.Shows.{IsSim}
use Rattle.world.specs.Spaces.{SpaceView}
use Rattle.std.proofs.lemmas.Result.{err_from_is_err_and}
use Rattle.world.proofs.Acks.{hand-to-itself}
use Rattle.world.proofs.Held.{given-sim, given-space, handed-space, same-space}
use Rattle.world.proofs.Steps.{no-node, past-either}
use Rattle.world.proofs.sim.Sim.hand.Goals as goal

pub returns-then-from-count : goal.returns-then-from-count
returns-then-from-count c =
    same-space refl (λ w shown. refl)
    (no-node _ _ (past-either c.count-count.ensures.value c.then-from-count.either))

pub returns-then-from-to : goal.returns-then-from-to
returns-then-from-to c =
    same-space refl (λ w shown. refl)
    (hand-to-itself _ _ _ (omega (arith, c.count-count.ensures.value))
    (omega (arith, c.count-count.ensures.value)) c.if-from-to.true)

pub returns-in_err-act : goal.returns-in_err-act
returns-in_err-act c =
    let p = err_from_is_err_and c.from_residual.result c.from_residual.ensures.1 in
    rw (p.1, p.2)
    (handed-space (omega (arith, c.count-count.ensures.value)) c.if-from-to.false
    c.acknowledgement-ack.ensures
    (given-space c.self.inside.sites.items c.self.view_is c.from.ensures
    (omega (arith, c.count-count.ensures.value)) c.index_mut-site.ensures.value
    c.in_err-act.ensures))

pub returns : goal.returns
returns c = handed-space (omega (arith, c.count-count.ensures.value)) c.if-from-to.false
    c.acknowledgement-ack.ensures
    (given-space c.self.inside.sites.items c.self.view_is c.from.ensures
    (omega (arith, c.count-count.ensures.value)) c.index_mut-site.ensures.value
    c.in_ok-act.ensures)

pub invariant_of-self : goal.invariant_of-self
invariant_of-self c =
    given-sim (subst (λ (n : SpaceView). IsSim n.sites) c.self.view_is c.self.invariant)
    (given-space c.self.inside.sites.items c.self.view_is c.from.ensures
    (omega (arith, c.count-count.ensures.value)) c.index_mut-site.ensures.value
    c.in_err-act.ensures)

pub invariant_of-self-2 : goal.invariant_of-self-2
invariant_of-self-2 c =
    given-sim (subst (λ (n : SpaceView). IsSim n.sites) c.self.view_is c.self.invariant)
    (given-space c.self.inside.sites.items c.self.view_is c.from.ensures
    (omega (arith, c.count-count.ensures.value)) c.index_mut-site.ensures.value
    c.in_ok-act.ensures)
