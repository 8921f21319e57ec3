use Rattle.std.proofs.Common.{refl, subst, sym, arith}
use Rattle.world.specs.Shows.{IsSim}
use Rattle.world.specs.Spaces.{SpaceView}
use Rattle.std.proofs.lemmas.Result.{err_from_is_err_and}
use Rattle.world.proofs.Deliveries.{deliver-to-itself, deliver-missing, deliver-never}
use Rattle.world.proofs.Lacking.{given-at, message, message-only, no-message}
use Rattle.world.proofs.Held.{delivered-space, given-sim, given-space, same-space}
use Rattle.world.proofs.Steps.{no-node, past-either}
use Rattle.world.proofs.sim.Sim.deliver.Goals as goal

pub returns-then-from-count : goal.returns-then-from-count
returns-then-from-count c =
    same-space refl (λ w shown. refl)
    (no-node _ _ (past-either c.count-count.ensures.value c.then-from-count.either))

pub returns-then-from-to : goal.returns-then-from-to
returns-then-from-to c =
    same-space refl (λ w shown. refl)
    (deliver-to-itself _ _ _ _ (omega (arith, c.count-count.ensures.value))
    (omega (arith, c.count-count.ensures.value)) c.if-from-to.true)

pub returns-in_default : goal.returns-in_default
returns-in_default c =
    same-space refl (λ w shown. refl)
    (deliver-missing _ _ _ _ (omega (arith, c.count-count.ensures.value))
    (omega (arith, c.count-count.ensures.value)) c.if-from-to.false (sym c.in_default.ensures))

-- no message is an acknowledgement
pub returns-in-Ok : goal.returns-in-Ok
returns-in-Ok c =
    same-space refl (λ w shown. refl)
    (deliver-never c.if-from-to.false (sym c.in-Some.ensures) _ refl
    (λ x fits spelled stamp b is.
    rw is at (no-message c.in-Ack.field-0 (rw (c.in-Ok.is, c.in-Ack.is) at c.decode.ensures.only) x
    fits spelled)))

-- memory runs out for a letter
pub returns-in-Memory : goal.returns-in-Memory
returns-in-Memory c =
    let m = message ((rw c.in-Err.is at c.decode.ensures.last) c.in-Memory.is) in
    delivered-space _ _ _ c.if-from-to.false (sym c.in-Some.ensures) (message-only m.1)
    (omega (arith, c.count-count.ensures.value))
    (given-at (omega (arith, c.count-count.ensures.value)) c.site.ensures
    (c.in_ok-told-in-Memory.ensures m.0 m.1))

pub returns-in_err-told-in-Memory : goal.returns-in_err-told-in-Memory
returns-in_err-told-in-Memory c =
    let p = err_from_is_err_and c.from_residual-in_err-told-in-Memory.result
    c.from_residual-in_err-told-in-Memory.ensures.1 in
    let m = message ((rw c.in-Err.is at c.decode.ensures.last) c.in-Memory.is) in
    rw (p.1, p.2)
    (delivered-space _ _ _ c.if-from-to.false (sym c.in-Some.ensures) (message-only m.1)
    (omega (arith, c.count-count.ensures.value))
    (given-at (omega (arith, c.count-count.ensures.value)) c.site.ensures
    (c.in_err-told-in-Memory.ensures m.0 m.1)))

pub returns : goal.returns
returns c =
    same-space refl (λ w shown. refl)
    (deliver-never c.if-from-to.false (sym c.in-Some.ensures) _
    ((rw c.in-Err.is at c.decode.ensures.refused) c.in_default-refusal.not-Memory)
    (λ x fits spelled stamp b is.
    absurd (c.in_default-refusal.not-Memory
    ((rw c.in-Err.is at c.decode.ensures.only) x fits spelled).0)))

pub returns-in_err-answer-in-Data : goal.returns-in_err-answer-in-Data
returns-in_err-answer-in-Data c =
    let p = err_from_is_err_and c.from_residual.result
    c.from_residual.ensures.1 in
    rw (p.1, p.2)
    (delivered-space _ _ _ c.if-from-to.false (sym c.in-Some.ensures)
    (rw (c.in-Ok.is, c.in-Data.is) at c.decode.ensures.only)
    (omega (arith, c.count-count.ensures.value))
    (given-space c.self.inside.sites.items c.self.view_is c.from.ensures
    (omega (arith, c.count-count.ensures.value)) c.index_mut-site.ensures.value
    c.in_err-answer-in-Data.ensures))

pub returns-in-Data : goal.returns-in-Data
returns-in-Data c =
    delivered-space _ _ _ c.if-from-to.false (sym c.in-Some.ensures)
    (rw (c.in-Ok.is, c.in-Data.is) at c.decode.ensures.only)
    (omega (arith, c.count-count.ensures.value))
    (given-space c.self.inside.sites.items c.self.view_is c.from.ensures
    (omega (arith, c.count-count.ensures.value)) c.index_mut-site.ensures.value
    c.in_ok-answer-in-Data.ensures)

pub invariant_of-self : goal.invariant_of-self
invariant_of-self c =
    given-sim (subst (λ (n : SpaceView). IsSim n.sites) c.self.view_is c.self.invariant)
    (given-space c.self.inside.sites.items c.self.view_is c.from.ensures
    (omega (arith, c.count-count.ensures.value)) c.index_mut-site.ensures.value
    c.in_err-answer-in-Data.ensures)

pub invariant_of-self-in-Data : goal.invariant_of-self-in-Data
invariant_of-self-in-Data c =
    given-sim (subst (λ (n : SpaceView). IsSim n.sites) c.self.view_is c.self.invariant)
    (given-space c.self.inside.sites.items c.self.view_is c.from.ensures
    (omega (arith, c.count-count.ensures.value)) c.index_mut-site.ensures.value
    c.in_ok-answer-in-Data.ensures)
