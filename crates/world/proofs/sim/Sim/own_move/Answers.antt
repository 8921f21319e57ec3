use Rattle.std.proofs.Common.{◌∙◌, ap, length, arith}
use Rattle.model.specs.State.{Phases, Heap}
use Rattle.model.specs.View.{NodeView}
use Rattle.world.specs.Moves.{local_at}
use Rattle.world.proofs.Moves.{opened, shut, pass-shown, sweep-shown, begin-shown}
use Rattle.world.proofs.sim.Sim.own_move.Goals as goal

pub returns-then-unswept-count-clause-is : goal.returns-then-unswept-count-clause-is
returns-then-unswept-count-clause-is c = λ w shown.
    let ended = c.ended.ensures ∙ ap (λ (p : Phases). p.ended) c.phases-phases.ensures.value in
    let cycle =
    c.cycle.ensures.value ∙ ap (λ (p : Phases). p.cycle) c.phases-phases.ensures.value in
    let again =
    c.cycle-2.ensures.value ∙ ap (λ (p : Phases). p.cycle) c.phases-phases.ensures.value in
    sweep-shown shown.world
    (shut (local_at c.args.self.now.sites 0) c.ended.result c.cycle.result ended cycle
    c.if-ended-cycle.false)
    again c.first-unswept.ensures
    (omega (arith, c.if-unswept-count.true, c.count-count.ensures.value))
    (c.slots-slots.ensures ∙ ap (λ (h : Heap). length h.slots) c.heap.ensures.value
    ∙ ap (λ (n : NodeView). length n.local.heap.slots) c.core.ensures)

pub returns-else-grey-count-clause-is : goal.returns-else-grey-count-clause-is
returns-else-grey-count-clause-is c = λ w shown.
    pass-shown shown.world c.first.result
    (opened (local_at c.args.self.now.sites 0) c.ended.result c.cycle.result
    (c.ended.ensures ∙ ap (λ (p : Phases). p.ended) c.phases-phases.ensures.value)
    (c.cycle.ensures.value ∙ ap (λ (p : Phases). p.cycle) c.phases-phases.ensures.value)
    c.if-ended-cycle.true)
    (omega (arith, c.first-grey.ensures, c.if-grey-count.false, c.count-count.ensures.value))
    c.first.ensures

pub returns-else-unswept-count-clause-is : goal.returns-else-unswept-count-clause-is
returns-else-unswept-count-clause-is c = λ w shown.
    begin-shown shown.world c.cycle-2.result
    (shut (local_at c.args.self.now.sites 0) c.ended.result c.cycle.result
    (c.ended.ensures ∙ ap (λ (p : Phases). p.ended) c.phases-phases.ensures.value)
    (c.cycle.ensures.value ∙ ap (λ (p : Phases). p.cycle) c.phases-phases.ensures.value)
    c.if-ended-cycle.false)
    (c.cycle-2.ensures.value ∙ ap (λ (p : Phases). p.cycle) c.phases-phases.ensures.value)
    (omega (arith, c.first-unswept.ensures, c.if-unswept-count.false, c.count-count.ensures.value))
