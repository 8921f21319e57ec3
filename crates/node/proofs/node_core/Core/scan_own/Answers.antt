use Rattle.std.proofs.Common.{◌≡◌, ◌∙◌, ℕ, Ok, true, not, ap, sym, subst, arith, ⊎_elim}
use Rattle.std.proofs.lemmas.Bool.{cases_Bool, ne_eqb}
use Rattle.std.proofs.lemmas.Bool.Decides.{nat_tests}
use Rattle.heap.specs.Heap.{scanned_own}
use Rattle.model.specs.Collecting.{scanned_reference}
use Rattle.model.specs.Shading.{is_open}
use Rattle.model.specs.State.{Heap}
use Rattle.model.specs.View.{NodeView, Performed, view_act}
use Rattle.model.specs.declared.event.Answer.TheVariants as answer
use Rattle.model.specs.declared.event.Event.TheVariants as event
use Rattle.node.specs.Inside.{IsSound, view_of}
use Rattle.node.specs.Invariant.{IsNode}
use Rattle.node.proofs.Shading.{node-scanned, performed-own}
use Rattle.node.proofs.Sound.{heap-back, sound-heap, with_heap}
use Rattle.node.proofs.node_core.Core.scan_own.Goals as goal

pub invariant_of-self : goal.invariant_of-self
invariant_of-self c =
    let n : NodeView = view_of c.self.inside in
    let cycle : c.cycle-cycle.result ≡ n.local.phases.cycle =
    rw (← c.self.view_is) at c.cycle-cycle.ensures.value in
    let opened : is_open n.local ≡ true =
    ap not (ne_eqb n.local.phases.ended n.local.phases.cycle (λ same.
    absurd (grind (arith, nat_tests, same, cycle, c.ended.ensures, c.if-ended-cycle.false)))) in
    ⊎_elim {C = IsSound (record c.self.inside { heap = c.scan_own.new.self })}
    (λ done.
    let became = c.scan_own.ensures.done done in
    let heap = became.heap ∙ ap (λ (k : ℕ). scanned_own n.local.own k n.local.heap) cycle in
    sound-heap c.self.invariant
    (subst (λ (h : Heap). IsNode (with_heap n h)) (sym heap)
    (node-scanned n c.self.invariant.node opened))
    became.limit)
    (λ none. heap-back c.self.invariant (c.scan_own.ensures.unchanged none))
    (cases_Bool c.scan_own.result)

pub returns-clause-done : goal.returns-clause-done
returns-clause-done c = λ done.
    let n : NodeView = view_of c.self.inside in
    let cycle : c.cycle-cycle.result ≡ n.local.phases.cycle =
    rw (← c.self.view_is) at c.cycle-cycle.ensures.value in
    let opened : is_open n.local ≡ true =
    ap not (ne_eqb n.local.phases.ended n.local.phases.cycle (λ same.
    absurd (grind (arith, nat_tests, same, cycle, c.ended.ensures, c.if-ended-cycle.false)))) in
    let simple = c.scan_own.ensures.can.0 done in
    let became = c.scan_own.ensures.done done in
    let heap = became.heap ∙ ap (λ (k : ℕ). scanned_own n.local.own k n.local.heap) cycle in
    subst (λ (m : NodeView). Performed true (Ok (answer.Scanned (scanned_reference m.local))) m
    (with_heap n c.scan_own.new.self.heap) (view_act m event.Scan)) c.self.view_is
    (performed-own n c.scan_own.new.self.heap simple.grey opened simple.named heap)
