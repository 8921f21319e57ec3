use Rattle.std.proofs.Common.{◌≡◌, ℕ, false, get_or, inl, inr, subst, sym, ◌∙◌, arith}
use Rattle.std.proofs.lemmas.Bool.{cases_lt}
use Rattle.model.specs.State.{Retired}
use Rattle.model.specs.Reclaiming.{is_recent}
use Rattle.heap.specs.Blocks.{Covers}
use Rattle.heap.proofs.Ages.{any-jump}
use Rattle.heap.proofs.Flags.{unflagged}
use Rattle.heap.proofs.heap.Heap.has_recent.Goals as goal

pub loop-slot-init : goal.loop-slot-init
loop-slot-init c =
    let all = c.args.self.now.heap.slots in
    let covers : Covers is_recent c.self.inside.recent all =
    rw (← c.self.view_is) c.self.invariant.recent in
    let next = c.next-slot.ensures in
    record {
      count = c.slots-end.ensures;
      within = next.bounds.1;
      left = sym (any-jump is_recent all 0 c.next-slot.result (omega arith)
          (λ j from to. unflagged covers j (next.skips j from to)));
    }

pub loop-slot-preserved : goal.loop-slot-preserved
loop-slot-preserved c =
    let all = c.args.self.now.heap.slots in
    let covers : Covers is_recent c.self.inside.recent all =
    rw (← c.self.view_is) c.self.invariant.recent in
    let old = c.loop-slot.invariant in
    let next = c.next-slot-in-loop-slot.ensures in
    let none = sym c.is_recent.ensures ∙ c.if-is_recent.false in
    record {
      count = old.count;
      within = next.bounds.1;
      left = sym (any-jump is_recent all c.loop-slot.slot c.next-slot-in-loop-slot.result
          (omega arith)
          (λ j from to. elim (cases_lt c.loop-slot.slot j) [
            | inl later ↦
                unflagged covers j (next.skips j (omega (arith, later)) to)
            | inr past ↦
                let here : c.loop-slot.slot ≡ j = omega (arith, from, past) in
                subst (λ (i : ℕ). is_recent (get_or all i Retired) ≡ false) here none
          ]))
          ∙ old.left;
    }
