use Rattle.std.proofs.Common.{◌≡◌, ℕ, ◌+◌, ◌-◌, ◌≤◌, ◌<◌, ◌^◌, cond, min, length, sym, ap, refl, ◌∙◌, arith}
use Rattle.std.proofs.Math.Nat.{min-le_left}
use Rattle.model.specs.Collecting.{Sweeping, is_garbage, sweep_some}
use Rattle.heap.specs.Heap.{HeapView, swept}
use Rattle.heap.proofs.Frees.{stops-after, freed-next, freed-past}
use Rattle.heap.proofs.heap.Heap.sweep.Goals.{then-free_unmarked, else-free_unmarked}
use Rattle.heap.proofs.heap.Heap.sweep.Goals as goal

pub loop-slot-preserved : goal.loop-slot-preserved
loop-slot-preserved c =
    let loop = c.loop-slot in
    let old = loop.invariant in
    let cycle = c.args.cycle in
    let last = c.args.cursor + c.args.count in
    let h = c.free_unmarked.new.self.heap in
    let some = λ (s : Sweeping). sweep_some cycle (loop.slot + 1) (last - (loop.slot + 1)) s in
    let count : c.if-free_unmarked.freed ≡ cond c.free_unmarked.result (loop.freed + 1) loop.freed =
    elim c.if-free_unmarked.branch [
      | then-free_unmarked w ↦ rw (w.freed-is, w.if-free_unmarked.true)
      | else-free_unmarked w ↦ rw (w.freed-is, w.if-free_unmarked.false)
    ] in
    let used = min-le_left c.saturating_add.result c.slots.result in
    let asked = min-le_left last (2 ^ 32 - 1) in
    let before : loop.slot < last =
    omega (arith, used, asked, c.min-end.ensures, c.saturating_add.ensures, c.loop-slot-test.true)
    in
    record {
      left = ap (λ (n : ℕ). some (record { heap = h; freed = n })) count
          ∙ ap some (sym (c.free_unmarked.ensures.done loop.freed))
          ∙ sym (freed-next (λ _. is_garbage cycle) loop.slot last _ before)
          ∙ old.left;
      slots = c.free_unmarked.ensures.slots ∙ old.slots;
      few = elim c.if-free_unmarked.branch [
        | then-free_unmarked w ↦ omega arith
        | else-free_unmarked w ↦ omega arith
      ];
      rest = c.free_unmarked.ensures.rest ∙ ap (λ (v : HeapView). record v { heap = h }) old.rest;
    }

-- once the slots have reached the end, everything that was to be swept is
is-swept : (c : goal.After-loop-slot) → c.min-end.result ≤ c.loop-slot.slot
    → record { heap = c.loop-slot.self.heap; freed = c.loop-slot.freed }
    ≡ swept c.args.cycle c.args.cursor c.args.count c.args.self.now.heap
is-swept c ended =
    let loop = c.loop-slot in
    let last = c.args.cursor + c.args.count in
    let used = length loop.self.heap.slots in
    let within : used ≤ 2 ^ 32 - 1 =
    omega (arith, loop.invariant.slots, c.slots.ensures, c.slots.type_inv) in
    let past : min (min last (2 ^ 32 - 1)) used ≤ loop.slot =
    rw (loop.invariant.slots, ← c.slots.ensures, ← c.saturating_add.ensures, ← c.min-end.ensures)
    ended in
    sym (freed-past (λ _. is_garbage c.args.cycle) (λ k. refl) loop.slot (last - loop.slot) _
    (λ left. stops-after last (2 ^ 32 - 1) used loop.slot within past (omega (arith, left))))
    ∙ loop.invariant.left

pub returns-clause-done : goal.returns-clause-done
returns-clause-done c =
    c.loop-slot.invariant.rest
    ∙ ap (λ (s : Sweeping). record c.args.self.now { heap = s.heap })
    (is-swept c (omega arith))

pub returns-clause-freed : goal.returns-clause-freed
returns-clause-freed c = ap (λ (s : Sweeping). s.freed) (is-swept c (omega arith))
