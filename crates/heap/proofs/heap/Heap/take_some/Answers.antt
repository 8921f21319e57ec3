use Rattle.std.proofs.Common.{◌≡◌, ◌+◌, ◌-◌, length, sym, ap, ◌∙◌}
use Rattle.std.proofs.lemmas.List.{length-set}
use Rattle.model.specs.State.{Heap}
use Rattle.model.specs.Heaps.{letter_taken, letters_taken, oldest_letter}
use Rattle.heap.proofs.Taking.{taken-next, room-both}
use Rattle.heap.proofs.heap.Heap.take_some.Goals as goal

pub loop-number-preserved : goal.loop-number-preserved
loop-number-preserved c =
    let old = c.loop-number.invariant in
    let h : Heap = c.loop-number.self.heap in
    let register = c.args.register + c.loop-number.number in
    let rest = λ (g : Heap). letters_taken (c.args.count - (c.loop-number.number + 1)) g
    (c.args.register + (c.loop-number.number + 1)) in
    let gone : c.take_one.new.self.heap ≡ letter_taken h register =
    rw (← c.from.ensures) c.take_one.ensures.heap in
    record {
      registers = ap (λ (g : Heap). length g.registers) gone
          ∙ length-set h.registers register (oldest_letter h).reference
          ∙ old.registers;
      left = ap rest gone
          ∙ sym (taken-next c.args.count c.loop-number.number h c.args.register
          c.loop-number-test.true)
          ∙ old.left;
      limit = c.take_one.ensures.limit ∙ old.limit;
      room = room-both old.room c.take_one.ensures.room;
    }
