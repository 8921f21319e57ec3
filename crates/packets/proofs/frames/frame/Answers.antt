use Rattle.std.proofs.Common.{◌∙◌, sym, arith}
use Rattle.codec.specs.Readers.{left}
use Rattle.packets.proofs.Lengths.{closed, found, too_few}
use Rattle.packets.proofs.frames.frame.Goals.{then-not-is_open-via-then-not-is_open, then-not-is_open-via-else-not-is_open+then-end-bytes}
use Rattle.packets.proofs.frames.frame.Goals as goal

pub returns-then-not-is_open-clause-none : goal.returns-then-not-is_open-clause-none
returns-then-not-is_open-clause-none c _ =
    let told = rw c.new-reader.ensures at c.take_length-size.ensures.is in
    elim c.then-not-is_open.branch [
      | then-not-is_open-via-then-not-is_open w ↦
          closed c.args.bytes.now c.take_length-size.result
          (λ i. omega (arith, c.type_inv.bytes i)) (left c.take_length-size.new.reader) told
          (sym c.is_open.ensures ∙ w.if-not-is_open.true)
      | then-not-is_open-via-else-not-is_open+then-end-bytes w ↦
          too_few c.args.bytes.now c.take_length-size.result
          (λ i. omega (arith, c.type_inv.bytes i)) (left c.take_length-size.new.reader) told
          (omega (arith, c.start_of-start.ensures.value, w.if-end-bytes.true))
    ]

pub returns-clause-there : goal.returns-clause-there
returns-clause-there c =
    let told = rw c.new-reader.ensures at c.take_length-size.ensures.is in
    rw c.start_of-start.ensures.value
    (found c.args.bytes.now c.take_length-size.result (λ i. omega (arith, c.type_inv.bytes i))
    (left c.take_length-size.new.reader) told
    (sym c.is_open.ensures ∙ c.if-not-is_open.false)
    (omega (arith, c.start_of-start.ensures.value, c.if-end-bytes.false)))
