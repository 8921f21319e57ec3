use Rattle.std.proofs.Common.{ℕ, ◌<◌, map, length, subst, sym, ◌∙◌, arith}
use Rattle.std.proofs.lemmas.List.{length-map, take_all}
use Rattle.codec.specs.Formats.{number4}
use Rattle.codec.specs.Writing.{Puts}
use Rattle.codec.proofs.Writing.{both, written_more}
use Rattle.frames.specs.declared.version.Version.TheVariants.{Second}
use Rattle.image_parts.specs.Grammar.{slot_format}
use Rattle.image_parts.specs.Stored.{stored_slot}
use Rattle.image_parts.proofs.Kept.{slot_there}
use Rattle.image_parts.proofs.slots.put_each_slot.Goals as goal

pub loop-slot-preserved : goal.loop-slot-preserved
loop-slot-preserved c =
    let slots = c.args.heap.now.heap.slots in
    let k = c.loop-slot.slot in
    let within : k < length slots =
    omega (arith, c.slots-slot-end.ensures, c.loop-slot-test.true) in
    written_more (slot_format c.args.wide Second).spell (slot_format c.args.wide Second).IsWide
    (map stored_slot slots) k
    (omega (arith, within, length-map slots stored_slot))
    (slot_there slots k _ within c.slot.ensures) c.loop-slot.invariant c.put_slot.ensures

pub returns : goal.returns
returns c =
    let slots = c.args.heap.now.heap.slots in
    let count = length-map slots stored_slot in
    both
    (subst (λ (n : ℕ). Puts number4 c.args.out.now c.u32.new.self n) (c.slots.ensures ∙ sym count)
    c.u32.ensures)
    (rw (take_all c.loop-slot.slot (map stored_slot slots)
    (omega (arith, count, c.slots-slot-end.ensures, c.loop-slot-test.false))) at
    c.loop-slot.invariant)
