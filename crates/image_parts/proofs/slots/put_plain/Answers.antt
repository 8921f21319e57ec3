use Rattle.std.proofs.Common.{◌≡◌, false, refl, subst, arith}
use Rattle.arena_slot.specs.declared.Slot.TheVariants.{Occupied}
use Rattle.codec.specs.Formats.{number8}
use Rattle.codec.specs.Writing.{Puts}
use Rattle.codec.proofs.Writing.{both, so}
use Rattle.model.specs.State.{Object}
use Rattle.frames.specs.declared.version.Version.TheVariants.{Second}
use Rattle.image_parts.specs.Grammar.{slot_format, Parts, object_of, parts_format, places_format, width_format}
use Rattle.image_parts.proofs.Tagged.{plain_slot}
use Rattle.image_parts.proofs.slots.put_plain.Goals as goal

pub returns : goal.returns
unfolding parts_format places_format width_format number8
returns c =
    let few = rw (← c.contents-places.ensures.value) at c.contents-places.ensures.few in
    let head = rw c.occupied_head.ensures at c.array.ensures in
    let parts : Parts = (
      c.marked_by-mark.result,
      (c.word-word.result, (c.args.object.now.bytes, c.contents-places.result.now)),
    ) in
    let made : Object = object_of c.args.object.now.shared c.args.object.now.age parts in
    let same : made ≡ c.args.object.now = rw (
      c.word-word.ensures,
      c.contents-places.ensures.value,
      c.marked_by-mark.ensures,
    ) refl in
    subst (λ (o : Object).
    Puts (slot_format false Second) c.args.out.now c.put_all.new.out
    (Occupied c.args.generation o)) same
    (plain_slot c.args.object.now.shared c.args.object.now.age (c.args.generation, parts)
    (so (λ k. (omega arith, (omega arith, (omega arith, (tt, (omega (arith, few), k.1))))))
    (both head c.put_all.ensures)))
