use Rattle.std.proofs.Common.{◌≡◌, true, refl, subst, arith}
use Rattle.arena_slot.specs.declared.Slot.TheVariants.{Occupied}
use Rattle.codec.specs.Formats.{number8}
use Rattle.codec.specs.Writing.{Puts}
use Rattle.codec.proofs.Writing.{both, so}
use Rattle.model.specs.State.{Object}
use Rattle.frames.specs.declared.version.Version.TheVariants.{Second}
use Rattle.image_parts.specs.Grammar.{slot_format, Parts, object_of, parts_format, places_format, width_format}
use Rattle.image_parts.proofs.Tagged.{wide_slot}
use Rattle.image_parts.proofs.slots.put_wide.Goals as goal

pub returns : goal.returns
unfolding parts_format places_format width_format number8
returns c =
    let few = rw (← c.contents-places.ensures.value) at c.contents-places.ensures.few in
    let head = rw (c.wide_head.ensures, c.tag.ensures) at c.array.ensures in
    let parts : Parts = (
      c.marked_by-mark.result,
      (c.word-word.result, (c.bytes-bytes.result.now, c.contents-places.result.now)),
    ) in
    let made : Object = object_of c.is_shared-shared.result c.age-age.result parts in
    let same : made ≡ c.args.object.now = rw (
      c.word-word.ensures,
      c.bytes-bytes.ensures.value,
      c.contents-places.ensures.value,
      c.marked_by-mark.ensures,
      c.is_shared-shared.ensures,
      c.age-age.ensures,
    ) refl in
    subst (λ (o : Object).
    Puts (slot_format true Second) c.args.out.now c.put_all.new.out (Occupied c.args.generation o))
    same
    (wide_slot c.is_shared-shared.result c.age-age.result (c.args.generation, parts)
    (so (λ k. (omega arith, (omega arith, (omega arith, (k.1.0, (omega (arith, few), k.1.1.1))))))
    (both head (both c.bytes.ensures (both c.u8.ensures c.put_all.ensures)))))
