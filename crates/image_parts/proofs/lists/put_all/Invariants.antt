use Rattle.std.proofs.Common.{take}
use Rattle.std.specs.List.{flat_map, AllByRecursion}
use Rattle.codec.specs.Writing.{Writes}
use Rattle.image_parts.proofs.lists.put_all.Given as goal

abbrev pub invariant-loop-part : goal.invariant-loop-part
invariant-loop-part g l =
    let parts = take l.part-index l.parts in
    Writes l.fn.out l.out (flat_map g.T.Writable.written.spell parts)
    (AllByRecursion g.T.Writable.written.IsWide parts)
