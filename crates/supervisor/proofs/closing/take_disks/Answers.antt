use Rattle.std.proofs.Common.{◌≡◌, ◌<◌, ◌∙◌, ap, arith, drop, length, map-id, sym}
use Rattle.std.proofs.lemmas.List.{drop-drop, length-map}
use Rattle.std.proofs.lemmas.Option.{slice_get_within}
use Rattle.cell.specs.Cells.{IsSound}
use Rattle.cell.proofs.Ready.{handed-on, shift, shifted-by}
use Rattle.supervisor.proofs.Backs.{first-left, holds-next}
use Rattle.supervisor.proofs.closing.take_disks.Goals as goal

pub loop-preserved : goal.loop-preserved
loop-preserved g c =
    let was = c.loop.invariant in
    let some : 0 < length c.loop.cells.items = omega arith in
    record {
      left = omega (arith, was.left, c.remove.ensures.len);
      room = omega (arith, was.room, c.push_reserved.ensures.capacity);
      made = omega (arith, was.made, c.push_reserved.ensures.len);
      all = was.all;
      rest = c.remove.ensures.items ∙ ap (drop 1) was.rest
          ∙ drop-drop 1 c.loop.counter c.args.cells.items;
      disks = shifted-by (λ d. d) (λ v. v.disk)
          (shift _ _ _ c.push_reserved.ensures.items c.remove.ensures.value some
          c.remove.ensures.items) c.into_disk.ensures.disk was.disks;
      sound = holds-next (IsSound g.D.Disk.may_leave) c.args.cells.items
          (first-left c.args.cells.items c.loop.cells.items c.loop.counter c.remove.result was.rest
          some c.remove.ensures.value) c.into_disk.ensures.sound was.sound;
    }

pub returns-clause-disks : goal.returns-clause-disks
returns-clause-disks g c =
    let none : length c.loop.cells.items ≡ 0 = omega arith in
    sym (handed-on _ _ _ c.loop.invariant.disks
    (length-map c.loop.cells.items (λ v. v.disk) ∙ none)) ∙ map-id c.loop.disks.items

pub returns-clause-sound : goal.returns-clause-sound
returns-clause-sound g c = λ k d there.
    c.loop.invariant.sound k d there
    (let inside = slice_get_within c.args.cells.items k d there in
    omega (arith, inside, c.loop.invariant.left, c.loop.invariant.all))
