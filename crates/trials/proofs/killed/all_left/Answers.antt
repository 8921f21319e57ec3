use Rattle.std.proofs.Common.{◌<◌, ◌+◌, ◌∙◌, ap, arith, length, length-append, refl}
use Rattle.std.proofs.lemmas.Option.{slice_get_read}
use Rattle.disk.specs.Memory.{held_by, left_by}
use Rattle.cell.specs.Cells.{HoldsEither, IsSound}
use Rattle.cell.proofs.Beside.{beside-next}
use Rattle.trials.proofs.killed.all_left.Goals as goal

pub loop-place-preserved : goal.loop-place-preserved
loop-place-preserved c =
    let inside : c.loop-place.place < length c.args.cells.now = omega arith in
    record {
      count = ap length c.in_ok-add.ensures ∙ length-append c.loop-place.disks.items _
          ∙ ap (λ i. i + 1) c.loop-place.invariant.count;
      each = beside-next (λ x d. IsSound left_by x × HoldsEither x (held_by d)) c.args.cells.now
          c.loop-place.disks.items c.loop-place.invariant.each c.loop-place.invariant.count
          (slice_get_read c.args.cells.now (length c.args.cells.now) c.loop-place.place
          c.index-cells-place.result refl inside c.index-cells-place.is)
          (c.in_ok-disk.ensures.sound, c.in_ok-disk.ensures.left) c.in_ok-add.ensures;
    }
