use Rattle.std.proofs.Common.{◌<◌, ◌∙◌, length, arith}
use Rattle.std.specs.Arc.{arc_value}
use Rattle.cell.specs.Cells.{desk_of}
use Rattle.cell.specs.Closing.{HasBegun}
use Rattle.cell.specs.Shares.{first_of}
use Rattle.supervisor.proofs.Seats.{first-of, first-seat, later-of, later-seats, moved-one}
use Rattle.supervisor.proofs.cells.share_all.Goals as goal

pub share-requires-clause-seat : goal.share-requires-clause-seat
share-requires-clause-seat g c =
    let some : 0 < length c.loop.cells.items = omega arith in
    first-seat (λ y. y.seat) (arc_value c.args.wire.now) _ c.remove-cell.result
    c.loop.invariant.seats some c.remove-cell.ensures.value

pub share-requires-clause-begun : goal.share-requires-clause-begun
share-requires-clause-begun g c = λ _.
    first-of HasBegun _ c.remove-cell.result c.loop.invariant.begun
    (let some : 0 < length c.loop.cells.items = omega arith in some) c.remove-cell.ensures.value

pub loop-preserved : goal.loop-preserved
loop-preserved g c = record {
  seats = later-seats (λ y. y.seat) (arc_value c.args.wire.now) _ _ c.loop.invariant.seats
      c.remove-cell.ensures.items;
  begun = later-of HasBegun _ _ c.loop.invariant.begun c.remove-cell.ensures.items;
  left = omega (arith, c.loop.invariant.left, c.remove-cell.ensures.len);
  all = c.loop.invariant.all;
  made = omega (arith, c.loop.invariant.made, c.in_ok-push.ensures.len);
  first = moved-one (λ s. first_of (arc_value s)) desk_of _ _ _ c.remove-cell.result _ _
      (let some : 0 < length c.loop.cells.items = omega arith in some)
      c.remove-cell.ensures.value c.remove-cell.ensures.items c.in_ok-share.ensures.first
      c.in_ok-push.ensures.items
      ∙ c.loop.invariant.first;
}
