use Rattle.std.proofs.Common.{◌≡◌, ◌<◌, ◌∙◌, Some, false, ap, length, arith}
use Rattle.std.specs.Arc.{arc_value}
use Rattle.std.proofs.lemmas.List.{length-map}
use Rattle.std.proofs.lemmas.List.Elements.{All-push, All-same}
use Rattle.wire.specs.Readers.{IsSeatOf}
use Rattle.cell.proofs.Ready.{handed-on, shift, shifted-by}
use Rattle.c_handles.specs.Opening.{IsFreshIn, cell_in}
use Rattle.c_handles.proofs.Lists.{first-of, later-of}
use Rattle.c_handles.proofs.opening.seat_all.Goals as goal

pub seat-requires : goal.seat-requires
seat-requires c =
    let some : 0 < length c.loop.cells.items = omega arith in
    record {
      seat = first-of (λ y. IsSeatOf (arc_value c.args.wire.now) y.seat) c.loop.cells.items
          c.remove-cell.result c.loop.invariant.seats some c.remove-cell.ensures.value;
      plain = first-of (λ y. y.logs ≡ false) c.loop.cells.items
          c.remove-cell.result c.loop.invariant.plain some c.remove-cell.ensures.value;
    }

pub loop-preserved : goal.loop-preserved
loop-preserved c =
    let was = c.loop.invariant in
    let some : 0 < length c.loop.cells.items = omega arith in
    record {
      seats = later-of (λ y. IsSeatOf (arc_value c.args.wire.now) y.seat) c.loop.cells.items _
          was.seats c.remove-cell.ensures.items;
      plain = later-of (λ y. y.logs ≡ false) c.loop.cells.items _ was.plain
          c.remove-cell.ensures.items;
      left = omega (arith, was.left, c.remove-cell.ensures.len);
      made = shifted-by cell_in Some
          (shift _ _ c.loop.cells.items c.in_ok-push.ensures.items c.remove-cell.ensures.value some
          c.remove-cell.ensures.items) (ap Some c.in_ok-full.ensures.cell) was.made;
      fresh = All-same (IsFreshIn (arc_value c.args.wire.now)) _ _ c.in_ok-push.ensures.items
          (All-push (IsFreshIn (arc_value c.args.wire.now)) _ _ was.fresh
          c.in_ok-full.ensures.fresh);
    }

pub returns-clause-cells : goal.returns-clause-cells
returns-clause-cells c =
    let none : length c.loop.cells.items ≡ 0 = omega arith in
    handed-on _ _ _ c.loop.invariant.made (length-map c.loop.cells.items Some ∙ none)
