use Rattle.std.proofs.Common.{◌≡◌, ◌<◌, length, arith}
use Rattle.std.specs.Arc.{arc_value}
use Rattle.std.proofs.lemmas.List.Elements.{All-push, All-same}
use Rattle.wire.specs.Readers.{IsWatchOf}
use Rattle.cell.proofs.Ready.{handed-on, shift, shifted}
use Rattle.c_handles.specs.Opening.{IsOnWire, watch_in}
use Rattle.c_handles.proofs.Lists.{first-of, later-of}
use Rattle.c_handles.proofs.opening.seat_watches.Goals as goal

pub seat_watch-requires : goal.seat_watch-requires
seat_watch-requires c =
    let some : 0 < length c.loop.watches.items = omega arith in
    first-of (IsWatchOf (arc_value c.args.wire.now)) c.loop.watches.items c.remove-watch.result
    c.loop.invariant.of some c.remove-watch.ensures.value

pub loop-preserved : goal.loop-preserved
loop-preserved c =
    let was = c.loop.invariant in
    let some : 0 < length c.loop.watches.items = omega arith in
    record {
      of = later-of (IsWatchOf (arc_value c.args.wire.now)) c.loop.watches.items _ was.of
          c.remove-watch.ensures.items;
      left = omega (arith, was.left, c.remove-watch.ensures.len);
      made = shifted watch_in
          (shift _ _ c.loop.watches.items c.in_ok-push.ensures.items c.remove-watch.ensures.value
          some c.remove-watch.ensures.items) c.in_ok-full.ensures.watch was.made;
      wire = All-same (IsOnWire (arc_value c.args.wire.now)) _ _ c.in_ok-push.ensures.items
          (All-push (IsOnWire (arc_value c.args.wire.now)) _ _ was.wire
          c.in_ok-full.ensures.wire);
    }

pub returns-clause-watches : goal.returns-clause-watches
returns-clause-watches c =
    let none : length c.loop.watches.items ≡ 0 = omega arith in
    handed-on _ _ _ c.loop.invariant.made none
