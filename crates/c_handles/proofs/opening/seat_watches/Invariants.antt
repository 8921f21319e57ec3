use Rattle.std.proofs.Common.{◌≡◌, ◌+◌, ◌++◌, All, map, vec_len}
use Rattle.std.specs.Arc.{arc_value}
use Rattle.wire.specs.Readers.{IsWatchOf}
use Rattle.c_handles.specs.Opening.{EachOf, IsOnWire, watch_in}
use Rattle.c_handles.proofs.opening.seat_watches.Given as goal

abbrev pub invariant-loop : goal.invariant-loop
invariant-loop l = record {
  of : EachOf (IsWatchOf (arc_value l.wire)) l.watches.items;
  left : vec_len l.watches + l.counter ≡ l.end;
  made : map watch_in l.seated.items ++ l.watches.items ≡ l.fn.watches.items;
  wire : All (IsOnWire (arc_value l.wire)) l.seated.items;
}
