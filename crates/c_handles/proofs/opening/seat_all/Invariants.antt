use Rattle.std.proofs.Common.{◌≡◌, ◌+◌, ◌++◌, All, Some, false, map, vec_len}
use Rattle.std.specs.Arc.{arc_value}
use Rattle.wire.specs.Readers.{IsSeatOf}
use Rattle.c_handles.specs.Opening.{EachOf, IsFreshIn, cell_in}
use Rattle.c_handles.proofs.opening.seat_all.Given as goal

abbrev pub invariant-loop : goal.invariant-loop
invariant-loop l = record {
  seats : EachOf (λ c. IsSeatOf (arc_value l.wire) c.seat) l.cells.items;
  plain : EachOf (λ c. c.logs ≡ false) l.cells.items;
  left : vec_len l.cells + l.counter ≡ l.end;
  made : map cell_in l.seated.items ++ map Some l.cells.items ≡ map Some l.fn.cells.items;
  fresh : All (IsFreshIn (arc_value l.wire)) l.seated.items;
}
