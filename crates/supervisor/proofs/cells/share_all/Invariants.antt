use Rattle.std.proofs.Common.{◌≡◌, ◌+◌, ◌++◌, map, vec_len}
use Rattle.std.specs.Arc.{arc_value}
use Rattle.cell.specs.Cells.{desk_of}
use Rattle.cell.specs.Closing.{HaveBegun}
use Rattle.cell.specs.Shares.{first_of}
use Rattle.supervisor.specs.Opened.{AreSeats}
use Rattle.supervisor.proofs.cells.share_all.Given as goal

abbrev pub invariant-loop : goal.invariant-loop
invariant-loop g l = record {
  seats : AreSeats (arc_value l.wire) (map (λ c. c.seat) l.cells.items);
  begun : HaveBegun l.cells.items;
  left : vec_len l.cells + l.counter ≡ l.end;
  all : l.end ≡ vec_len l.fn.cells;
  made : vec_len l.shared ≡ l.counter;
  first : map (λ s. first_of (arc_value s)) l.shared.items ++ map desk_of l.cells.items
      ≡ map desk_of l.fn.cells.items;
}
