use Rattle.std.proofs.Common.{◌≡◌, ◌<◌, ◌≤◌, ◌+◌, ◌++◌, drop, map, vec_capacity, vec_len}
use Rattle.cell.specs.Cells.{IsSound}
use Rattle.cell.specs.Moments.{EachCell}
use Rattle.supervisor.proofs.closing.take_disks.Given as goal

abbrev pub invariant-loop : goal.invariant-loop
invariant-loop g l = record {
  left : vec_len l.cells + l.counter ≡ l.end;
  all : l.end ≡ vec_len l.fn.cells;
  rest : l.cells.items ≡ drop l.counter l.fn.cells.items;
  disks : map (λ d. d) l.disks.items ++ map (λ c. c.disk) l.cells.items
      ≡ map (λ c. c.disk) l.fn.cells.items;
  room : l.end ≤ vec_capacity l.disks;
  made : vec_len l.disks ≡ l.counter;
  sound : EachCell (λ k c. k < l.counter → IsSound g.D.Disk.may_leave c) l.fn.cells.items;
}
