use Rattle.std.proofs.Common.{◌≡◌, ◌+◌, ◌++◌, All, map, vec_len, true}
use Rattle.node_store.specs.Stores.{disk_of, is_ready_in, logs_in}
use Rattle.cell.specs.Cells.{IsNew}
use Rattle.cell.specs.Disks.{OpensToNode}
use Rattle.cell.specs.Opened.{AreReady}
use Rattle.cell.proofs.joining.seat_all.Given as goal

abbrev pub invariant-loop : goal.invariant-loop
invariant-loop g l = record {
  ready : AreReady (λ n s. (is_ready_in s ≡ true) × OpensToNode n (g.D.Disk.seen (disk_of s)))
      l.nodes.items l.stores.items l.seats.items;
  left : vec_len l.nodes + l.counter ≡ l.end;
  all : l.end ≡ vec_len l.fn.nodes;
  nodes : map (λ c. c.node) l.cells.items ++ l.nodes.items ≡ l.fn.nodes.items;
  disks : map (λ c. c.disk) l.cells.items ++ map disk_of l.stores.items
      ≡ map disk_of l.fn.stores.items;
  logs : map (λ c. c.logs) l.cells.items ++ map logs_in l.stores.items
      ≡ map logs_in l.fn.stores.items;
  seats : map (λ c. c.seat) l.cells.items ++ l.seats.items ≡ l.fn.seats.items;
  new : All IsNew l.cells.items;
}
