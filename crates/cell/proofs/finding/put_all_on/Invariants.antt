use Rattle.std.proofs.Common.{◌≡◌, ◌+◌, vec_len, true, length, drop}
use Rattle.disk.specs.Crashes.{LeavesOnly}
use Rattle.node_store.specs.Stores.{disk_of, is_ready_in, logs_in}
use Rattle.cell.specs.Disks.{OpensToNode}
use Rattle.cell.specs.Looking.{logs_at}
use Rattle.cell.specs.Opened.{AreBeside, StaysOrNew}
use Rattle.cell.proofs.finding.put_all_on.Given as goal

abbrev pub invariant-loop-number : goal.invariant-loop-number
invariant-loop-number g l = record {
  made : AreBeside (λ k s n. (is_ready_in s ≡ true) × OpensToNode n (g.D.Disk.seen (disk_of s)))
      l.stores.items l.nodes;
  logs : AreBeside (λ k place s. logs_in s ≡ logs_at l.saves place) l.areas l.stores.items;
  moments : AreBeside (λ k d s. LeavesOnly g.D.Disk.moment g.D.Disk.left_since d (disk_of s)
      (StaysOrNew g.D.Disk.seen g.D.Disk.may_leave l.fn.shape k d)) l.fn.disks.items l.stores.items;
  count : length l.stores.items ≡ l.number;
  rest : l.disks.items ≡ drop l.number l.fn.disks.items;
  left : vec_len l.disks + l.number ≡ length l.nodes;
}
