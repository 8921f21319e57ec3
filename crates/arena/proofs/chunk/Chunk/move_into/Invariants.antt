use Rattle.std.proofs.Common.{◌≡◌, ◌≤◌, ◌+◌, ◌++◌, length}
use Rattle.arena.proofs.chunk.Chunk.move_into.Given as goal

abbrev pub invariant-loop-index : goal.invariant-loop-index
invariant-loop-index g l = record {
  start : l.block.start ≡ l.initial.block.start;
  emptied : l.block.emptied ≡ l.index;
  values : l.index + length l.block.values ≡ l.len;
  unused : l.block.unused ≡ l.initial.block.unused;
  moved : l.other.items ++ l.block.values ≡ l.fn.other.items ++ l.fn.self.items;
  room : length l.other.items + length l.block.values ≤ l.other.capacity;
  capacity : l.other.capacity ≡ l.fn.other.capacity;
}
