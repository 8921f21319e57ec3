use Rattle.std.proofs.Common.{◌≡◌, ◌+◌, length}
use Rattle.arena.proofs.chunk.Chunk.drop.Given as goal

abbrev pub invariant-loop-place : goal.invariant-loop-place
invariant-loop-place g l = record {
  start : l.block.start ≡ l.initial.block.start;
  emptied : l.block.emptied ≡ l.place;
  values : l.place + length l.block.values ≡ l.len;
  unused : l.block.unused ≡ l.initial.block.unused;
}
