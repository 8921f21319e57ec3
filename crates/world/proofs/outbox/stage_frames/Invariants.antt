use Rattle.std.proofs.Common.{◌≡◌, length}
use Rattle.world.specs.Outboxes.{AreStaged}
use Rattle.world.proofs.outbox.stage_frames.Given as goal

abbrev pub invariant-loop-place : goal.invariant-loop-place
invariant-loop-place l = record {
  count : length l.frames ≡ l.place;
  staged : AreStaged l.node l.to l.fn.frames l.frames;
}
