use Rattle.std.proofs.Common.{◌≡◌, map}
use Rattle.world.specs.Outboxes.{released_frames, AreStagedTo}
use Rattle.world.proofs.outbox.stage_all.Given as goal

abbrev pub invariant-loop-to : goal.invariant-loop-to
invariant-loop-to l = record {
  released : map released_frames l.row ≡ map released_frames l.fn.row;
  staged : AreStagedTo l.to l.node (map released_frames l.fn.row) l.row;
}
