use Rattle.std.proofs.Common.{◌≡◌, vec_len}
use Rattle.std.specs.List.Sorted.{IsPermutation}
use Rattle.supervisor.specs.Teams.{HasRoom, nodes_of}
use Rattle.supervisor.proofs.team.Team.await_end.Given as goal

abbrev pub invariant-loop-place : goal.invariant-loop-place
invariant-loop-place g l = record {
  room : HasRoom l.self;
  same : IsPermutation (nodes_of l.initial.self) (nodes_of l.self);
  plan : l.self.plan ≡ l.initial.self.plan;
}

abbrev pub decreases-loop-place : goal.decreases-loop-place
decreases-loop-place g l = vec_len l.self.workers
