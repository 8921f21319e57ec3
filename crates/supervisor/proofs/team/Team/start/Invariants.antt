use Rattle.std.proofs.Common.{◌≡◌, ◌≤◌, [], vec_capacity}
use Rattle.std.specs.List.{range_with_len}
use Rattle.supervisor.specs.Teams.{working}
use Rattle.supervisor.proofs.team.Team.start.Given as goal

abbrev pub invariant-loop-node : goal.invariant-loop-node
invariant-loop-node g l = record {
  plan : l.team.plan ≡ l.fn.plan;
  each : working l.team ≡ range_with_len 0 l.node;
  none : l.team.reports.items ≡ [];
  room : l.fn.plan.nodes ≤ vec_capacity l.team.workers;
  reports : l.fn.plan.nodes ≤ vec_capacity l.team.reports;
}
