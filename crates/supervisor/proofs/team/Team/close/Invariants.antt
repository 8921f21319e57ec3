use Rattle.std.proofs.Common.{◌≡◌, ◌≤◌, ◌+◌, ◌++◌, All, map, vec_capacity, vec_len}
use Rattle.std.specs.List.Sorted.{IsPermutation}
use Rattle.workers.specs.Runs.{IsReport}
use Rattle.supervisor.specs.Teams.{nodes_of}
use Rattle.supervisor.proofs.team.Team.close.Given as goal

abbrev pub invariant-loop-worker : goal.invariant-loop-worker
invariant-loop-worker g l = record {
  room : vec_len l.workers + vec_len l.reports ≤ vec_capacity l.reports;
  all : IsPermutation (nodes_of l.fn.self)
      (map (λ w. w.of.node) l.workers.items ++ map (λ r. r.node) l.reports.items);
  planned : All (λ w. w.of.plan ≡ l.fn.self.plan) l.workers.items;
  reported : All (λ r. ∥ IsReport r.node l.fn.self.plan.nodes l.fn.self.plan.turns r ∥₁)
      l.reports.items;
}

abbrev pub decreases-loop-worker : goal.decreases-loop-worker
decreases-loop-worker g l = vec_len l.workers
