use Rattle.std.proofs.Common.{map}
use Rattle.supervisor.proofs.Teams.{AreOthersBelow}
use Rattle.supervisor.proofs.team.Team.place_of.Given as goal

abbrev pub invariant-loop-place : goal.invariant-loop-place
invariant-loop-place l =
    AreOthersBelow l.node l.place (map (λ w. w.of.node) l.self.workers.items)
