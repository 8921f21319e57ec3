use Rattle.std.proofs.Common.{◌≡◌, arith}
use Rattle.std.proofs.lemmas.List.Elements.{All-same}
use Rattle.workers.specs.Runs.{IsReport}
use Rattle.workers.specs.declared.run.Report.{Report}
use Rattle.supervisor.specs.declared.team.Worker.{Worker}
use Rattle.supervisor.proofs.team.Team.reserve.Goals as goal

pub invariant_of-self : goal.invariant_of-self
invariant_of-self c =
    let team = c.args.self.now in
    record {
      room = omega (arith, team.room, c.reserve.ensures.len, c.reserve.ensures.capacity);
      planned = team.planned;
      reported = All-same (λ (r : Report). ∥ IsReport r.node team.plan.nodes team.plan.turns r ∥₁)
          _ _ c.reserve.ensures.items team.reported;
    }

pub invariant_of-self-2 : goal.invariant_of-self-2
invariant_of-self-2 c =
    let team = c.args.self.now in
    record {
      room = omega (
        arith,
        team.room,
        c.reserve.ensures.len,
        c.reserve.ensures.capacity,
        c.reserve-2.ensures.len,
      );
      planned = All-same (λ (w : Worker). w.of.plan ≡ team.plan) _ _ c.reserve-2.ensures.items
          team.planned;
      reported = All-same (λ (r : Report). ∥ IsReport r.node team.plan.nodes team.plan.turns r ∥₁)
          _ _ c.reserve.ensures.items team.reported;
    }
