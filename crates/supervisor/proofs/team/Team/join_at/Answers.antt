use Rattle.std.proofs.Common.{◌≡◌, arith}
use Rattle.std.proofs.lemmas.List.Elements.{All-head, All-push, All-same, All-tail}
use Rattle.std.proofs.lemmas.List.Sorted.{All-permutation}
use Rattle.workers.specs.Runs.{IsReport}
use Rattle.workers.specs.declared.run.Report.{Report}
use Rattle.supervisor.specs.declared.team.Worker.{Worker}
use Rattle.supervisor.proofs.Teams.{joined, report-in, taken-out}
use Rattle.supervisor.proofs.team.Team.join_at.Goals as goal

pub invariant_of-self : goal.invariant_of-self
invariant_of-self g c =
    let team = c.args.self.now in
    let worker = c.swap_remove-worker.result in
    let moved = taken-out team.workers.items _ c.args.place worker
    (omega (arith, c.requires, team.workers.ok.0)) c.swap_remove-worker.ensures.value
    c.swap_remove-worker.ensures.items in
    let planned = All-permutation (λ (w : Worker). w.of.plan ≡ team.plan) _ _ moved team.planned in
    let Reported = λ (r : Report). ∥ IsReport r.node team.plan.nodes team.plan.turns r ∥₁ in
    record {
      room = omega (
        arith,
        team.room,
        c.swap_remove-worker.ensures.len,
        c.push_reserved.ensures.len,
        c.push_reserved.ensures.capacity,
      );
      planned = All-tail (λ (w : Worker). w.of.plan ≡ team.plan) worker _ planned;
      reported = All-same Reported _ _ c.push_reserved.ensures.items
          (All-push Reported team.reports.items c.join.result team.reported
          ∣ report-in team.plan worker.of c.join.result
          (All-head (λ (w : Worker). w.of.plan ≡ team.plan) worker _ planned) c.join.ensures ∣₁);
    }

pub returns-clause-same : goal.returns-clause-same
returns-clause-same g c =
    let team = c.args.self.now in
    let worker = c.swap_remove-worker.result in
    let moved = taken-out team.workers.items _ c.args.place worker
    (omega (arith, c.requires, team.workers.ok.0)) c.swap_remove-worker.ensures.value
    c.swap_remove-worker.ensures.items in
    joined (λ (w : Worker). w.of.node) (λ (r : Report). r.node) _ moved
    c.push_reserved.ensures.items c.join.ensures.2.own
