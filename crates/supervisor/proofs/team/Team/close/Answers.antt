use Rattle.std.proofs.Common.{◌≡◌, ◌++◌, ◌∷◌, List, map, sym, subst, arith}
use Rattle.std.specs.List.Sorted.{IsPermutation}
use Rattle.std.proofs.lemmas.List.{nil_from_length}
use Rattle.std.proofs.lemmas.List.Elements.{All-head, All-push, All-same, All-tail}
use Rattle.std.proofs.lemmas.List.Sorted.{All-permutation, IsPermutation-map, IsPermutation-to_front, IsPermutation-trans}
use Rattle.workers.specs.Runs.{IsReport}
use Rattle.workers.specs.declared.run.Report.{Report}
use Rattle.supervisor.specs.Teams.{nodes_of}
use Rattle.supervisor.specs.declared.team.Worker.{Worker}
use Rattle.supervisor.proofs.Teams.{joined, report-in}
use Rattle.supervisor.proofs.team.Team.close.Goals as goal

pub loop-worker-preserved : goal.loop-worker-preserved
loop-worker-preserved g c =
    let was = c.loop-worker.invariant in
    let plan = c.args.self.plan in
    let worker = c.in-Some.worker in
    let left = c.pop.new.self.items in
    let Planned = λ (w : Worker). w.of.plan ≡ plan in
    let Reported = λ (r : Report). ∥ IsReport r.node plan.nodes plan.turns r ∥₁ in
    let moved = subst (λ (l : List Worker). IsPermutation l (worker ∷ left))
    (sym c.in-Some.ensures.items) (IsPermutation-to_front left worker) in
    let planned = All-permutation Planned _ _ moved was.planned in
    record {
      room = omega (
        arith,
        was.room,
        c.in-Some.ensures.cases,
        c.push_reserved.ensures.len,
        c.push_reserved.ensures.capacity,
      );
      all = IsPermutation-trans _ _ _ was.all
          (joined (λ (w : Worker). w.of.node) (λ (r : Report). r.node) _ moved
          c.push_reserved.ensures.items c.join.ensures.2.own);
      planned = All-tail Planned worker left planned;
      reported = All-same Reported _ _ c.push_reserved.ensures.items
          (All-push Reported c.loop-worker.reports.items c.join.result was.reported
          ∣ report-in plan worker.of c.join.result (All-head Planned worker left planned)
          c.join.ensures ∣₁);
    }

pub returns-clause-own : goal.returns-clause-own
returns-clause-own g c =
    let none = nil_from_length c.loop-worker.workers.items
    (omega (arith, c.in_default.ensures.cases.0, c.loop-worker.workers.ok.0)) in
    IsPermutation-trans _ _ _
    (subst (λ (l : List Worker). IsPermutation (nodes_of c.args.self)
    (map (λ w. w.of.node) l ++ map (λ r. r.node) c.loop-worker.reports.items))
    none c.loop-worker.invariant.all)
    (IsPermutation-map (λ (r : Report). r.node) _ _ c.sort.ensures.same)

pub returns-clause-reports : goal.returns-clause-reports
returns-clause-reports g c =
    let plan = c.args.self.plan in
    All-permutation (λ (r : Report). ∥ IsReport r.node plan.nodes plan.turns r ∥₁) _ _
    c.sort.ensures.same c.loop-worker.invariant.reported
