use Rattle.std.proofs.Common.{◌≡◌, ◌≤◌, ◌+◌, ℕ, ◌++◌, ◌∷◌, [], ◌∙◌, ap, map, sym, subst, vec_capacity, arith}
use Rattle.std.specs.List.{range_with_len}
use Rattle.supervisor.proofs.Teams.{range_more, room-left}
use Rattle.supervisor.proofs.team.Team.start.Goals as goal

pub loop-node-init : goal.loop-node-init
loop-node-init g c =
    let made = c.in_ok-team.ensures in
    record {
      plan = made.plan;
      each = ap (map (λ w. w.of.node)) made.no_worker;
      none = made.no_report;
      room = made.room;
      reports = made.reports;
    }

pub begin-requires-clause-room : goal.begin-requires-clause-room
begin-requires-clause-room g c κs within =
    let was = c.loop-node.invariant in
    room-left c.loop-node.team c.loop-node.node c.args.plan.nodes was.each was.none
    (omega arith) was.room was.reports

pub loop-node-preserved : goal.loop-node-preserved
loop-node-preserved g c =
    let was = c.loop-node.invariant in
    let begun = c.begin.ensures in
    record {
      plan = begun.plan ∙ was.plan;
      each = c.in_default.ensures.begun ∙ ap (λ l. l ++ c.loop-node.node ∷ []) was.each
          ∙ ap (λ (k : ℕ). range_with_len 0 c.loop-node.node ++ k ∷ [])
          (let same : c.loop-node.node ≡ 0 + c.loop-node.node = omega arith in same)
          ∙ sym (range_more 0 c.loop-node.node);
      none = ap (λ v. v.items) begun.reports ∙ was.none;
      room = omega (arith, was.room, begun.room);
      reports = subst (λ v. c.args.plan.nodes ≤ vec_capacity v) (sym begun.reports) was.reports;
    }

pub returns-clause-plan : goal.returns-clause-plan
returns-clause-plan g c = c.loop-node.invariant.plan

pub returns-clause-each : goal.returns-clause-each
returns-clause-each g c =
    let over : c.loop-node.node ≡ c.args.plan.nodes = omega arith in
    c.loop-node.invariant.each ∙ ap (range_with_len 0) over
