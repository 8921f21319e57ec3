use Rattle.std.proofs.Common.{◌∙◌, arith}
use Rattle.std.proofs.lemmas.List.Sorted.{IsPermutation-trans}
use Rattle.supervisor.proofs.team.Team.await_end.Goals as goal

pub loop-place-preserved : goal.loop-place-preserved
loop-place-preserved g c =
    let was = c.loop-place.invariant in
    let done = c.join_at.ensures in
    record {
      room = record {
        worker = omega (arith, was.room.worker, done.fewer, done.room);
        report = omega (arith, was.room.report, done.fewer, done.more, done.reports);
      };
      same = IsPermutation-trans _ _ _ was.same done.same;
      plan = done.plan ∙ was.plan;
    }
