use Rattle.std.proofs.Common.{◌≤◌, ◌+◌}
use Rattle.c_handles.specs.declared.working.Task.TheVariants as task
use Rattle.c_handles.specs.Work.{at, tried}
use Rattle.c_handles.proofs.Tries.{Led}
use Rattle.c_handles.proofs.working.scan.Given as goal

abbrev pub invariant-loop : goal.invariant-loop
invariant-loop g l = record {
  led : Led g.W.Worked.does task.Scan l.most l.counter (at l.fn.on l.fn.work) (at l.on l.work);
  few : tried l.work ≤ tried l.fn.work + l.counter;
}
