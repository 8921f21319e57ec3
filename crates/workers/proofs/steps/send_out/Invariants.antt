use Rattle.std.proofs.Common.{◌≡◌, ◌++◌}
use Rattle.workers.specs.Calls.{asked, freed_in, received_in}
use Rattle.workers.specs.Turns.{sends}
use Rattle.workers.proofs.steps.send_out.Given as goal

abbrev pub invariant-loop-to : goal.invariant-loop-to
invariant-loop-to g l = record {
  asked : asked l.calls.past.value ≡ asked l.fn.calls.past.value ++ sends l.node l.to;
  received : received_in l.calls.past.value ≡ received_in l.fn.calls.past.value;
  freed : freed_in l.calls.past.value ≡ freed_in l.fn.calls.past.value;
}
