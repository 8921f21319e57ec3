use Rattle.std.proofs.Common.{◌≡◌, ◌≤◌, ◌+◌, ◌++◌}
use Rattle.workers.specs.Calls.{asked, freed_in, received_in}
use Rattle.workers.specs.Turns.{takes}
use Rattle.workers.proofs.steps.take_in.Given as goal

abbrev pub invariant-loop-from : goal.invariant-loop-from
invariant-loop-from g l = record {
  asked : asked l.calls.past.value ≡ asked l.fn.calls.past.value ++ takes l.node l.from;
  received : received_in l.calls.past.value ≡ received_in l.fn.calls.past.value + l.received;
  freed : freed_in l.calls.past.value ≡ freed_in l.fn.calls.past.value;
  few : l.received ≤ l.from;
}
