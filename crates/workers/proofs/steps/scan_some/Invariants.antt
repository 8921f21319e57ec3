use Rattle.std.proofs.Common.{◌≡◌, ◌++◌, replicate, true}
use Rattle.workers.specs.Calls.{Scan, asked, freed_in, received_in}
use Rattle.workers.proofs.steps.scan_some.Given as goal

abbrev pub invariant-loop-place : goal.invariant-loop-place
invariant-loop-place g l = record {
  asked : asked l.calls.past.value ≡ asked l.fn.calls.past.value ++ replicate l._place (Scan true);
  received : received_in l.calls.past.value ≡ received_in l.fn.calls.past.value;
  freed : freed_in l.calls.past.value ≡ freed_in l.fn.calls.past.value;
}
