use Rattle.std.proofs.Common.{◌≡◌, ◌≤◌, ◌+◌, ◌*◌}
use Rattle.c_handles.specs.Work.{NodeDoes, at, node_turns, tried, turns}
use Rattle.c_handles.proofs.Tries.{InTurn}
use Rattle.c_handles.proofs.lone.LoneNode.receive_early.Given as goal

abbrev pub invariant-loop-from : goal.invariant-loop-from
invariant-loop-from l = record {
  plan : turns l.own l.from-end ≡ node_turns l.fn.self;
  led : InTurn NodeDoes l.own l.from-end l.from (at l.fn.self l.fn.work) (at l.self l.work);
  few : tried l.work ≤ tried l.fn.work + l.from * 32;
}
