use Rattle.std.proofs.Common.{◌≡◌, ◌≤◌, ◌*◌}
use Rattle.workers.specs.Turns.{count, freed_over, received_over, whole_turns, AreTurns}
use Rattle.workers.proofs.run.run_node.Given as goal

abbrev pub invariant-loop-turn : goal.invariant-loop-turn
invariant-loop-turn g l = record {
  turns : AreTurns l.node l.nodes l.ended_at l.past.value;
  counted : l.over ≡ whole_turns l.ended_at l.past.value;
  all : count l.past.value ≡ l.turn;
  most : l.over ≤ l.turn;
  received : l.received ≡ received_over l.past.value;
  freed : l.freed ≡ freed_over l.past.value;
  most_received : l.received ≤ 255 * l.turn;
  most_freed : l.freed ≤ 4294967295 * l.turn;
}
