use Rattle.std.proofs.Common.{◌+◌, ◌<◌, ◌^◌, length, IfOk, string_bytes}
use denote.Text.{Utf8}
use denote.Shadow.{shadow}
use Rattle.commands.proofs.Printing.{PrintedBefore}
use Rattle.commands.proofs.simulation.sim.Given as goal

-- what was printed, and that there are no more lines than bytes
abbrev pub invariant-loop-rest : goal.invariant-loop-rest
invariant-loop-rest g l =
    let contents = g.W.Write.contents in
    shadow (Utf8 l.rest)
    × (l.number + length l.rest < 2 ^ 63)
    × IfOk l.script (λ text. PrintedBefore (string_bytes text) (contents l.initial.out) (record {
      rest = l.rest;
      count = l.number;
      state = l.state;
      status = l.status;
      output = contents l.out;
    }))

abbrev pub decreases-loop-rest : goal.decreases-loop-rest
decreases-loop-rest g l = length l.rest
