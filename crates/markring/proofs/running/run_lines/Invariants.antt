use Rattle.std.proofs.Common.{◌+◌, ◌≤◌, length}
use Rattle.std.specs.Arc.{arc_value}
use denote.Text.{Utf8}
use denote.Shadow.{shadow}
use Rattle.wire.specs.Readers.{IsWatchOf}
use Rattle.markring.proofs.Lines.{PrintedBefore}
use Rattle.markring.proofs.running.run_lines.Given as goal

-- what was printed, and that there are no more lines than bytes
abbrev pub invariant-loop-rest : goal.invariant-loop-rest
invariant-loop-rest g l =
    let contents = g.W.Write.contents in
    shadow (Utf8 l.rest)
    × (l.number + length l.rest ≤ length l.script)
    × IsWatchOf (arc_value l.space.wire) l.watch
    × PrintedBefore l.bytes.wide l.script (contents l.initial.out) (record {
      rest = l.rest;
      count = l.number;
      status = l.status;
      output = contents l.out;
    })

abbrev pub decreases-loop-rest : goal.decreases-loop-rest
decreases-loop-rest g l = length l.rest
