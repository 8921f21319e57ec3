use Rattle.std.proofs.Common.{◌≡◌, length, Ok}
use Rattle.c_handles.specs.Collecting.{Each, Round, helds}
use Rattle.c_handles.proofs.collecting.rounds.Given as goal

abbrev pub invariant-loop-round : goal.invariant-loop-round
invariant-loop-round l = record {
  width : length l.cells ≡ length l.fn.cells;
  each : Each (λ i. Round l.count) 0 l._round (helds l.fn.cells) (helds l.cells) (Ok tt);
}
