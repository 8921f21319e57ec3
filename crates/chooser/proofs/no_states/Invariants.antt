use Rattle.std.proofs.Common.{◌≡◌, vec_len}
use Rattle.chooser.proofs.no_states.Given as goal

abbrev pub invariant-loop : goal.invariant-loop
invariant-loop l = vec_len l.histories ≡ l.counter
