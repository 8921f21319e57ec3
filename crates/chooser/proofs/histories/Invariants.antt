use Rattle.std.proofs.Common.{◌≡◌, vec_len}
use Rattle.chooser.proofs.histories.Given as goal

abbrev pub invariant-loop-text : goal.invariant-loop-text
invariant-loop-text g l =
    (goal.iterator-loop-text g).can_next l.text-iterator
    × (goal.iterator-loop-text g).is_finite l.text-iterator × (vec_len l.histories ≡ l.nodes)
