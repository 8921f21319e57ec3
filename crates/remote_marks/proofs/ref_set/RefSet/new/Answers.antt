use Rattle.remote_marks.proofs.Indexed.{indexed-none}
use Rattle.remote_marks.proofs.ref_set.RefSet.new.Goals as goal

pub invariant_of-result : goal.invariant_of-result
invariant_of-result c = indexed-none c.new-2.ensures.empty c.new.ensures.items
