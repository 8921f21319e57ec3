use Rattle.std.proofs.Common.{subst}
use Rattle.remote_marks.specs.RefSet.{IsIndexed}
use Rattle.remote_marks.proofs.Indexed.{removed}
use Rattle.remote_marks.proofs.ref_set.RefSet.pop.Goals as goal

pub invariant_of-self : goal.invariant_of-self
invariant_of-self c =
    removed c.in-Some.reference
    (subst (IsIndexed c.self.inside.sorted.keys) c.in-Some.ensures.items c.self.invariant)
    c.remove.ensures.updates
