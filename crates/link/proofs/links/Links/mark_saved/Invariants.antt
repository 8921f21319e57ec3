use Rattle.std.proofs.Common.{◌≡◌, ◌++◌, map, take, drop}
use Rattle.link.specs.Ends.{kept_ends}
use Rattle.link.proofs.links.Links.mark_saved.Given as goal

abbrev pub invariant-loop-ends : goal.invariant-loop-ends
invariant-loop-ends l =
    let first = l.initial.ends-items in
    l.ends-items ≡ map kept_ends (take l.ends-index first) ++ drop l.ends-index first
