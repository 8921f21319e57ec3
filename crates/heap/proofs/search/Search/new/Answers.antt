use Rattle.std.proofs.Common.{ap, ◌∙◌, arith}
use Rattle.model.specs.Searching.{unfound}
use Rattle.heap.proofs.Growing.{unfound-new}
use Rattle.heap.proofs.search.Search.new.Goals as goal

pub invariant_of-result : goal.invariant_of-result
invariant_of-result c =
    let items = c.in_ok-vec.ensures.items_if_clones_equal (λ y e. e) in
    let count = ap unfound items ∙ unfound-new c.args.slots in
    rw (c.in_ok-with_capacity.ensures.items)
    (omega (arith, count, c.in_ok-with_capacity.ensures.capacity))
