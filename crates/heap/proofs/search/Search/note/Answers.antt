use Rattle.std.proofs.Common.{[], ◌∷◌, arith}
use Rattle.std.proofs.lemmas.List.{length-append}
use Rattle.model.specs.Searching.{Search}
use Rattle.model.proofs.Searching.{noted-work}
use Rattle.heap.proofs.search.Search.note.Goals as goal

pub push_reserved-requires : goal.push_reserved-requires
push_reserved-requires c =
    let s : Search =
    record { found = c.self.inside.found.items; left = c.self.inside.left.items } in
    let work = noted-work s c.args.slot (rw (← c.self.view_is) at c.requires.there)
    (rw (← c.self.view_is) at c.requires.new) in
    let long = length-append s.left (c.args.slot ∷ []) in
    omega (arith, work, long, c.self.invariant, c.self.inside.left.ok.0)

pub invariant_of-self : goal.invariant_of-self
invariant_of-self c =
    let s : Search =
    record { found = c.self.inside.found.items; left = c.self.inside.left.items } in
    let work = noted-work s c.args.slot (rw (← c.self.view_is) at c.requires.there)
    (rw (← c.self.view_is) at c.requires.new) in
    rw (c.push_reserved.ensures.items, c.push_reserved.ensures.capacity)
    (omega (arith, work, c.self.invariant))
