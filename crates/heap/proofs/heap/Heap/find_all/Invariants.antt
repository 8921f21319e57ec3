use Rattle.std.proofs.Common.{take}
use Rattle.model.specs.Searching.{Finds, sought}
use Rattle.heap.proofs.heap.Heap.find_all.Given as goal

-- what the references so far name is found
abbrev pub invariant-loop-reference : goal.invariant-loop-reference
invariant-loop-reference l =
    Finds l.own (sought l.scope l.self.heap) (take l.reference-index l.references) l.fn.search
    l.search
