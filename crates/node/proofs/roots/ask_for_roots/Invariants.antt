use Rattle.std.proofs.Common.{◌≡◌, [], take}
use Rattle.model.specs.Shading.{filled, roots, unasked}
use Rattle.node.proofs.roots.ask_for_roots.Given as goal

abbrev pub invariant-loop-number : goal.invariant-loop-number
invariant-loop-number l = l.asked.keys
    ≡ unasked l.own [] (filled (take l.number (roots l.heap.heap)))
