use Rattle.std.proofs.Common.{◌≡◌, ◌++◌, take}
use Rattle.model.specs.Shading.{filled, unasked}
use Rattle.remote_marks.proofs.asking.vouch.Given as goal

abbrev pub invariant-loop-reference : goal.invariant-loop-reference
invariant-loop-reference l =
    let keys = l.initial.asked.keys in
    l.asked.keys ≡ keys ++ unasked l.own keys (filled (take l.reference-index l.references))
