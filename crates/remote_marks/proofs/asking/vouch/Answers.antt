use Rattle.std.proofs.Common.{◌∙◌}
use Rattle.remote_marks.proofs.InTurn.{included}
use Rattle.remote_marks.proofs.asking.vouch.Goals as goal

pub loop-reference-preserved : goal.loop-reference-preserved
loop-reference-preserved c =
    c.in_default.ensures.done
    ∙ included c.args.own c.args.asked.now.keys c.loop-reference.asked.keys c.args.references.now
    c.loop-reference.reference-index c.loop-reference-test.true c.loop-reference.invariant
