use Rattle.std.proofs.Common.{◌∙◌, arith}
use Rattle.remote_marks.proofs.Sent.{sent-more, sent-width, unsent}
use Rattle.remote_marks.proofs.marks.append_marks.Goals as goal

pub returns-in-Err-clause-refused : goal.returns-in-Err-clause-refused
returns-in-Err-clause-refused c other =
    let told = c.in-Err.ensures.refused other in (
      told.0,
      unsent c.args.cycle c.args.targets.now c.loop-sent.sent _ (omega arith)
          c.loop-sent.invariant.sent told.1,
    )

pub loop-sent-preserved : goal.loop-sent-preserved
loop-sent-preserved c =
    let old = c.loop-sent.invariant in
    let one = c.in_default.ensures in
    record {
      sent =
          sent-more c.args.cycle c.args.targets.now c.loop-sent.sent _ (omega arith) old.sent
          one.done;
      width = sent-width one.done ∙ old.width;
      sound = one.sound;
    }
