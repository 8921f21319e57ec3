use Rattle.std.proofs.Common.{arith, ◌-◌, ◌+◌}
use Rattle.std.proofs.lemmas.Grind.{common_steps}
use Rattle.codec.proofs.Readers.{one_more}
use Rattle.image_parts.proofs.lists.many.Goals as goal

pub loop-part-preserved : goal.loop-part-preserved
loop-part-preserved g c =
    let k = c.args.count - c.loop-part._part in
    let l = c.args.count - (c.loop-part._part + 1) in
    record {
      read = rw c.in_ok-push.ensures.items
          (one_more (g.T.Readable.format c.args.wide c.args.version) k l c.loop-part.invariant.read
          (omega arith)
          c.in_ok-read.ensures.value);
      count = grind (arith, common_steps);
    }
