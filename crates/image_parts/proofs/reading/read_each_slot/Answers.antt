use Rattle.std.proofs.Common.{arith, ◌-◌, ◌+◌}
use Rattle.std.proofs.lemmas.Grind.{common_steps}
use Rattle.codec.proofs.Readers.{one_more}
use Rattle.image_parts.specs.Grammar.{slot_format}
use Rattle.image_parts.proofs.reading.read_each_slot.Goals as goal

pub loop-slot-preserved : goal.loop-slot-preserved
loop-slot-preserved c =
    let k = c.args.count - c.loop-slot._slot in
    let l = c.args.count - (c.loop-slot._slot + 1) in
    record {
      read = rw c.in_ok-push.ensures.done
          (one_more (slot_format c.args.wide c.args.version) k l c.loop-slot.invariant.read
          (omega arith)
          c.in_ok-read_slot.ensures.value);
      count = grind (arith, common_steps);
      most = rw c.in_ok-push.ensures.done c.loop-slot.invariant.most;
    }
