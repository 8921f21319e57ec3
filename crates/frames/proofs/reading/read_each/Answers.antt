use Rattle.std.proofs.Common.{◌-◌, ◌+◌, ◌∙◌, arith}
use Rattle.std.proofs.lemmas.List.{length-set, take_more_set}
use Rattle.codec.proofs.Readers.{one_more}
use Rattle.frames.specs.Formats.{optional}
use Rattle.frames.proofs.reading.read_each.Goals as goal

pub loop-place-preserved : goal.loop-place-preserved
loop-place-preserved c =
    let place = c.loop-place.place in
    let k = c.args.count - place in
    let l = c.args.count - (place + 1) in
    record {
      read = rw (take_more_set c.loop-place.row place c.read_optional.result
          (omega (arith, c.loop-place-test.true, c.loop-place.invariant.count, c.requires)))
          (one_more (optional c.args.version) k l c.loop-place.invariant.read
          (omega (arith, c.loop-place-test.true)) c.read_optional.ensures);
      count = length-set c.loop-place.row place c.read_optional.result
          ∙ c.loop-place.invariant.count;
    }
