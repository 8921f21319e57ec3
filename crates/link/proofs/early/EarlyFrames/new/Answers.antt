use Rattle.std.proofs.Common.{◌<◌, Option, ap, ◌∙◌, arith}
use Rattle.circular_buffer.specs.Buffer.{Buffer}
use Rattle.msg.specs.declared.frame.Data.{Data}
use Rattle.link.proofs.Places.{pushed}
use Rattle.link.proofs.early.EarlyFrames.new.Goals as goal

pub loop-place-preserved : goal.loop-place-preserved
loop-place-preserved c =
    let old = c.loop-place.invariant in
    let k = c.loop-place._place in
    let room : k < c.loop-place.places.capacity =
    omega (arith, old.capacity, c.loop-place-test.true) in
    record {
      items =
          ap (λ (b : Buffer (Option Data)). b.items) c.push_back.ensures.items
          ∙ pushed c.loop-place.places.capacity k c.loop-place.places.items old.items room;
      capacity =
          ap (λ (b : Buffer (Option Data)). b.capacity) c.push_back.ensures.items ∙ old.capacity;
    }
