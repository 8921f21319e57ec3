use Rattle.std.proofs.Common.{refl, sym, arith}
use Rattle.std.proofs.lemmas.List.{length_push}
use Rattle.msg.specs.Frames.{plain_ref}
use Rattle.frames.specs.Grammar.{spelling}
use Rattle.world.proofs.OutboxLemmas.{staged_more}
use Rattle.world.proofs.outbox.stage_frames.Goals as goal

pub loop-place-preserved : goal.loop-place-preserved
loop-place-preserved c = record {
  count = rw c.in_ok-push_frame.ensures.done
      (omega (
        arith,
        length_push c.loop-place.frames (spelling (plain_ref c.in-Some.frame)),
        c.loop-place.invariant.count,
      ));
  staged = rw c.in_ok-push_frame.ensures.done
      (staged_more (plain_ref c.in-Some.frame) _ c.requires.other
      (rw (sym c.loop-place.invariant.count) at c.in-Some.ensures)
      (c.in_ok-push_frame.ensures.spelled, refl) c.loop-place.invariant.staged);
}
