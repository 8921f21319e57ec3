use Rattle.std.proofs.Common.{ℕ, ◌+◌, ◌*◌, ◌%◌, ◌<◌, ◌≡◌, sym, ◌∙◌, subst}
use Rattle.wire.specs.Views.{Known, posts}
use Rattle.wire.specs.Plays.{Releases}
use Rattle.wire.proofs.Numbers.{is-box}
use Rattle.wire.specs.Sending.{frame_due}
use Rattle.wire.proofs.Mailed.{one_frame}
use Rattle.wire.proofs.seats.Wire.send.Goals as goal

pub post-requires-clause-released : goal.post-requires-clause-released
post-requires-clause-released c =
    let s = c.claim.new.seat in
    let to = c.in-Some.ensures.claim.0 in
    let below : c.args.to < s.nodes =
    subst (λ (k : ℕ). c.args.to < k) (sym (c.claim.ensures.same.3 ∙ c.requires.wire.1))
    c.requires.to.0 in
    let box = is-box s.node c.args.to s.nodes s.sits.within below in
    let frame = frame_due c.args._node.now.core c.args.to c.args._place in (
      frame,
      c.requires.spelled,
      c.requires.receiver ∙ box.receiver
          ∙ (λ i. (s.node * s.nodes + sym to i) % s.sits.nodes_is i),
      subst (λ (v : Known). Releases v.me v.pair.saved frame)
          (sym c.in-Some.ensures.claim.2.1) c.requires.released,
    )

pub returns-clause-sent : goal.returns-clause-sent
returns-clause-sent c =
    let to = c.in-Some.ensures.claim.0 in
    let posted = c.post.ensures.posted in
    let frame = frame_due c.args._node.now.core c.args.to c.args._place in
    let same : posted.0 ≡ frame = one_frame posted.0 frame posted.1 c.requires.spelled in (
      c.in-Some.ensures.claim.2.0,
      posted.2.0,
      posted.2.1
          ∙ (λ i. posts
          (c.claim.ensures.same.2 i * c.claim.ensures.same.3 i + to i)
          posted.2.0
          (same i)
          (c.in-Some.ensures.claim.2.1 i)),
    )
