use Rattle.std.proofs.Common.{◌≡◌, None, Some, ap, slice_index_or, ◌∙◌}
use Rattle.std.proofs.lemmas.Bool.{cond-true}
use Rattle.msg.specs.Frames.{ack_frame, plain_ref}
use Rattle.model.specs.View.{is_other}
use Rattle.wire.specs.Sending.{frame_or_ack, place_after}
use Rattle.wire.proofs.sending.due.Goals as goal

pub returns-in-Some-clause-frame : goal.returns-in-Some-clause-frame
returns-in-Some-clause-frame c =
    ap (frame_or_ack c.args.node.now.core c.args.to) c.in-Some.ensures

pub returns-in-Some-clause-next : goal.returns-in-Some-clause-next
returns-in-Some-clause-next c = ap (place_after c.args.place) c.in-Some.ensures

pub returns-clause-frame : goal.returns-clause-frame
returns-clause-frame c =
    let n = c.args.node.now.core in
    let to = c.args.to in
    let ack = ack_frame n.local.own to (slice_index_or n.acks to 0) in
    let told : Some (plain_ref c.in-Some-ack_for.frame) ≡ Some ack =
    c.in-Some-ack_for.ensures ∙ cond-true (is_other n.local to) (Some ack) None c.requires in
    ap (frame_or_ack n to) told ∙ ap (frame_or_ack n to) c.in_default.ensures

pub returns-clause-next : goal.returns-clause-next
returns-clause-next c = ap (place_after c.args.place) c.in_default.ensures
