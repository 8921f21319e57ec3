use Rattle.std.proofs.Common.{[], ◌∙◌, refl}
use Rattle.model.specs.Shading.{filled, roots, unasked}
use Rattle.remote_marks.specs.Asked.{IsAsked}
use Rattle.node.proofs.node_core.joining.send_joining.Goals as goal

pub returns-in-Err-clause-unchanged : goal.returns-in-Err-clause-unchanged
returns-in-Err-clause-unchanged c =
    let first = c.in_ok-asked.ensures.done in
    let new = unasked c.args.own [] (filled (roots c.args.heap.now.heap)) in
    let kept : IsAsked [] new c.args.cycle c.args.links.now c.send_out.new.asked.keys
    c.send_out.new.links = record {
      keys = c.in-Err.ensures.unchanged.0 ∙ first.keys;
      fits = first.fits;
      sent = c.in-Err.ensures.unchanged.1 ∙ first.sent;
    } in
    (c.unask.ensures.back [] new c.args.cycle c.args.links.now refl c.requires.sound kept).1
