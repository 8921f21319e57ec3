use Rattle.std.proofs.Common.{ℕ, subst}
use Rattle.remote_marks.specs.Asked.{AreSent}
use Rattle.remote_marks.proofs.Sent.{sent-then}
use Rattle.node.specs.Errands.{extra_sends}
use Rattle.node.proofs.node_core.errands.send_out.Goals as goal

pub returns-then-due-clause-done : goal.returns-then-due-clause-done
returns-then-due-clause-done c =
    let first = c.in_ok-before.ensures in
    sent-then first.done.sent
    (subst
    (λ (k : ℕ). AreSent (extra_sends c.args.own k c.args.cycle c.args.extra) c.see.new.links
    c.send_extra.new.links)
    first.width c.in_default.ensures.done)
