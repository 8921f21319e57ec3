use Rattle.std.proofs.Common.{◌≡◌, ◌+◌, Err, Ok, subst, sym, ap, ◌∙◌, true, arith}
use Rattle.model.specs.State.{got_from}
use Rattle.model.specs.Steps.{is_addressed}
use Rattle.model.specs.View.{NodeView, Performed}
use Rattle.model.proofs.Shown.{view-taken_in}
use Rattle.link_ends.specs.declared.receiver.Offer.{Offer}
use Rattle.link_ends.specs.Receivers.{offered}
use Rattle.node.specs.Inside.{view_of}
use Rattle.link.proofs.OneLink.{offered-next}
use Rattle.node.proofs.Receipts.{busy, not-addressed, not-ordered, not-takable, takable}
use Rattle.node.proofs.Receiving.{run-sender, taken-performed, taken-refused}
use Rattle.std.proofs.lemmas.Result.{err_from_is_err_and}
use Rattle.model.specs.declared.event.Answer.TheVariants as answer
use Rattle.node.proofs.node_core.Core.take_in.Goals as goal
use Rattle.node.proofs.node_core.Core.take_in.Goals.{In-Next}

-- ---- what both goals need

addressed : (c : In-Next)
    → is_addressed c.args.self.now.local c.args.frame.now.from c.args.frame.now.to ≡ true
addressed c = sym c.is_addressed.ensures ∙ c.if-not-is_addressed.false

-- the links answered Next for its number, so it is the message that comes next
comes-next : (c : In-Next)
    → c.offer.result
    ≡ offered (got_from (view_of c.self.inside).local c.args.frame.now.from) c.args.frame.now.number
    → c.args.frame.now.number ≡ got_from c.args.self.now.local c.args.frame.now.from + 1
comes-next c asked =
    let n : NodeView = view_of c.self.inside in
    let next =
    offered-next (got_from n.local c.args.frame.now.from) _
    (sym asked ∙ c.in_ok-offer.was ∙ ap (λ (o : Offer). Ok o) c.in-Next.is) in
    let turn =
    next ∙ ap (λ (v : NodeView). got_from v.local c.args.frame.now.from + 1) c.self.view_is in
    omega (arith, turn)

-- ---- the goals

pub returns-then-not-is_addressed : goal.returns-then-not-is_addressed
returns-then-not-is_addressed c =
    let refused = not-addressed c.args.self.now c.args.frame.now
    (sym c.is_addressed.ensures ∙ c.if-not-is_addressed.true) in
    record { performed = refused.0; memory_free = refused.1 }

pub returns-in_err-offer : goal.returns-in_err-offer
returns-in_err-offer c =
    let r = err_from_is_err_and c.from_residual.result c.from_residual.ensures.1 in
    let far = subst
    (λ (n : NodeView). offered (got_from n.local c.args.frame.now.from) c.args.frame.now.number
    ≡ Err c.in_err-offer.field-0.0) c.self.view_is (sym c.offer.ensures ∙ c.in_err-offer.was) in
    let refused = not-ordered c.args.self.now c.args.frame.now
    (sym c.is_addressed.ensures ∙ c.if-not-is_addressed.false) far in
    rw (r.1, r.2) (record { performed = refused.0; memory_free = refused.1 })

pub returns-then-not-may_take : goal.returns-then-not-may_take
returns-then-not-may_take c =
    let at = (goal.at.returns-then-not-may_take c).In-Next in
    let refused = not-takable c.args.self.now c.args.frame.now (addressed at)
    (comes-next at c.offer.ensures) (sym c.may_take.ensures ∙ c.if-not-may_take.true) in
    record { performed = refused.0; memory_free = refused.1 }

pub returns-in_err-receive-clause-memory_free : goal.returns-in_err-receive-clause-memory_free
returns-in_err-receive-clause-memory_free c = λ free.
    let at = (goal.at.returns-in_err-receive-clause-memory_free c).In-Next in
    absurd (busy c.args.self.now c.args.frame.now (addressed at)
    (comes-next at c.offer.ensures) free)

pub receive-requires : goal.receive-requires
receive-requires c =
    let m : NodeView = c.args.self.now in
    let at = (goal.at.receive-requires c).In-Next in
    takable m.local c.args.frame.now (addressed at) (comes-next at c.offer.ensures)
    (sym c.may_take.ensures ∙ c.if-not-may_take.false)

pub returns-in_err-receive-clause-performed : goal.returns-in_err-receive-clause-performed
returns-in_err-receive-clause-performed c =
    let m : NodeView = c.args.self.now in
    let at = (goal.at.returns-in_err-receive-clause-performed c).In-Next in
    let r = err_from_is_err_and c.from_residual-in_err-receive.result
    c.from_residual-in_err-receive.ensures.1 in
    rw (r.1, r.2)
    (subst (Performed true (Err c.in_err-receive.field-0.0) m c.receive.new.self)
    (sym (view-taken_in m c.args.frame.now (addressed at) (comes-next at c.offer.ensures)
    (sym c.may_take.ensures ∙ c.if-not-may_take.false)))
    (taken-refused m c.args.frame.now.from c.args.frame.now.stamp c.args.frame.now.body
    c.in_err-receive.ensures))

pub count_in-requires : goal.count_in-requires
count_in-requires c =
    let m : NodeView = c.args.self.now in
    let at = (goal.at.count_in-requires c).In-Next in
    let takes = takable m.local c.args.frame.now (addressed at) (comes-next at c.offer.ensures)
    (sym c.may_take.ensures ∙ c.if-not-may_take.false) in
    run-sender m c.args.frame.now.from c.args.frame.now.stamp c.args.frame.now.body
    c.in_ok-receive.ensures.done takes.sender

pub returns-clause-performed : goal.returns-clause-performed
returns-clause-performed c =
    let m : NodeView = c.args.self.now in
    let at = (goal.at.returns-clause-performed c).In-Next in
    subst (Performed true (Ok answer.Received) m c.count_in.new.self)
    (sym (view-taken_in m c.args.frame.now (addressed at) (comes-next at c.offer.ensures)
    (sym c.may_take.ensures ∙ c.if-not-may_take.false)))
    (taken-performed m c.args.frame.now.from c.args.frame.now.stamp c.args.frame.now.body
    c.in_ok-receive.ensures.done c.count_in.ensures)
