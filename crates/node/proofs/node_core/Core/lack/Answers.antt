use Rattle.std.proofs.Common.{◌≡◌, ◌+◌, Err, Ok, subst, sym, ap, ◌∙◌, true}
use Rattle.std.proofs.lemmas.Result.{err_from_is_err_and}
use Rattle.msg.specs.declared.frame.Data.{Data}
use Rattle.model.specs.State.{got_from}
use Rattle.model.specs.Steps.{is_addressed}
use Rattle.model.specs.View.{NodeView}
use Rattle.link_ends.specs.declared.receiver.Offer.{Offer}
use Rattle.link_ends.specs.declared.receiver.Offer.TheVariants.{Next, Repeat, Early}
use Rattle.link_ends.specs.Receivers.{offered}
use Rattle.link.proofs.OneLink.{offered-next}
use Rattle.node.specs.Lacking.{IsOfLetter}
use Rattle.node.proofs.Receipts.{not-addressed, not-ordered, not-takable}
use Rattle.node.proofs.Lacking.{lacks-early, lacks-next, lacks-refused, lacks-repeat}
use Rattle.node.proofs.node_core.Core.lack.Goals as goal
use Rattle.node.proofs.node_core.Core.lack.Goals.{In-Next}

-- ---- what the last two goals need

addressed : (c : In-Next) (d : Data) → IsOfLetter c.args.letter.now d
    → is_addressed c.args.self.now.local d.from d.to ≡ true
addressed c d is =
    rw (is.from, is.to) (sym c.is_addressed.ensures ∙ c.if-not-is_addressed.false)

-- the links answered Next for its number, so it is the message that comes next
comes-next : (c : In-Next) (d : Data) → IsOfLetter c.args.letter.now d
    → d.number ≡ got_from c.args.self.now.local d.from + 1
comes-next c d is =
    offered-next (got_from c.args.self.now.local d.from) d.number
    (subst (λ (n : NodeView). offered (got_from n.local d.from) d.number ≡ Ok Next) c.self.view_is
    (rw (is.from, is.number)
    (sym c.offer.ensures ∙ c.in_ok-offer.was ∙ ap (λ (o : Offer). Ok o) c.in-Next.is)))

-- ---- the goals

pub returns-then-not-is_addressed : goal.returns-then-not-is_addressed
returns-then-not-is_addressed c = λ d is.
    lacks-refused
    (not-addressed c.args.self.now d
    (rw (is.from, is.to) (sym c.is_addressed.ensures ∙ c.if-not-is_addressed.true)))

pub returns-in_err-offer : goal.returns-in_err-offer
returns-in_err-offer c =
    let r = err_from_is_err_and c.from_residual.result c.from_residual.ensures.1 in
    λ d is.
    let addressed : is_addressed c.args.self.now.local d.from d.to ≡ true =
    rw (is.from, is.to) (sym c.is_addressed.ensures ∙ c.if-not-is_addressed.false) in
    let far = subst
    (λ (n : NodeView). offered (got_from n.local d.from) d.number ≡ Err c.in_err-offer.field-0.0)
    c.self.view_is (rw (is.from, is.number) (sym c.offer.ensures ∙ c.in_err-offer.was)) in
    rw (r.1, r.2) (lacks-refused (not-ordered c.args.self.now d addressed far))

pub returns-in-Repeat : goal.returns-in-Repeat
returns-in-Repeat c = λ d is.
    let addressed : is_addressed c.args.self.now.local d.from d.to ≡ true =
    rw (is.from, is.to) (sym c.is_addressed.ensures ∙ c.if-not-is_addressed.false) in
    lacks-repeat c.args.self.now d addressed
    (subst (λ (n : NodeView). offered (got_from n.local d.from) d.number ≡ Ok Repeat)
    c.self.view_is
    (rw (is.from, is.number)
    (sym c.offer.ensures ∙ c.in_ok-offer.was ∙ ap (λ (o : Offer). Ok o) c.in-Repeat.is)))

pub returns-in-Early : goal.returns-in-Early
returns-in-Early c = λ d is.
    let addressed : is_addressed c.args.self.now.local d.from d.to ≡ true =
    rw (is.from, is.to) (sym c.is_addressed.ensures ∙ c.if-not-is_addressed.false) in
    lacks-early c.args.self.now d addressed is.label _ is.bytes is.body
    (subst (λ (n : NodeView). offered (got_from n.local d.from) d.number ≡ Ok Early)
    c.self.view_is
    (rw (is.from, is.number)
    (sym c.offer.ensures ∙ c.in_ok-offer.was ∙ ap (λ (o : Offer). Ok o) c.in-Early.is)))

pub returns-then-not-may_take_letter : goal.returns-then-not-may_take_letter
returns-then-not-may_take_letter c = λ d is.
    let at = (goal.at.returns-then-not-may_take_letter c).In-Next in
    lacks-refused
    (not-takable c.args.self.now d (addressed at d is) (comes-next at d is)
    (rw (is.from, is.stamp, is.body)
    (sym (c.may_take_letter.ensures is.label is.bytes is.size)
    ∙ c.if-not-may_take_letter.true)))

pub returns : goal.returns
returns c = λ d is.
    let at = (goal.at.returns c).In-Next in
    lacks-next c.args.self.now d (addressed at d is) (comes-next at d is)
    (rw (is.from, is.stamp, is.body)
    (sym (c.may_take_letter.ensures is.label is.bytes is.size)
    ∙ c.if-not-may_take_letter.false))
