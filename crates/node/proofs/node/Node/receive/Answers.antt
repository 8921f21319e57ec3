use Rattle.std.proofs.Common.{ℕ, ◌∙◌, ap, Err, Ok}
use Rattle.std.proofs.lemmas.Result.{err_from_is_err_and}
use Rattle.model.specs.declared.event.Event.TheVariants as event
use Rattle.node.specs.Keeping.{after_data}
use Rattle.node.specs.Whole.{whole_of}
use Rattle.node.proofs.Held.{copy-failed, data-handled, handled-kept}
use Rattle.node.proofs.node.Node.receive.Goals as goal

pub invariant_of-self-2 : goal.invariant_of-self-2
invariant_of-self-2 c =
    handled-kept (whole_of c.self.inside)
    (record { core = c.take_in.new.self; early = c.keep.new.early.items })
    (event.Data c.args.frame.now) (Ok c.in_ok-answer.answer)
    (data-handled c.self.invariant c.in_ok-answer.ensures.performed
    c.in_ok-answer.ensures.memory_free
    (c.in_ok-keep.ensures.done
    ∙ ap
    (λ (k : ℕ). after_data k c.self.inside.early.items c.args.frame.now (Ok c.in_ok-answer.answer))
    c.taken_from-taken.ensures))

-- an early message couldn't be copied
pub invariant_of-self-in_err-keep : goal.invariant_of-self-in_err-keep
invariant_of-self-in_err-keep c =
    let failed = c.in_err-keep.ensures in
    handled-kept (whole_of c.self.inside)
    (record { core = c.take_in.new.self; early = c.keep.new.early.items })
    (event.Data c.args.frame.now) (Err c.in_err-keep.field-0.0)
    (copy-failed c.self.inside.core c.take_in.new.self c.args.frame.now c.in_ok-answer.answer
    c.in_ok-answer.ensures.performed failed.refused.1 c.self.invariant failed.refused.0
    failed.letter failed.unchanged)

pub returns-in_err-keep : goal.returns-in_err-keep
returns-in_err-keep c =
    let failed = c.in_err-keep.ensures in
    let r = err_from_is_err_and c.from_residual-in_err-keep.result
    c.from_residual-in_err-keep.ensures.1 in
    rw (r.1, r.2, ← c.self.view_is)
    (copy-failed c.self.inside.core c.take_in.new.self c.args.frame.now c.in_ok-answer.answer
    c.in_ok-answer.ensures.performed failed.refused.1 c.self.invariant failed.refused.0
    failed.letter failed.unchanged)
