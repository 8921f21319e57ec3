use Rattle.std.proofs.Common.{◌∙◌, ap, sym, Ok, option_copied}
use Rattle.model.specs.declared.event.Event.TheVariants as event
use Rattle.node.specs.Keeping.{Rings, waiting}
use Rattle.node.proofs.Held.{handled-kept, next-handled, emptied-kept}
use Rattle.node.proofs.node.Node.next.Goals as goal

pub invariant_of-self : goal.invariant_of-self
invariant_of-self c =
    let one =
    sym (ap (λ (es : Rings). waiting es c.args.from) c.deref.ensures.value)
    ∙ sym c.front.ensures ∙ ap option_copied c.in-Some.is in
    handled-kept _ _ (event.Next c.args.from) (Ok c.in-Ok.answer)
    (next-handled c.self.invariant one c.in-Ok.ensures.performed c.in-Ok.ensures.memory_free
    c.shift.ensures)

pub invariant_of-self-in-Err : goal.invariant_of-self-in-Err
invariant_of-self-in-Err c =
    emptied-kept c.self.inside.core c.take_in.new.self c.self.inside.early.items
    c.drop_front.new.early.items c.args.from c.self.invariant c.in-Err.ensures.performed.unchanged
    c.drop_front.ensures
