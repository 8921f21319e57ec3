use Rattle.model.specs.declared.event.Event.TheVariants as event
use Rattle.model.proofs.Shown.{act-shown}
use Rattle.node.proofs.Held.{handled-kept}
use Rattle.node.proofs.node.Node.act.Goals as goal

pub returns-in-Data-clause-states : goal.returns-in-Data-clause-states
returns-in-Data-clause-states c =
    rw c.in-Data.is
    (act-shown c.args.self.now.core c.receive-taken.new.self.core (event.Data c.in-Data.frame) _
    c.receive-taken.ensures.performed.performs)

pub returns-in-Data-clause-kept : goal.returns-in-Data-clause-kept
returns-in-Data-clause-kept c = handled-kept _ _ _ _ c.receive-taken.ensures

pub returns-in-Next-clause-kept : goal.returns-in-Next-clause-kept
returns-in-Next-clause-kept c = handled-kept _ _ _ _ c.next-taken.ensures

pub returns-in_default-clause-kept : goal.returns-in_default-clause-kept
returns-in_default-clause-kept c = handled-kept _ _ _ _ c.handle.ensures
