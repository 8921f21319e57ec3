use Rattle.std.proofs.Common.{Ok, sym, subst, ⊎_elim}
use Rattle.std.proofs.lemmas.Bool.{cases_Bool}
use Rattle.model.specs.Collecting.{scanned_reference}
use Rattle.model.specs.View.{NodeView}
use Rattle.model.specs.declared.event.Answer.TheVariants as answer
use Rattle.model.specs.declared.event.Event.TheVariants as event
use Rattle.node.specs.Keeping.{AreKept}
use Rattle.node.proofs.Held.{handled-kept, other-handled}
use Rattle.node.proofs.node.Node.scan_own.Goals as goal

pub invariant_of-self : goal.invariant_of-self
invariant_of-self c =
    let m : NodeView = c.scan_own.new.self in
    let kept = λ (n : NodeView).
    AreKept n.local.shape.nodes n.local.own n.local.got c.self.inside.early.items in
    ⊎_elim {C = kept m}
    (λ done.
    handled-kept _ _ event.Scan
    (Ok (answer.Scanned (scanned_reference c.self.inside.core.local)))
    (other-handled event.Scan c.self.invariant (λ from is. absurd cc) (λ d is. absurd cc)
    (c.scan_own.ensures.done done) (λ free. tt)))
    (λ none. subst kept (sym (c.scan_own.ensures.unchanged none)) c.self.invariant)
    (cases_Bool c.scan_own.result)
