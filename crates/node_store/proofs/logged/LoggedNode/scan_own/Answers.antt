use Rattle.std.proofs.Common.{Ok, refl, subst, sym}
use Rattle.model.specs.Collecting.{scanned_reference}
use Rattle.model.specs.declared.event.Answer.TheVariants as answers
use Rattle.model.specs.declared.event.Event.TheVariants as events
use Rattle.node_store.specs.Acting.{Acted}
use Rattle.node_store.proofs.Noting.{scan_noted, scan_unkept}
use Rattle.node_store.proofs.logged.LoggedNode.scan_own.Goals as goal

pub returns-then-self-clause-done : goal.returns-then-self-clause-done
returns-then-self-clause-done c =
    let old = c.args.self.now in
    let a = answers.Scanned (scanned_reference old.node.core.local) in
    λ is. subst (λ n. Acted old n events.Scan (Ok a)) (sym c.note.ensures.stays)
    (scan_noted (c.scan_own.ensures.done c.if-not-scan_own.false) refl c.note.ensures.noted)

pub returns-else-self-clause-done : goal.returns-else-self-clause-done
returns-else-self-clause-done c =
    λ is. scan_unkept (c.scan_own.ensures.done c.if-not-scan_own.false) c.if-self.false
