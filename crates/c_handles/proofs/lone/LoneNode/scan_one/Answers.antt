use Rattle.std.proofs.Common.{Ok, refl, subst}
use Rattle.model.specs.Collecting.{scanned_reference}
use Rattle.model.specs.declared.event.Answer.TheVariants as answer
use Rattle.node_store.specs.declared.logged.LoggedNode.{LoggedNode}
use Rattle.c_handles.specs.Work.{NodeDoes, Scans}
use Rattle.c_handles.specs.contracts.lone.LoneNode.{the_view}
use Rattle.c_handles.proofs.Exits.{gave}
use Rattle.c_handles.proofs.Listing.{given_plain}
use Rattle.c_handles.proofs.lone.LoneNode.scan_one.Goals as goal

pub returns-then-not-scan_own : goal.returns-then-not-scan_own
returns-then-not-scan_own c =
    let same = c.scan_own.ensures.unchanged c.if-not-scan_own.true in
    rw (← c.self.view_is)
    (subst (λ (l : LoggedNode). Scans NodeDoes (the_view (record c.self.inside { logged = l }))
    c.scan_any.new.self c.scan_any.result) same c.scan_any.ensures)

pub returns : goal.returns
returns c =
    let a = answer.Scanned (scanned_reference c.self.inside.logged.node.core.local) in
    rw (c.mark_changed.ensures, ← c.self.view_is) (
      a,
      given_plain refl (gave (Ok a) (c.scan_own.ensures.done c.if-not-scan_own.false)),
    )
