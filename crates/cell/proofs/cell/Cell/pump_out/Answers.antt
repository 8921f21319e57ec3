use Rattle.std.proofs.Common.{◌≡◌, Bool, ap, slice_index_or, subst, sym}
use Rattle.std.proofs.lemmas.Result.{err_from_is_err_and}
use Rattle.node_store.specs.Stores.{disk_of, is_ready_in, logs_in}
use Rattle.cell.specs.Cells.{CellView}
use Rattle.wire.specs.Readers.{known, outbox}
use Rattle.cell.specs.Pumping.{is_out}
use Rattle.wire.specs.Sending.{frame_due, places_after, IsSent}
use Rattle.cell.proofs.Dropping.{send-took}
use Rattle.cell.proofs.Still.{is-still, still-kept}
use Rattle.cell.proofs.Views.{cell_at}
use Rattle.cell.proofs.cell.Cell.pump_out.Goals as goal

pub invariant_of-self-inside : goal.invariant_of-self-inside
invariant_of-self-inside g c =
    let cell = c.self.inside in
    let desk = c.send.new.self in
    let said = c.send.ensures in
    still-kept (g.D.Disk.may_leave (disk_of cell.store))
    (is-still cell.desk desk (send-took _ _ c.send.result cell.desk desk said.sent said.refused)
    said.stays)
    cell.dropped cell.saved_dropped cell.while_open cell.left cell.imaged

pub returns-clause-stays : goal.returns-clause-stays
returns-clause-stays g c =
    let cell = c.self.inside in
    rw (← c.self.view_is)
    (ap (cell_at cell.origin.value (disk_of cell.store) (is_ready_in cell.store)
    (logs_in cell.store) cell.trace) c.send.ensures.stays)

pub returns-in_err-is_sent-clause-stays : goal.returns-in_err-is_sent-clause-stays
returns-in_err-is_sent-clause-stays g c =
    let cell = c.self.inside in
    rw (← c.self.view_is)
    (ap (cell_at cell.origin.value (disk_of cell.store) (is_ready_in cell.store)
    (logs_in cell.store) cell.trace) c.send.ensures.stays)

pub returns-in_err-is_sent-clause-refused : goal.returns-in_err-is_sent-clause-refused
returns-in_err-is_sent-clause-refused g c =
    let cell = c.self.inside in
    let p = err_from_is_err_and c.from_residual.result c.from_residual.ensures.1 in
    rw (p.1, ← c.self.view_is)
    (ap (cell_at cell.origin.value (disk_of cell.store) (is_ready_in cell.store)
    (logs_in cell.store) cell.trace)
    c.in_err-is_sent.ensures.refused.1)

pub returns-clause-sent : goal.returns-clause-sent
returns-clause-sent g c =
    let desk = c.self.inside.desk in
    let to = c.args.to in
    let after = known c.send.new.self.seat in
    subst (λ (v : CellView g.row.D.Denot).
    IsSent (outbox v.seat to) (frame_due v.node.core to (slice_index_or v.places to 0))
    (is_out c.outbound.result) (known v.seat) after) c.self.view_is
    (subst (λ (b : Bool).
    IsSent (outbox desk.seat to) (frame_due desk.node.core to (slice_index_or desk.places to 0)) b
    (known desk.seat) after) (sym c.outbound.ensures) c.in_ok-is_sent.ensures.sent)

pub returns-clause-places : goal.returns-clause-places
returns-clause-places g c =
    let desk = c.self.inside.desk in
    let after = c.send.new.self.places in
    subst (λ (v : CellView g.row.D.Denot).
    after ≡ places_after (is_out c.outbound.result) v.node.core c.args.to v.places) c.self.view_is
    (subst (λ (b : Bool). after ≡ places_after b desk.node.core c.args.to desk.places)
    (sym c.outbound.ensures) c.in_ok-is_sent.ensures.places)
