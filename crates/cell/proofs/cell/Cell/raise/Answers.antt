use Rattle.std.proofs.Common.{ap}
use Rattle.node_store.specs.Stores.{disk_of, is_ready_in, logs_in}
use Rattle.cell.proofs.Dropping.{took-same}
use Rattle.cell.proofs.Still.{is-still, still-kept}
use Rattle.cell.proofs.Views.{cell_at}
use Rattle.cell.proofs.cell.Cell.raise.Goals as goal

pub invariant_of-self-inside : goal.invariant_of-self-inside
invariant_of-self-inside g c =
    let cell = c.self.inside in
    let said = c.raise.ensures in
    still-kept (g.D.Disk.may_leave (disk_of cell.store))
    (is-still cell.desk c.raise.new.self
    (took-same _ _ (ap (λ v. v.me) said.known) (ap (λ v. v.taken) said.known)) said.stays)
    cell.dropped cell.saved_dropped cell.while_open cell.left cell.imaged

pub returns-clause-stays : goal.returns-clause-stays
returns-clause-stays g c =
    let cell = c.self.inside in
    rw (← c.self.view_is)
    (ap (cell_at cell.origin.value (disk_of cell.store) (is_ready_in cell.store)
    (logs_in cell.store) cell.trace)
    c.raise.ensures.stays)
