use Rattle.std.proofs.Common.{ap, sym, ◌∙◌}
use Rattle.wire.specs.Views.{learns}
use Rattle.wire.specs.Readers.{known}
use Rattle.node_store.specs.Stores.{disk_of, is_ready_in, logs_in}
use Rattle.cell.proofs.Dropping.{took-same}
use Rattle.cell.proofs.Still.{is-still, still-kept}
use Rattle.cell.proofs.Views.{cell_at}
use Rattle.cell.proofs.cell.learning.CellLearner.learn.Goals as goal

pub invariant_of-self-inside : goal.invariant_of-self-inside
invariant_of-self-inside g c =
    let cell = c.self.inside in
    let said = c.learn.ensures in
    let known = said.learned.known in
    still-kept (g.D.Disk.may_leave (disk_of cell.store))
    (is-still cell.desk c.learn.new.self
    (took-same _ _ (ap (λ v. v.me) known) (ap (λ v. v.taken) known)) said.stays)
    cell.dropped cell.saved_dropped cell.while_open cell.left cell.imaged

pub returns-clause-learned : goal.returns-clause-learned
returns-clause-learned g c =
    let cell = c.self.inside in
    let said = c.learn.ensures in
    rw (← c.self.view_is)
    record {
      same = said.same;
      stays = ap (cell_at cell.origin.value (disk_of cell.store) (is_ready_in cell.store)
          (logs_in cell.store) cell.trace) said.stays;
      known = said.learned.known
          ∙ ap (λ l. learns l (known cell.desk.seat)) (sym (ap (λ v. v.seen) said.learned.known));
    }
