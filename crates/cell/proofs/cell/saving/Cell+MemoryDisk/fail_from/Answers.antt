use Rattle.std.proofs.Common.{ap}
use Rattle.cell.proofs.Opening.{cell-facts, told-to-fail}
use Rattle.cell.proofs.cell.saving.Cell+MemoryDisk.fail_from.Goals as goal

pub invariant_of-self-inside : goal.invariant_of-self-inside
invariant_of-self-inside c =
    let cell = c.self.inside in
    let said = c.fail_from.ensures in
    cell-facts cell.dropped cell.saved_dropped
    (told-to-fail cell.desk.saved cell.desk.node.core (ap (λ a. a.state) said.account) said.same.0
    said.same.1 cell.while_open cell.left cell.imaged)
