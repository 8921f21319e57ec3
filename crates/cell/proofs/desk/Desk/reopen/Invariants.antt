use Rattle.wire.specs.Readers.{known}
use Rattle.cell.specs.Disks.{is_same_node}
use Rattle.cell.specs.Events.{found_pair, found_step}
use Rattle.cell.proofs.desk.Desk.reopen.Given as goal

abbrev pub ghost-enter_found : goal.ghost-enter_found
ghost-enter_found a = (
  found_step (is_same_node a._found.now a._saved.now.value) (known a.seat.now).me,
  found_pair (is_same_node a._found.now a._saved.now.value) (known a.seat.now).pair,
)
