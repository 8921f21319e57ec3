use Rattle.wire.specs.Readers.{known}
use Rattle.cell.proofs.Quiet.{delivered-by}
use Rattle.cell.proofs.desk.Desk.handle.Given as goal

abbrev pub ghost-perform : goal.ghost-perform
ghost-perform a = (delivered-by (known a.self.now.seat).me a.event.now, a.event.now)
