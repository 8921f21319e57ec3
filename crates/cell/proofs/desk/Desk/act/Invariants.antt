use Rattle.node.specs.Keeping.{met, own_step}
use Rattle.wire.specs.Readers.{known}
use Rattle.cell.proofs.desk.Desk.act.Given as goal

abbrev pub ghost-perform : goal.ghost-perform
ghost-perform a = (
  own_step a.self.now.node.early (known a.self.now.seat).me a.event.now,
  met a.self.now.node.early a.event.now,
)
