use Rattle.disk_shelf.proofs.Logs.{one_meaning}
use Rattle.disk_journal.proofs.journal.opens_once.Goals as goal

pub returns : goal.returns
returns c = one_meaning
