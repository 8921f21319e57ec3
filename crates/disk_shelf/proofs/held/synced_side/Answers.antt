use Rattle.std.proofs.Common.{rules}
use Rattle.disk_shelf.proofs.Quiet.{still_only}
use Rattle.disk_shelf.proofs.held.synced_side.Goals as goal

pub returns-clause-durable : goal.returns-clause-durable
returns-clause-durable g c =
    still_only c.chosen.result c.chosen.ensures.quiet (search rules)
