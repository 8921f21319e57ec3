use Rattle.std.proofs.Common.{ap}
use Rattle.disk.specs.Record.{areas_of}
use Rattle.disk.proofs.Torn.{only_synced}
use Rattle.disk.proofs.account.Account.new.Goals as goal

pub returns-clause-durable : goal.returns-clause-durable
returns-clause-durable c =
    let state = c.new.ensures in
    only_synced c.new.result (areas_of c.args.held) (ap areas_of state.held)
    state.synced state.ranges
