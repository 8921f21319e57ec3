use Rattle.std.proofs.Common.{ap}
use Rattle.disk.specs.Record.{areas_of}
use Rattle.disk.proofs.Torn.{only_synced, settled_leaves}
use Rattle.disk.proofs.account.Account.settle.Goals as goal

pub returns-clause-durable : goal.returns-clause-durable
returns-clause-durable c =
    let state = c.settle.ensures in
    only_synced c.settle.new.self (areas_of c.args.self.now.state.held) (ap areas_of state.held)
    state.synced state.ranges

pub returns-clause-crash : goal.returns-clause-crash
returns-clause-crash c =
    let state = c.settle.ensures in
    settled_leaves c.args.self.now.state c.settle.new.self (ap areas_of state.held) state.synced
    state.ranges
