use Rattle.std.proofs.Common.{sym}
use Rattle.arena.proofs.Arena.vacant.Goals as goal
use Rattle.arena.proofs.Chains.{length-chain}

pub returns : goal.returns
returns g c =
    let inside = c.self.inside in
    rw (← c.self.view_is) (sym (length-chain inside.entries.items inside.vacant inside.first))
