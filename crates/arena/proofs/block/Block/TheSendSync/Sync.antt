use denote.Param.Send.{IsSync}
use denote.RattleType.{RattleType}
use Rattle.arena.proofs.Threads.{Block-sync}
use Rattle.arena.specs.contracts.block.Block.{the_row}

pub sync : (R : RattleType) → IsSync R → IsSync (the_row R)
sync = Block-sync
