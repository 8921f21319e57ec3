use denote.Param.Send.{IsSend}
use denote.RattleType.{RattleType}
use Rattle.arena.proofs.Threads.{Block-send}
use Rattle.arena.specs.contracts.block.Block.{the_row}

pub send : (R : RattleType) → IsSend R → IsSend (the_row R)
send = Block-send
