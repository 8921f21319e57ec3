use denote.Param.Send.{IsSync}
use denote.RattleType.{RattleType}
use Rattle.core.specs.declared.alloc.Allocator.{Ghosts}
use Rattle.arena.proofs.Threads.{Title-sync}
use Rattle.arena.specs.contracts.block.Title.{the_row}

pub sync : (R A : RattleType) (g : Ghosts A.Denot) → IsSync (the_row R A g)
sync = Title-sync
