use denote.Param.Send.{IsSend, Frees}
use denote.RattleType.{RattleType}
use Rattle.core.specs.declared.alloc.Allocator.{Ghosts}
use Rattle.arena.proofs.Threads.{Title-send}
use Rattle.arena.specs.contracts.block.Title.{the_row}

pub send : (R A : RattleType) (g : Ghosts A.Denot) → IsSend A → Frees g g.dealloc_token
    → IsSend (the_row R A g)
send R A g sends = Title-send R A g
