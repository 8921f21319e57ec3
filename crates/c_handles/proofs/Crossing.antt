-- What owns a box or none may go to another thread if the box's value may.
use Rattle.std.specs.Prelude.{Option, Some, None}
use Rattle.std.proofs.Crossing.{frees}
use Rattle.std_alloc.proofs.SendSync.{lies}
use base.Shift.{Keyless}
use denote.Memory.{lone}
use denote.Param.Send.{IsSend}
use denote.RattleType.{RattleType}
use denote.RawPtr.{Ptr}
use mir.Raw.{raw}
use Rattle.c_handles.specs.Holds.{heap, holds}

pub holds-keyless : (R : RattleType) → IsSend R → (p : Ptr) (x : Option R.Denot)
    → Keyless (holds R p x)
holds-keyless R s p None = λ e. tt
holds-keyless R s p (Some x) = (lies R s p x, frees.frees heap (raw (lone R.mir)) p)
