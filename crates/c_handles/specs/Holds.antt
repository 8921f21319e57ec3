-- What the owner of a pointer to a box, or of null, owns.
use Rattle.std.specs.Prelude.{◌≡◌, Option, Some, None}
use Rattle.std.specs.Option.{option_map}
use Rattle.std.specs.Global.{Box, Global}
use Rattle.std.specs.contracts.impls.GlobalAllocator.TheImpl.{ghosts}
use Rattle.std_alloc.specs.Box.{box_value}
use Rattle.std_alloc.specs.Box.Ownership.{box_owns}
use base.Fml.{Fml, ftrue, fex}
use denote.RattleType.{RattleType}
use denote.RawPtr.{Ptr, null_ptr}

-- every box of the C library's heap is freed by the same handle
abbrev pub heap : Global
heap = record { memory = record { seal = tt } }

-- the box at the pointer, with its value; or nothing, and the pointer is null
abbrev pub holds : (R : RattleType) → Ptr → Option R.Denot → Fml
holds R p None = fex (p ≡ null_ptr) (λ _. ftrue)
holds R p (Some x) = box_owns (ghosts.dealloc_token heap) R p x

-- what an optional box holds
abbrev pub unboxed : {X : Type 0} → Option (Box X) → Option X
unboxed = option_map box_value
