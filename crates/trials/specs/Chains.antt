-- Spaces one after another: on what disks a space begins in a world that a run reaches.
use Rattle.std.specs.Prelude.{◌≡◌, ◌⊎◌, ℕ, List, length}
use Rattle.ids.specs.Limits.{Shaped}
use Rattle.disk.specs.Areas.{Areas}
use Rattle.model.specs.World.{World}
use Rattle.wire.specs.Readers.{seat_node, IsSeatOf}
use Rattle.wire.specs.Rule.{nodes_of}
use Rattle.wire.specs.declared.seats.Wire.{Wire}
use Rattle.cell.specs.Cells.{CellView, HoldsEither, IsSound}
use Rattle.cell.specs.Closing.{AreOfOneKill, AreOfOneMoment, HasBegun}
use Rattle.cell.specs.Opened.{AreBeside}
use Rattle.cell.specs.Reached.{IsReached}
use Rattle.cell.specs.Theorems.{AreFresh}

-- A space of this shape, which began in a world that a run reaches, was closed and gave out these
-- disks.
pub record WereClosed {D : Type 0} (may_leave : D → Areas → Type 0) (shape : Shaped)
    (disks : List D) : Type 0 where
  pub opening : World
  pub reached : IsReached opening
  pub width : nodes_of opening ≡ shape.nodes
  pub once : AreOfOneMoment may_leave opening disks

-- It was killed, and this is what that left of its disks.
pub record WereKilled {D : Type 0} (seen : D → Areas) (may_leave : D → Areas → Type 0)
    (shape : Shaped) (disks : List D) : Type 0 where
  pub opening : World
  pub reached : IsReached opening
  pub width : nodes_of opening ≡ shape.nodes
  pub kill : AreOfOneKill seen may_leave opening disks

-- The disks are new, or left by such a space.
abbrev pub CanBegin : {D : Type 0} → (D → Areas) → (D → Areas → Type 0) → Shaped → List D → Type 0
CanBegin seen may_leave shape disks =
    AreFresh seen shape disks
    ⊎ (WereClosed may_leave shape disks ⊎ WereKilled seen may_leave shape disks)

-- ---- The cells of a space that is killed

-- The cell of node k at its seat on the wire. The node with which it was made had dropped only
-- acknowledged messages.
pub record IsCellAt {D : Type 0} (wire : Wire) (k : ℕ) (c : CellView D) : Type 0 where
  pub of : IsSeatOf wire c.seat
  pub number : seat_node c.seat ≡ k
  pub begun : HasBegun c

-- the disks that these cells leave, in order
pub record AreLeftBy {D : Type 0} (seen : D → Areas) (may_leave : D → Areas → Type 0)
    (cells : List (CellView D)) (disks : List D) : Type 0 where
  pub count : length disks ≡ length cells
  pub each : AreBeside (λ k c d. IsSound may_leave c × HoldsEither c (seen d)) cells disks
