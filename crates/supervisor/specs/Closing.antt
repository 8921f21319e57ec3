-- Cells that threads have given back, and why a space doesn't give out its disks.
use Rattle.std.specs.Prelude.{◌≡◌, ◌<◌, ℕ, Bool, IsTrue, List, Option, Some, length, slice_get}
use Rattle.wire.specs.Readers.{known, seat_node}
use Rattle.wire.specs.Rule.{nodes_of}
use Rattle.cell.specs.Cells.{CellView}
use Rattle.cell.specs.Closing.{HasBegun}
use Rattle.cell.specs.Moments.{EachCell}
use Rattle.cell.specs.Names.{Name, IsNamed, seat_name}
use Rattle.supervisor.specs.declared.closing.CloseFault.{CloseFault}
use Rattle.supervisor.specs.declared.closing.CloseFault.TheVariants.{Closed, Memory, Used}

-- The cell's seat is one of the wire that is named, in a space of as many nodes as the wire joins.
-- If that is named too, the cell was made with a node that had dropped only acknowledged messages.
pub record IsBack {D : Type 0} (wire : Option Name) (is_begun : Bool) (k : ℕ) (c : CellView D)
    : Type 0 where
  pub name : IsNamed wire (seat_name c.seat)
  pub width : c.seat.nodes ≡ nodes_of (known c.seat).opening
  pub begun : IsTrue is_begun → HasBegun c

-- the open cell of this node
pub record IsRow {D : Type 0} (k : ℕ) (c : CellView D) : Type 0 where
  pub number : seat_node c.seat ≡ k
  pub ready : IsTrue c.is_open

-- The cell in this place isn't the open cell of the node of that number; those before it are.
pub record IsFirstOther {D : Type 0} (cells : List (CellView D)) (node : ℕ) : Type 0 where
  pub cell : CellView D
  pub there : slice_get cells node ≡ Some cell
  pub other : IsRow node cell → ⊥
  pub before : EachCell (λ k c. k < node → IsRow k c) cells

-- why a space of this many nodes doesn't give out its disks, as the cells show that came back
abbrev pub IsWhy : {D : Type 0} → ℕ → CloseFault → List (CellView D) → Type 0
IsWhy nodes (Closed node) cells = (length cells ≡ nodes) × IsFirstOther cells node
IsWhy nodes (Used node) cells = (length cells ≡ node) × (node < nodes)
IsWhy nodes Memory cells = Unit {0}
