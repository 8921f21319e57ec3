-- Disks that were copied at different moments of one run of a space.
use Rattle.std.specs.Prelude.{◌≡◌, ℕ, List, length, slice_get, Some}
use Rattle.ids.specs.Limits.{Shaped, IsShape}
use Rattle.model.specs.declared.step.Step.{Step}
use Rattle.model.specs.State.{NodeState, node_at}
use Rattle.model.specs.View.{link_to}
use Rattle.laws.specs.Copies.{WasSaved}
use Rattle.disk.specs.Areas.{Areas}
use Rattle.node.specs.Keeping.{WholeNode}
use Rattle.wire.specs.OneAge.{AreOfOneAge}
use Rattle.cell.specs.Laws.{IsLeft}
use Rattle.cell.specs.Opened.{IsReadFrom}
use Rattle.cell.specs.Reached.{BeginReached, IsLike}

-- A cell left a state on a disk that reads as `seen`. The node's saved state in the run was like it
-- at some moment: they differ at most in messages that the node on the disk has dropped.
pub record IsCopy (shape : Shaped) (steps : List Step) (k : ℕ) (was : NodeState) (seen : Areas)
    : Type 0 where
  pub saved : WasSaved shape steps k was
  pub state : NodeState
  pub left : IsLeft k shape.nodes state seen
  pub like : IsLike (λ to. (link_to left.node to).base) state was

-- The nodes are read from such disks, each from one of a moment of its own.
pub record AreCopies (shape : Shaped) (steps : List Step) (nodes : List WholeNode) : Type 0 where
  pub states : List NodeState
  pub width : length states ≡ shape.nodes
  pub count : length nodes ≡ shape.nodes
  pub each : (k : ℕ) (n : WholeNode) → slice_get nodes k ≡ Some n → (c : Areas)
      × IsCopy shape steps k (node_at states k) c × IsReadFrom shape k c n

-- An opening that isn't refused has tested that no node has received more than was sent, and that
-- none dropped what another one lacks. That is enough: if the disks are copies from one run, a run
-- reaches the world in which they are opened, whatever the moments of the copies were.
abbrev pub CopiesAreReached : Type 0
CopiesAreReached =
    (shape : Shaped) (steps : List Step) (nodes : List WholeNode) → IsShape shape
    → AreCopies shape steps nodes → AreOfOneAge nodes → BeginReached nodes

-- The disks of a space are such copies.
pub record AreCopiesOn {D : Type 0} (seen : D → Areas) (shape : Shaped) (steps : List Step)
    (disks : List D) : Type 0 where
  pub states : List NodeState
  pub width : length states ≡ shape.nodes
  pub count : length disks ≡ shape.nodes
  pub each : (k : ℕ) (d : D) → slice_get disks k ≡ Some d
      → IsCopy shape steps k (node_at states k) (seen d)
