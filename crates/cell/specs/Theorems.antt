-- The theorems on runs, of each world that a run reaches, except perhaps for messages that are
-- acknowledged. So they hold of spaces that were opened from used disks.
use Rattle.std.specs.Prelude.{◌≡◌, ◌⊎◌, ℕ, List, Some, length, slice_get}
use Rattle.ids.specs.Limits.{Shaped, IsShape}
use Rattle.model.specs.declared.step.Step.{Step}
use Rattle.model.specs.State.{new_node, node_at}
use Rattle.model.specs.World.{World, run}
use Rattle.disk.specs.Areas.{Areas, IsBlank}
use Rattle.node.specs.Keeping.{WholeNode}
use Rattle.wire.specs.OneAge.{AreOfOneAge}
use Rattle.cell.specs.Laws.{restarted, IsLeft}
use Rattle.cell.specs.Opened.{AreBeside, IsReadFrom}
use Rattle.cell.specs.Reached.{AreHeld, BeginReached, IsReached}

-- Each disk is blank, or a cell left a new node on it. So it may be if a first opening was cut off.
abbrev pub FreshIsReached : Type 0
FreshIsReached =
    (shape : Shaped) (nodes : List WholeNode) → IsShape shape → length nodes ≡ shape.nodes
    → ((k : ℕ) (n : WholeNode) → slice_get nodes k ≡ Some n → (c : Areas)
    × (IsBlank c ⊎ IsLeft k shape.nodes (new_node shape k) c) × IsReadFrom shape k c n)
    → BeginReached nodes

-- Whatever happens in a world that a run reaches, a run reaches the world afterwards.
abbrev pub StaysReached : Type 0
StaysReached = (w : World) (steps : List Step) → IsReached w → IsReached (run w steps)

-- The theorems on runs hold of each such world too.
abbrev pub OfEveryReached : (World → Type 0) → Type 0
OfEveryReached P = (w : World) → IsReached w → P w

-- ---- Disks of one age

-- The nodes are read from what the cells of a space left on its disks, which a run reached in this
-- world.
pub record AreLeft (shape : Shaped) (w : World) (nodes : List WholeNode) : Type 0 where
  pub reached : IsReached w
  pub width : length w.saved ≡ shape.nodes
  pub count : length nodes ≡ shape.nodes
  pub each : (k : ℕ) (n : WholeNode) → slice_get nodes k ≡ Some n → (c : Areas)
      × IsLeft k shape.nodes (node_at w.saved k) c × IsReadFrom shape k c n

-- Nodes in which a space may begin are of one age. So no opening that has found them is refused
-- because of their ages: not of the disks of a first opening, nor of those of a space that a crash
-- has stopped.
abbrev pub BeginOfOneAge : Type 0
BeginOfOneAge = (nodes : List WholeNode) → BeginReached nodes → AreOfOneAge nodes

abbrev pub LeftIsOfOneAge : Type 0
LeftIsOfOneAge =
    (shape : Shaped) (w : World) (nodes : List WholeNode) → AreLeft shape w nodes
    → AreHeld nodes (restarted w) → AreOfOneAge nodes

-- An opening that isn't refused has tested that no node dropped a message that another one lacks.
-- So if a space left the disks, a run reaches the world in which they are opened again.
abbrev pub ReopenedIsReached : Type 0
ReopenedIsReached =
    (shape : Shaped) (w : World) (nodes : List WholeNode) → AreLeft shape w nodes
    → AreOfOneAge nodes → BeginReached nodes

-- ---- What an opening finds

-- The disks of a space read as blank, or as a first opening left them that was cut off.
pub record AreFresh {D : Type 0} (seen : D → Areas) (shape : Shaped) (disks : List D) : Type 0
  where
    pub count : length disks ≡ shape.nodes
    pub each : (k : ℕ) (d : D) → slice_get disks k ≡ Some d
        → IsBlank (seen d) ⊎ IsLeft k shape.nodes (new_node shape k) (seen d)

-- They read as the cells of a space left them, which a run reached in this world.
pub record AreLeftOn {D : Type 0} (seen : D → Areas) (shape : Shaped) (w : World) (disks : List D)
    : Type 0 where
  pub reached : IsReached w
  pub width : length w.saved ≡ shape.nodes
  pub count : length disks ≡ shape.nodes
  pub each : (k : ℕ) (d : D) → slice_get disks k ≡ Some d
      → IsLeft k shape.nodes (node_at w.saved k) (seen d)

-- The nodes that are read from them have dropped only messages that are acknowledged in that world.
abbrev pub AreHeldOn : {D : Type 0} → (D → Areas) → Shaped → World → List D → Type 0
AreHeldOn seen shape w disks =
    (nodes : List WholeNode) → length nodes ≡ length disks
    → AreBeside (λ k d n. IsReadFrom shape k (seen d) n) disks nodes
    → AreHeld nodes (restarted w)
