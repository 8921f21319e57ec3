-- A cell as its callers see it: what it is, what it guarantees between two calls, and what a call
-- leaves unchanged.
use Rattle.std.specs.Prelude.{◌≡◌, ℕ, Bool, true, false, List, [], IsTrue, replicate}
use Rattle.ids.specs.declared.limits.TheConstants.{GREATEST_NODES}
use Rattle.model.specs.View.{NodeView}
use Rattle.node.specs.Keeping.{WholeNode}
use Rattle.cell.specs.declared.trace.TraceLine.{TraceLine}
use Rattle.disk.specs.Areas.{Areas}
use Rattle.image.specs.Nodes.{HasImage}
use Rattle.wire.specs.Readers.{known, seat_node, IsSame}
use Rattle.wire.specs.declared.seats.NodeSeat.{NodeSeat}
use Rattle.cell.specs.Desks.{DeskView, HasDropped, AreTaken, IsSavedNode, IsUnsaved, StandsAt}
use Rattle.cell.specs.Disks.{HoldsSaved, OpensToEither}
use Rattle.node_store.specs.Plain.{StaysPlain}
use Rattle.cell.specs.Events.{IsMarked}

pub record CellView (D : Type 0) : Type 0 where
  -- the current node, with the messages that it keeps until their turn
  pub node : WholeNode
  -- the last saved node
  pub saved : NodeView
  -- the node with which the cell was made
  pub origin : NodeView
  pub seat : NodeSeat
  -- for each node: the place, in the window to it, of the frame that is sent next
  pub places : List ℕ
  -- whether an event happened since the last save or reopening
  pub unsaved : Bool
  pub disk : D
  pub is_open : Bool
  -- whether a save may add events to a log behind the image
  pub logs : Bool
  -- the last calls and their outcomes, oldest first
  pub trace : List TraceLine

-- its node at its seat, without its disk
abbrev pub desk_of : {D : Type 0} → CellView D → DeskView
desk_of c = record {
  node = c.node;
  saved = c.saved;
  seat = c.seat;
  places = c.places;
  unsaved = c.unsaved;
}

-- a cell that was just made
abbrev pub new_cell : {D : Type 0} → WholeNode → NodeSeat → D → Bool → CellView D
new_cell node seat disk logs = record {
  node = node;
  saved = node.core;
  origin = node.core;
  seat = seat;
  places = replicate GREATEST_NODES 0;
  unsaved = false;
  disk = disk;
  is_open = true;
  logs = logs;
  trace = [];
}

-- The disk opens to the last saved node of the cell, or to the current one as it is once saved.
abbrev pub HoldsEither : {D : Type 0} → CellView D → Areas → Type 0
HoldsEither c x = ∥ OpensToEither c.saved c.node.core x ∥₁

abbrev pub IsNew : {D : Type 0} → CellView D → Type 0
IsNew c = c ≡ new_cell c.node c.seat c.disk c.logs

-- What each cell guarantees between two calls. The node shows the current state that its seat's
-- events lead to, and the last saved node shows the saved state. While the cell is open, the disk
-- opens to the last saved node, even after a crash. In any case it opens to that node or to the
-- current one. Unless saves add events to a log, no log follows the image on the disk, and the last
-- saved node has an image. Since the cell was made, neither node dropped a message that no frame
-- acknowledges.
pub record IsSound {D : Type 0} (may_leave : D → Areas → Type 0) (c : CellView D) : Type 0 where
  pub stands : StandsAt (seat_node c.seat) c.seat.nodes (known c.seat).pair c.node.core
  pub was : IsSavedNode (seat_node c.seat) c.seat.nodes (known c.seat).pair.saved c.saved
  pub unsaved : IsUnsaved c.unsaved (known c.seat).pair
  pub taken : AreTaken (known c.seat).taken c.node.early
  pub while_open : IsTrue c.is_open → HoldsSaved (may_leave c.disk) c.saved
  pub left : (x : Areas) → may_leave c.disk x → ∥ OpensToEither c.saved c.node.core x ∥₁
  pub plain : c.logs ≡ false → StaysPlain (may_leave c.disk)
  pub imaged : c.logs ≡ false → ∥ HasImage c.saved ∥₁
  pub dropped : HasDropped c.origin (known c.seat) c.node.core
  pub saved_dropped : HasDropped c.origin (known c.seat) c.saved

-- What a call that gives the node an event or a frame leaves unchanged. The seat is the same, and
-- the mark says whether an event happened. The saved node, the disk and the places in the windows
-- stay the same.
pub record GoesOn {D : Type 0} (old new : CellView D) : Type 0 where
  pub same : IsSame old.seat new.seat
  pub marked : IsMarked (known old.seat) (known new.seat) old.unsaved new.unsaved
  pub stays : new ≡ record old {
    node = new.node;
    seat = new.seat;
    unsaved = new.unsaved;
    trace = new.trace;
  }
