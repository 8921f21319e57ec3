-- A cell whose desk took a step that leaves its nodes as they were, open or closed.
use Rattle.std.proofs.Common.{◌≡◌, ℕ, Bool, List, IsTrue, ap}
use Rattle.disk.specs.Areas.{Areas}
use Rattle.model.specs.View.{NodeView}
use Rattle.wire.specs.Readers.{known}
use Rattle.wire.specs.declared.seats.NodeSeat.{NodeSeat}
use Rattle.cell.specs.Desks.{DeskView, HasDropped}
use Rattle.cell.specs.Disks.{HoldsSaved, OpensToEither}
use Rattle.cell.proofs.Dropping.{TookMore, dropped-as}
use Rattle.cell.proofs.Opening.{IsImaged, stays-left}

-- the nodes are the same, and the seat took no fewer frames
pub record IsStill (old new : DeskView) : Type 0 where
  pub took : TookMore (known old.seat) (known new.seat)
  pub node : new.node.core ≡ old.node.core
  pub saved : new.saved ≡ old.saved

-- if only the seat and the places in the windows have changed
pub is-still : (old new : DeskView) {seat : NodeSeat} {places : List ℕ}
    → TookMore (known old.seat) (known new.seat)
    → new ≡ record old { seat = seat; places = places } → IsStill old new
is-still old new took stays = record {
  took = took;
  node = ap (λ (d : DeskView). d.node.core) stays;
  saved = ap (λ (d : DeskView). d.saved) stays;
}

-- the facts of the type `Cell`, in their order
pub still-kept : {first : NodeView} {old new : DeskView} {ready logs : Bool}
    (may_leave : Areas → Type 0) → IsStill old new → HasDropped first (known old.seat) old.node.core
    → HasDropped first (known old.seat) old.saved → (IsTrue ready → HoldsSaved may_leave old.saved)
    → ((x : Areas) → may_leave x → ∥ OpensToEither old.saved old.node.core x ∥₁)
    → IsImaged logs old.saved
    → HasDropped first (known new.seat) new.node.core
    × (HasDropped first (known new.seat) new.saved
    × ((IsTrue ready → HoldsSaved may_leave new.saved)
    × (((x : Areas) → may_leave x → ∥ OpensToEither new.saved new.node.core x ∥₁)
    × (IsImaged logs new.saved × Unit {0}))))
still-kept {first} {old} {new} may_leave still dropped saved opens left imaged = (
  dropped-as first (known old.seat) (known new.seat) old.node.core new.node.core still.took
      still.node dropped,
  (
    dropped-as first (known old.seat) (known new.seat) old.saved new.saved still.took still.saved
        saved,
    stays-left may_leave still.saved still.node opens left imaged,
  ),
)
