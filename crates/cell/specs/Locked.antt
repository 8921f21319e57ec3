-- What is known of a call of a cell that other threads use too.
use Rattle.std.specs.Prelude.{◌≡◌, ◌⊎◌, false, IsErrOf, IsTrue, Option, Result}
use Rattle.ids.specs.declared.refusal.Refusal.{Refusal}
use Rattle.ids.specs.declared.refusal.Refusal.TheVariants.{Closed}
use Rattle.model.specs.declared.event.Event.{Event}
use Rattle.model.specs.declared.event.Answer.{Answer}
use Rattle.disk.specs.Areas.{Areas}
use Rattle.node.specs.Keeping.{met, own_step}
use Rattle.wire.specs.Readers.{known}
use Rattle.cell.specs.Cells.{CellView, GoesOn, IsSound}
use Rattle.cell.specs.Events.{Given}
use Rattle.cell.specs.Names.{Name, IsNamed, seat_name}

-- A cell at the moment when a call had locked it, on its own disk. If a wire is named, its seat
-- is one of that.
pub record IsLocked {D : Type 0} (may_leave : D → Areas → Type 0) (wire : Option Name)
    (c : CellView D) : Type 0 where
  pub sound : IsSound may_leave c
  pub name : IsNamed wire (seat_name c.seat)

-- What a call did with a cell that it had locked: the node was given the event, and the cell is
-- afterwards as that leaves it.
pub record WasGiven {D : Type 0} (may_leave : D → Areas → Type 0) (wire : Option Name) (e : Event)
    (result : Result Answer Refusal) : Type 0 where
  pub before : CellView D
  pub after : CellView D
  pub locked : IsLocked may_leave wire before
  pub ready : IsTrue before.is_open
  pub given : Given e (met before.node.early e)
      (own_step before.node.early (known before.seat).me e) result before.node after.node
      (known before.seat) (known after.seat)
  pub goes_on : GoesOn before after

-- a call found the cell closed
pub record WasShut {D : Type 0} (may_leave : D → Areas → Type 0) (wire : Option Name) : Type 0
  where
    pub before : CellView D
    pub locked : IsLocked may_leave wire before
    pub shut : before.is_open ≡ false

-- the node answered the event, or the cell was closed
abbrev pub WasAnswered : {D : Type 0} → (D → Areas → Type 0) → Option Name → Event
    → Result Answer Refusal → Type 0
WasAnswered may_leave wire e result =
    (IsErrOf result Closed × WasShut may_leave wire) ⊎ WasGiven may_leave wire e result
