-- A space that C makes and opens: what the calls do.
use Rattle.std.specs.Prelude.{◌≡◌, ℕ, ◌<◌, ◌≤◌, ◌++◌, [], ◌∷◌, true, false, All, List, map, replicate, slice_get, slice_set, Option, Some, None, Result, Ok, Err}
use Rattle.std.specs.Global.{Box, Vec}
use Rattle.std_alloc.specs.Box.{box_value}
use Rattle.ids.specs.Limits.{IsShape, Shaped}
use Rattle.ids.specs.declared.refusal.Refusal.TheVariants.{Memory, NoNode}
use Rattle.disk.specs.declared.memory.MemoryDisk.{MemoryDisk}
use Rattle.wire.specs.declared.seats.Wire.{Wire}
use Rattle.cell.specs.Cells.{CellView}
use Rattle.c_values.specs.declared.fault.Fault.{Fault}
use Rattle.c_values.specs.declared.fault.Fault.TheVariants as fault
use Rattle.c_handles.specs.Opening.{AreBegun, IsFreshIn, IsOnWire, IsWhy, cell_in, watch_in}
use Rattle.c_handles.specs.declared.seated.SeatedCell.{SeatedCell}
use Rattle.c_handles.specs.declared.watching.SeatedWatch.{SeatedWatch}
use Rattle.c_handles.specs.declared.space.SeatedSpace.{SeatedSpace}

-- ---- What the calls do

-- what a call that gives or takes something leaves as it is
pub record KeepsSizes (old new : SeatedSpace) : Type 0 where
  pub shape : new.shape ≡ old.shape
  pub watches : new.watches ≡ old.watches
  pub open_still : new.is_open ≡ old.is_open

-- a space that isn't open and has no image
pub record IsNewSpace (sizes : Shaped) (count : ℕ) (s : SeatedSpace) : Type 0 where
  pub shape : s.shape ≡ sizes
  pub watches : s.watches ≡ count
  pub shut : s.is_open ≡ false
  pub images : s.images.items ≡ replicate sizes.nodes None
  pub cells : s.cells.items ≡ replicate sizes.nodes None
  pub watching : s.watching.items ≡ []

-- such a space, or the reason why there isn't one
abbrev pub Made : Option Shaped → ℕ → Result SeatedSpace Fault → Type 0
Made None watches r = r ≡ Err fault.BadArgument
Made (Some sizes) watches (Ok s) = IsShape sizes × IsNewSpace sizes watches s
Made (Some sizes) watches (Err fault.BadArgument) = IsShape sizes → ⊥
Made (Some sizes) watches (Err (fault.Refused Memory)) = IsShape sizes
Made (Some sizes) watches (Err e) = ⊥

-- The image is the one of the node now, and replaces an earlier one; or nothing changes.
pub record Gave (node : ℕ) (bytes : List ℕ) (old new : SeatedSpace) : Type 0 where
  pub shut : old.is_open ≡ false
  pub inside : node < old.shape.nodes
  pub image : Vec ℕ
  pub copied : image.items ≡ bytes
  pub images : new.images.items ≡ slice_set old.images.items node (Some image)
  pub sizes : KeepsSizes old new
  pub cells : new.cells ≡ old.cells
  pub watching : new.watching ≡ old.watching

abbrev pub Given : ℕ → List ℕ → SeatedSpace → SeatedSpace → Result (Unit {0}) Fault → Type 0
Given node bytes old new (Ok u) = Gave node bytes old new
Given node bytes old new (Err fault.InUse) = (old.is_open ≡ true) × (new ≡ old)
Given node bytes old new (Err (fault.Refused NoNode)) =
    (old.is_open ≡ false) × (old.shape.nodes ≤ node) × (new ≡ old)
Given node bytes old new (Err (fault.Refused Memory)) =
    (old.is_open ≡ false) × (node < old.shape.nodes) × (new ≡ old)
Given node bytes old new (Err e) = ⊥

-- The space is open, and has all its cells and watches. Its images are dropped.
pub record IsOpened (old new : SeatedSpace) : Type 0 where
  pub wire : Wire
  pub cells : List (CellView MemoryDisk)
  pub begun : AreBegun old.shape old.images.items old.watches wire cells
      (map watch_in new.watching.items)
  pub held : map cell_in new.cells.items ≡ map Some cells
  pub fresh : All (IsFreshIn wire) new.cells.items
  pub on_wire : All (IsOnWire wire) new.watching.items
  pub opened : new.is_open ≡ true
  pub images : new.images.items ≡ replicate old.shape.nodes None
  pub shape : new.shape ≡ old.shape
  pub watches : new.watches ≡ old.watches

-- The space is opened; or nothing changes, and the fault says why.
abbrev pub Opens : SeatedSpace → SeatedSpace → Result (Unit {0}) Fault → Type 0
Opens old new (Ok u) = (old.is_open ≡ false) × IsOpened old new
Opens old new (Err fault.InUse) = (old.is_open ≡ true) × (new ≡ old)
Opens old new (Err e) =
    (old.is_open ≡ false) × IsWhy old.shape old.images.items e × (new ≡ old)

-- The cell of the node is taken out of its place, and nothing else changes.
pub record TookOut (node : ℕ) (old new : SeatedSpace) (c : SeatedCell) : Type 0 where
  pub box : Box SeatedCell
  pub is : box_value box ≡ c
  pub there : slice_get old.cells.items node ≡ Some (Some box)
  pub cells : new.cells.items ≡ slice_set old.cells.items node None
  pub sizes : KeepsSizes old new
  pub images : new.images ≡ old.images
  pub watching : new.watching ≡ old.watching

-- There is no cell in the node's place, and nothing changes.
pub record HadNoCell (node : ℕ) (old new : SeatedSpace) : Type 0 where
  pub none : slice_get old.cells.items node ≡ Some None
  pub still : new.cells.items ≡ old.cells.items
  pub sizes : KeepsSizes old new
  pub images : new.images ≡ old.images
  pub watching : new.watching ≡ old.watching

abbrev pub TakesCell : ℕ → SeatedSpace → SeatedSpace → Result SeatedCell Fault → Type 0
TakesCell node old new (Ok c) = TookOut node old new c
TakesCell node old new (Err (fault.Refused NoNode)) =
    (old.shape.nodes ≤ node) × (new ≡ old)
TakesCell node old new (Err fault.Nothing) = HadNoCell node old new
TakesCell node old new (Err e) = ⊥

-- The last watch is taken out, and nothing else changes.
pub record TookWatch (old new : SeatedSpace) (w : SeatedWatch) : Type 0 where
  pub box : Box SeatedWatch
  pub is : box_value box ≡ w
  pub watching : old.watching.items ≡ new.watching.items ++ box ∷ []
  pub sizes : KeepsSizes old new
  pub images : new.images ≡ old.images
  pub cells : new.cells ≡ old.cells

-- There is no watch to take out, and nothing changes.
pub record HadNoWatch (old new : SeatedSpace) : Type 0 where
  pub none : old.watching.items ≡ []
  pub still : new.watching.items ≡ []
  pub sizes : KeepsSizes old new
  pub images : new.images ≡ old.images
  pub cells : new.cells ≡ old.cells

abbrev pub TakesWatch : SeatedSpace → SeatedSpace → Result SeatedWatch Fault → Type 0
TakesWatch old new (Ok w) = TookWatch old new w
TakesWatch old new (Err fault.Nothing) = HadNoWatch old new
TakesWatch old new (Err e) = ⊥

-- what a box in a result holds
abbrev pub taken : {X : Type 0} → Result (Box X) Fault → Result X Fault
taken (Ok b) = Ok (box_value b)
taken (Err e) = Err e

-- ---- The same for what handles hold

-- The space is taken out of its handle if the test of another was passed. Else it stays.
abbrev pub TakenTested : Result (Unit {0}) Fault → Option SeatedSpace → Option SeatedSpace
    → Result (Box SeatedSpace) Fault → Type 0
TakenTested tested None now r = (now ≡ None) × (r ≡ Err fault.NoHandle)
TakenTested (Err e) (Some space) now r = (now ≡ Some space) × (r ≡ Err e)
TakenTested (Ok u) (Some space) now (Ok box) = (now ≡ None) × (box_value box ≡ space)
TakenTested (Ok u) (Some space) now (Err e) = ⊥

-- What a call takes out of a space goes into an empty handle. If either handle isn't as the call
-- needs it, or if there is nothing to take, all stays as it is.
abbrev pub Moved : {X : Type 0} → (SeatedSpace → SeatedSpace → Result X Fault → Type 0)
    → Option SeatedSpace → Option SeatedSpace → Option X → Option X → Result (Unit {0}) Fault
    → Type 0
Moved Takes None space held now r =
    (space ≡ None) × (now ≡ held) × (r ≡ Err fault.NoHandle)
Moved Takes (Some old) space (Some x) now r =
    (space ≡ Some old) × (now ≡ Some x) × (r ≡ Err fault.InUse)
Moved Takes (Some old) (Some new) None (Some x) (Ok u) = Takes old new (Ok x)
Moved Takes (Some old) (Some new) None None (Err e) = Takes old new (Err e)
Moved Takes (Some old) space None now r = ⊥
