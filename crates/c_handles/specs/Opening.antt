-- How a space is opened: the nodes that it begins with, and its cells and watches in their places.
use Rattle.std.specs.Prelude.{◌≡◌, ℕ, ◌≤◌, [], ◌∷◌, false, All, List, length, map, slice_get, Option, Some, None}
use Rattle.std.specs.Arc.{arc_value}
use Rattle.std.specs.Global.{Box, Vec}
use Rattle.std.specs.Option.{option_map}
use Rattle.std_alloc.specs.Box.{box_value}
use Rattle.ids.specs.Limits.{Shaped}
use Rattle.ids.specs.declared.refusal.Refusal.TheVariants.{BadImage, Disk, ImageTooLarge, Memory}
use Rattle.model.specs.View.{NodeView}
use Rattle.node.specs.Keeping.{WholeNode, new_whole}
use Rattle.image.specs.Nodes.{IsImageOf}
use Rattle.image.specs.Wholes.{IsWholeOf, IsWholeTooLarge}
use Rattle.disk.specs.Areas.{Areas}
use Rattle.disk.specs.Memory.{blank}
use Rattle.disk_shelf.specs.Shelf.{record_of}
use Rattle.disk_shelf.specs.declared.persist.TheConstants.{GREATEST_SAVED}
use Rattle.image_parts.specs.Layouts.{IsTooLong, says_wide}
use Rattle.disk.specs.declared.memory.MemoryDisk.{MemoryDisk}
use Rattle.wire.specs.Readers.{IsMade}
use Rattle.wire.specs.declared.seats.Watch.{Watch}
use Rattle.wire.specs.declared.seats.Wire.{Wire}
use Rattle.wire.specs.OneAge.{AreApart, AreOfOneAge}
use Rattle.cell.specs.Cells.{CellView, IsNew}
use Rattle.cell.specs.Opened.{AreBeside, IsNodeOf, cores, world_of}
use Rattle.cell.specs.declared.fault.Unopened.{Unopened}
use Rattle.cell.specs.declared.fault.Unopened.TheVariants as unopened
use Rattle.c_values.specs.declared.fault.Fault.{Fault}
use Rattle.c_values.specs.declared.fault.Fault.TheVariants as fault
use Rattle.c_handles.specs.Gone.{untracked}
use Rattle.c_handles.specs.declared.seated.SeatedCell.{SeatedCell}
use Rattle.c_handles.specs.declared.watching.SeatedWatch.{SeatedWatch}

-- the image that was given for a node, if any
abbrev pub Image : Type 0
Image = Option (Vec ℕ)

abbrev pub Seat : Type 0
Seat = Option (Box SeatedCell)

-- what the disk has that is made for a node: nothing, or the image
abbrev pub areas_in : Image → Areas
areas_in None = blank
areas_in (Some image) = record { select = 0 ∷ []; a = record_of image.items; b = [] }

-- what was given is no longer than an image may be
abbrev pub IsShort : Image → Type 0
IsShort None = Unit {0}
IsShort (Some image) =
    (length image.items ≤ GREATEST_SAVED)
    × (IsTooLong (says_wide image.items) (length image.items) → ⊥)

-- a place of a list at which a property holds
pub record HasPlace {X : Type 0} (Is : ℕ → X → Type 0) (xs : List X) : Type 0 where
  pub place : ℕ
  pub value : X
  pub there : slice_get xs place ≡ Some value
  pub is : Is place value

-- a property holds of each element of a list
abbrev pub EachOf : {X : Type 0} → (X → Type 0) → List X → Type 0
EachOf {X} P xs = (k : ℕ) (x : X) → slice_get xs k ≡ Some x → P x

-- the node of this number: a new one, or the one of the image that was given
abbrev pub Begins : Shaped → ℕ → Image → WholeNode → Type 0
Begins shape own None n = n ≡ new_whole shape own
Begins shape own (Some image) n = IsWholeOf image.items n

-- The cells of new or given nodes that are of one age, in order, on a wire that begins in their
-- world, and this many watches of it. Each save of them writes the image.
pub record AreBegun (shape : Shaped) (images : List Image) (watches : ℕ) (wire : Wire)
    (cells : List (CellView MemoryDisk)) (watching : List Watch) : Type 0 where
  pub count : length cells ≡ shape.nodes
  pub read : AreBeside (λ k i n. Begins shape k i n) images (map (λ c. c.node) cells)
  pub shaped : (k : ℕ) (n : WholeNode) → slice_get (map (λ c. c.node) cells) k ≡ Some n
      → IsNodeOf shape k n.core
  pub one_age : AreOfOneAge (map (λ c. c.node) cells)
  pub new : All IsNew cells
  pub logs : EachOf (λ c. c.logs ≡ false) cells
  pub made : IsMade (world_of (cores (map (λ c. c.node) cells))) watches wire
      (map (λ c. c.seat) cells) watching

-- the image of another node was given, or of a space of another shape
abbrev pub HoldsOther : Shaped → ℕ → Image → Type 0
HoldsOther shape own None = ⊥
HoldsOther shape own (Some image) =
    (n : NodeView) × IsImageOf image.items n × (IsNodeOf shape own n → ⊥)

-- what was given is no image, or a longer one than an image may be
abbrev pub HoldsNoImage : Image → Type 0
HoldsNoImage None = ⊥
HoldsNoImage (Some image) =
    (n : WholeNode) → IsShort (Some image) → IsWholeOf image.items n → ⊥

-- no image was given, and that of the new node would be too large
abbrev pub IsTooLarge : Shaped → ℕ → Image → Type 0
IsTooLarge shape own (Some image) = ⊥
IsTooLarge shape own None = IsWholeTooLarge (new_whole shape own)

-- the new or given nodes, of which these two aren't of one age
pub record AreOfTwoAges (shape : Shaped) (images : List Image) (sender receiver : ℕ) : Type 0 where
  pub nodes : List WholeNode
  pub count : length nodes ≡ length images
  pub read : AreBeside (λ k i n. Begins shape k i n) images nodes
  pub apart : AreApart nodes sender receiver

-- Why the cells couldn't be made. `Disk` comes if a disk in memory couldn't grow.
abbrev pub IsWhy : Shaped → List Image → Fault → Type 0
IsWhy shape images fault.WrongDisks = HasPlace (λ k i. HoldsOther shape k i) images
IsWhy shape images (fault.Ages sender receiver) = AreOfTwoAges shape images sender receiver
IsWhy shape images (fault.Refused BadImage) = HasPlace (λ k i. HoldsNoImage i) images
IsWhy shape images (fault.Refused ImageTooLarge) = HasPlace (λ k i. IsTooLarge shape k i) images
IsWhy shape images (fault.Refused Memory) = Unit {0}
IsWhy shape images (fault.Refused Disk) = Unit {0}
IsWhy shape images e = ⊥

-- the fault for each reason
abbrev pub fault_of : Unopened → Fault
fault_of unopened.Disks = fault.WrongDisks
fault_of (unopened.Another node) = fault.WrongDisks
fault_of (unopened.Ages sender receiver) = fault.Ages sender receiver
fault_of (unopened.Failed node e) = fault.Refused e
fault_of unopened.Memory = fault.Refused Memory

-- ---- Cells and watches in their places

abbrev pub cell_in : Seat → Option (CellView MemoryDisk)
cell_in = option_map (λ (b : Box SeatedCell). (box_value b).cell)

abbrev pub watch_in : Box SeatedWatch → Watch
watch_in b = (box_value b).watch

-- The cell is on this wire, no image of it was taken, and no list is kept of what is gone.
pub record IsFresh (wire : Wire) (c : SeatedCell) : Type 0 where
  pub on : arc_value c.wire ≡ wire
  pub mark : c.mark ≡ 0
  pub fresh : c.is_fresh ≡ false
  pub gone : c.gone ≡ untracked

abbrev pub IsFreshIn : Wire → Seat → Type 0
IsFreshIn wire None = ⊥
IsFreshIn wire (Some b) = IsFresh wire (box_value b)

abbrev pub IsOnWire : Wire → Box SeatedWatch → Type 0
IsOnWire wire b = arc_value (box_value b).wire ≡ wire
