-- Nodes in their stores, and a wire between them.
use Rattle.std.specs.Prelude.{◌≡◌, ◌⊎◌, ℕ, Bool, true, false, List, ◌++◌, length, map, replicate, Some, slice_get}
use Rattle.ids.specs.Limits.{Shaped}
use Rattle.ids.specs.declared.refusal.Refusal.{Refusal}
use Rattle.ids.specs.declared.refusal.Refusal.TheVariants.{BadImage, Disk, ImageTooLarge}
use Rattle.ids.specs.declared.saves.Saves.{Saves}
use Rattle.ids.specs.declared.saves.Saves.TheVariants.{Events, Images}
use Rattle.msg.specs.declared.body.Body.TheVariants as body
use Rattle.msg.specs.declared.body.Message.{Message}
use Rattle.model.specs.State.{NodeState}
use Rattle.model.specs.View.{Link, NodeView}
use Rattle.model.specs.World.{World}
use Rattle.wire.specs.declared.seats.NodeSeat.{NodeSeat}
use Rattle.disk.specs.Areas.{Areas, IsBlank}
use Rattle.disk.specs.Crashes.{HasFailed}
use Rattle.disk_shelf.specs.Seals.{IsIntact}
use Rattle.node.specs.Keeping.{WholeNode, new_whole}
use Rattle.image.specs.Wholes.{IsWholeTooLarge}
use Rattle.node_store.specs.Plain.{IsPlain}
use Rattle.cell.specs.Desks.{IsAtSeat}
use Rattle.cell.specs.Disks.{OpensTo, OpensToNode}
use Rattle.cell.specs.declared.fault.Unopened.{Unopened}
use Rattle.cell.specs.declared.fault.Unopened.TheVariants.{Ages, Another, Disks, Failed, Memory}

-- the cores of nodes, which are what is saved
abbrev pub cores : List WholeNode → List NodeView
cores ns = map (λ n. n.core) ns

-- the node of this number in a space of this shape
pub record IsNodeOf (shape : Shaped) (own : ℕ) (n : NodeView) : Type 0 where
  pub shaped : n.local.shape ≡ shape
  pub numbered : n.local.own ≡ own

-- the node of this number, from a disk that reads as `seen`: a new one if nothing was ever created
-- there, else the one that the disk opens to
pub record IsReadFrom (shape : Shaped) (own : ℕ) (seen : Areas) (n : WholeNode) : Type 0 where
  pub blank : IsBlank seen → n ≡ new_whole shape own
  pub held : (IsBlank seen → ⊥) → OpensToNode n seen

-- What a crash leaves on a node's disk during an opening: what it could have left before. If
-- nothing was ever created on the disk, it may also leave another such disk, or the new node.
abbrev pub StaysOrNew : {D : Type 0} → (D → Areas) → (D → Areas → Type 0) → Shaped → ℕ → D → Areas
    → Type 0
StaysOrNew seen may_leave shape own disk c =
    may_leave disk c
    ⊎ (IsBlank (seen disk) × (IsBlank c ⊎ OpensToNode (new_whole shape own) c))

-- a disk that reads as `seen` holds the node of another space, or one with another number
pub record HoldsAnother (shape : Shaped) (own : ℕ) (seen : Areas) : Type 0 where
  pub node : NodeView
  pub opens : OpensTo node seen
  pub is_other : IsNodeOf shape own node → ⊥

-- no seal of this disk was compared
abbrev pub unsealed : {D : Type 0} → D → Bool
unsealed d = false

-- Something was created on a disk that reads as `seen`, and it opens to no node; or the disk seals
-- what is saved on it, and isn't intact.
pub record HoldsNone (seals : Bool) (seen : Areas) : Type 0 where
  pub written : IsBlank seen → ⊥
  pub none : (n : WholeNode) → OpensToNode n seen → (seals ≡ true → IsIntact seen) → ⊥

-- nothing was created on a disk that reads as `seen`, and the new node's image is too large
pub record IsTooLarge (shape : Shaped) (own : ℕ) (seen : Areas) : Type 0 where
  pub blank : IsBlank seen
  pub large : IsWholeTooLarge (new_whole shape own)

-- why opening the node of this number from a disk fails, other than for lack of memory
abbrev pub IsCause : {D : Type 0} → (D → Areas) → (D → Bool) → (D → ℕ) → (D → ℕ) → Shaped → ℕ → D
    → Refusal → Type 0
IsCause seen seals moment faults shape own disk Disk = HasFailed moment faults disk
IsCause seen seals moment faults shape own disk BadImage = HoldsNone (seals disk) (seen disk)
IsCause seen seals moment faults shape own disk ImageTooLarge = IsTooLarge shape own (seen disk)
IsCause seen seals moment faults shape own disk e = ⊥

-- why the node of this number wasn't read from this disk, or wasn't created there
abbrev pub IsWhyNot : {D : Type 0} → (D → Areas) → (D → Bool) → (D → ℕ) → (D → ℕ) → Shaped → ℕ → D
    → Unopened → Type 0
IsWhyNot seen seals moment faults shape own disk Disks = ⊥
IsWhyNot seen seals moment faults shape own disk (Another node) =
    (node ≡ own) × HoldsAnother shape own (seen disk)
IsWhyNot seen seals moment faults shape own disk (Ages sender receiver) = ⊥
IsWhyNot seen seals moment faults shape own disk (Failed node e) =
    (node ≡ own) × IsCause seen seals moment faults shape own disk e
IsWhyNot seen seals moment faults shape own disk Memory = Unit {0}

-- a list has a value at this place, of which a property holds
pub record HasAt {X : Type 0} (place : ℕ) (Is : X → Type 0) (xs : List X) : Type 0 where
  pub value : X
  pub there : slice_get xs place ≡ Some value
  pub is : Is value

-- a property holds at each place of two lists
abbrev pub AreBeside : {X Y : Type 0} → (ℕ → X → Y → Type 0) → List X → List Y → Type 0
AreBeside {X} {Y} Is xs ys =
    (k : ℕ) (x : X) (y : Y) → slice_get xs k ≡ Some x → slice_get ys k ≡ Some y → Is k x y

-- Whether saves add events to a log, on a disk that read as `seen` when it was opened: as the
-- caller chose, except that a disk that has a log keeps it.
pub record IsChosen (saves : Saves) (seen : Areas) (logs : Bool) : Type 0 where
  pub events : saves ≡ Events → logs ≡ true
  pub images : saves ≡ Images → IsPlain seen → logs ≡ false

-- For any meaning of `Lies`: the nodes of a shape in order, each on the shelf in its place.
pub record AreFound {S : Type 0} (Lies : WholeNode → S → Type 0) (shape : Shaped)
    (nodes : List WholeNode) (shelves : List S) : Type 0 where
  pub same : length shelves ≡ length nodes
  pub each : (k : ℕ) (n : WholeNode) (s : S) → slice_get nodes k ≡ Some n
      → slice_get shelves k ≡ Some s → IsNodeOf shape k n.core × Lies n s

-- A world whose states the nodes show, with all their messages saved. What was acknowledged isn't
-- kept anywhere, so any message may be in its place.
abbrev pub no_message : Message
no_message = record { stamp = 0; body = body.Begin }

abbrev pub sent_of : Link → List Message
sent_of l = replicate l.base no_message ++ l.unacknowledged

abbrev pub state_of : NodeView → NodeState
state_of n = record { local = n.local; sent = map sent_of n.links }

abbrev pub world_of : List NodeView → World
world_of nodes = record { current = map state_of nodes; saved = map state_of nodes }

-- a node on its shelf, at its own seat
pub record IsReady {S : Type 0} (Lies : WholeNode → S → Type 0) (n : WholeNode) (s : S)
    (seat : NodeSeat) : Type 0 where
  pub stands : IsAtSeat n.core seat
  pub lies : Lies n s

-- nodes, each with its shelf and its seat in the same place
pub record AreReady {S : Type 0} (Lies : WholeNode → S → Type 0) (nodes : List WholeNode)
    (shelves : List S) (seats : List NodeSeat) : Type 0 where
  pub shelved : length shelves ≡ length nodes
  pub seated : length seats ≡ length nodes
  pub each : (k : ℕ) (n : WholeNode) (s : S) (seat : NodeSeat) → slice_get nodes k ≡ Some n
      → slice_get shelves k ≡ Some s → slice_get seats k ≡ Some seat → IsReady Lies n s seat
