-- Disks that are read before anything is created on them.
use Rattle.std.specs.Prelude.{◌≡◌, ◌≤◌, ℕ, Bool, true, false, List, Option, Some, None, length, slice_get}
use Rattle.ids.specs.Limits.{Shaped}
use Rattle.ids.specs.declared.refusal.Refusal.TheVariants.{BadImage}
use Rattle.ids.specs.declared.saves.Saves.{Saves}
use Rattle.ids.specs.declared.saves.Saves.TheVariants.{Events, Images}
use Rattle.disk.specs.Areas.{Areas}
use Rattle.disk.specs.Crashes.{Unmoved, StaysBlank}
use Rattle.disk_shelf.specs.Seals.{IsIntact}
use Rattle.disk_journal.specs.declared.journal.Tail.{Tail}
use Rattle.node_store.specs.Stores.{LiesAt}
use Rattle.node.specs.Keeping.{WholeNode, new_whole}
use Rattle.cell.specs.Disks.{OpensToNode}
use Rattle.cell.specs.Opened.{IsNodeOf, IsReadFrom}
use Rattle.cell.specs.declared.fault.Unopened.{Unopened}
use Rattle.cell.specs.declared.fault.Unopened.TheVariants.{Ages, Another, Disks, Failed, Memory}

-- Of each disk, neither what it holds has changed nor what a crash may leave.
pub record AreUnmoved {D : Type 0} (seen : D → Areas) (may_leave : D → Areas → Type 0)
    (moment : D → ℕ) (left_since : D → ℕ → Areas → Type 0) (old new : List D) : Type 0 where
  pub count : length new ≡ length old
  pub each : (k : ℕ) (d e : D) → slice_get old k ≡ Some d → slice_get new k ≡ Some e
      → Unmoved seen may_leave moment left_since d e

-- Of each disk that seals what is saved on it, nothing that counts has changed.
abbrev pub AreIntact : {D : Type 0} → (D → Areas) → (D → Bool) → List D → Type 0
AreIntact {D} seen seals disks =
    (k : ℕ) (d : D) → slice_get disks k ≡ Some d → seals d ≡ true → IsIntact (seen d)

-- The disk holds the node in this place. Without a place, nothing was ever created on the disk, and
-- the node is new.
abbrev pub HoldsNode : {D : Type 0} → (D → Areas) → (D → Areas → Type 0) → D → WholeNode
    → Option Tail → Type 0
HoldsNode seen may_leave disk n None =
    StaysBlank (may_leave disk) × (n ≡ new_whole n.core.local.shape n.core.local.own)
HoldsNode seen may_leave disk n (Some place) =
    LiesAt seen may_leave disk place × OpensToNode n (seen disk)

-- whether saves of a node that was found in this place add events to a log
abbrev pub logs_at : Saves → Option Tail → Bool
logs_at saves (Some place) = place.logs
logs_at Events None = true
logs_at Images None = false

-- Nodes of a shape, in order, each with its disk and the place that holds it.
pub record AreOn {D : Type 0} (seen : D → Areas) (may_leave : D → Areas → Type 0) (shape : Shaped)
    (disks : List D) (nodes : List WholeNode) (places : List (Option Tail)) : Type 0 where
  pub nodes_count : length nodes ≡ length disks
  pub places_count : length places ≡ length disks
  pub each : (k : ℕ) (d : D) (n : WholeNode) (place : Option Tail) → slice_get disks k ≡ Some d
      → slice_get nodes k ≡ Some n → slice_get places k ≡ Some place
      → IsNodeOf shape k n.core × HoldsNode seen may_leave d n place

-- the disk of node k before it was read and after, and what was read
pub record IsLookedAt {D : Type 0} (seen : D → Areas) (may_leave : D → Areas → Type 0)
    (faults : D → ℕ) (shape : Shaped) (k : ℕ) (old new : D) (n : WholeNode)
    (place : Option Tail) : Type 0 where
  pub node : IsNodeOf shape k n.core
  pub holds : HoldsNode seen may_leave new n place
  pub read : IsReadFrom shape k (seen old) n
  pub fine : faults new ≡ faults old

-- The first disks of a space, up to this number, were read; the others are as they were.
pub record AreLookedAt {D : Type 0} (seen : D → Areas) (may_leave : D → Areas → Type 0)
    (faults : D → ℕ) (shape : Shaped) (number : ℕ) (old new : List D) (nodes : List WholeNode)
    (places : List (Option Tail)) : Type 0 where
  pub nodes_count : length nodes ≡ number
  pub places_count : length places ≡ number
  pub each : (k : ℕ) (d e : D) (n : WholeNode) (place : Option Tail)
      → slice_get old k ≡ Some d → slice_get new k ≡ Some e → slice_get nodes k ≡ Some n
      → slice_get places k ≡ Some place → IsLookedAt seen may_leave faults shape k d e n place
  pub rest : (k : ℕ) → number ≤ k → slice_get new k ≡ slice_get old k

-- the errors of an opening that come before anything is created
abbrev pub IsOfReading : Unopened → Type 0
IsOfReading Disks = Unit {0}
IsOfReading (Another node) = Unit {0}
IsOfReading (Ages sender receiver) = Unit {0}
IsOfReading (Failed node e) = e ≡ BadImage
IsOfReading Memory = ⊥
