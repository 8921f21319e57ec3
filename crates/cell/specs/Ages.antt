-- Why the cells of a space couldn't be opened, among other things because their nodes aren't of one
-- moment.
use Rattle.std.specs.Prelude.{◌≡◌, ◌≢◌, ℕ, Bool, List, length}
use Rattle.ids.specs.Limits.{Shaped}
use Rattle.disk.specs.Areas.{Areas}
use Rattle.node.specs.Keeping.{WholeNode}
use Rattle.wire.specs.OneAge.{AreApart}
use Rattle.cell.specs.Opened.{AreBeside, HasAt, HoldsAnother, IsCause, IsReadFrom}
use Rattle.cell.specs.declared.fault.Unopened.{Unopened}
use Rattle.cell.specs.declared.fault.Unopened.TheVariants.{Ages, Another, Disks, Failed, Memory}

-- The nodes that are read from these disks, and a property of them. A disk is read as one node
-- only.
pub record AreRead {D : Type 0} (seen : D → Areas) (shape : Shaped) (disks : List D)
    (Are : List WholeNode → Type 0) : Type 0 where
  pub nodes : List WholeNode
  pub count : length nodes ≡ length disks
  pub read : AreBeside (λ k d n. IsReadFrom shape k (seen d) n) disks nodes
  pub are : Are nodes

-- Why the cells of a space couldn't be opened on these disks. A fault of one disk names its node.
abbrev pub IsWhy : {D : Type 0} → (D → Areas) → (D → Bool) → (D → ℕ) → (D → ℕ) → Shaped → List D
    → Unopened → Type 0
IsWhy seen seals moment faults shape disks Disks = length disks ≢ shape.nodes
IsWhy seen seals moment faults shape disks (Another node) =
    HasAt node (λ d. HoldsAnother shape node (seen d)) disks
IsWhy seen seals moment faults shape disks (Ages sender receiver) =
    AreRead seen shape disks (λ ns. AreApart ns sender receiver)
IsWhy seen seals moment faults shape disks (Failed node e) =
    HasAt node (λ d. IsCause seen seals moment faults shape node d e) disks
IsWhy seen seals moment faults shape disks Memory = Unit {0}

-- what holds of two nodes that are named as not of one age
abbrev pub IfAges : (ℕ → ℕ → Type 0) → Unopened → Type 0
IfAges P (Ages sender receiver) = P sender receiver
IfAges P e = Unit {0}
