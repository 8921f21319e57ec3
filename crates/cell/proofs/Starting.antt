-- The world in which an opening begins, by what its disks read as.
use Rattle.std.proofs.Common.{◌≡◌, ℕ, Bool, List, Some, length, slice_get, ◌∙◌, arith}
use Rattle.std.proofs.lemmas.Option.{slice_get_within}
use Rattle.ids.specs.Limits.{Shaped, IsShape}
use Rattle.model.specs.World.{World}
use Rattle.model.specs.declared.step.Step.{Step}
use Rattle.disk.specs.Areas.{Areas}
use Rattle.node.specs.Keeping.{WholeNode}
use Rattle.wire.specs.OneAge.{AreOfOneAge}
use Rattle.wire.proofs.Places.{some_at}
use Rattle.cell.specs.Ages.{IfAges, IsWhy}
use Rattle.cell.specs.Copies.{AreCopies, AreCopiesOn}
use Rattle.cell.specs.Opened.{AreBeside, IsReadFrom}
use Rattle.cell.specs.Reached.{BeginReached}
use Rattle.cell.specs.Theorems.{AreFresh, AreHeldOn, AreLeft, AreLeftOn}
use Rattle.cell.specs.declared.fault.Unopened.{Unopened}
use Rattle.cell.specs.declared.fault.Unopened.TheVariants.{Ages, Another, Disks, Failed, Memory}
use Rattle.cell.proofs.Copies.{copies-are-reached}
use Rattle.cell.proofs.OneAge.{begin-of-one-age, left-is-of-one-age, reopened-is-reached}
use Rattle.cell.proofs.Reaches.{fresh-reached}

-- the nodes that are read from these disks
abbrev pub AreReadOf : {D : Type 0} → (D → Areas) → Shaped → List D → List WholeNode → Type 0
AreReadOf seen shape disks nodes = AreBeside (λ k d n. IsReadFrom shape k (seen d) n) disks nodes

module _ {D : Type 0} (seen : D → Areas) (shape : Shaped) (disks : List D) where
  -- Nodes of one age are never refused because of their ages.
  pub never-apart : ((nodes : List WholeNode) → length nodes ≡ length disks
      → AreReadOf seen shape disks nodes → AreOfOneAge nodes) → (seals : D → Bool)
      → (moment faults : D → ℕ) → (e : Unopened) → IsWhy seen seals moment faults shape disks e
      → IfAges (λ sender receiver. ⊥) e
  never-apart ages seals moment faults (Ages i j) h =
      h.are.apart
      ((ages h.nodes h.count h.read).each i j h.are.sender h.are.receiver h.are.first h.are.second)
  never-apart ages seals moment faults Disks h = tt
  never-apart ages seals moment faults (Another k) h = tt
  never-apart ages seals moment faults (Failed k r) h = tt
  never-apart ages seals moment faults Memory h = tt

  -- so it is if a space may begin in the nodes that are read
  pub ages-never : ((nodes : List WholeNode) → length nodes ≡ length disks
      → AreReadOf seen shape disks nodes → BeginReached nodes) → (seals : D → Bool)
      → (moment faults : D → ℕ) → (e : Unopened) → IsWhy seen seals moment faults shape disks e
      → IfAges (λ sender receiver. ⊥) e
  ages-never begins =
      never-apart (λ nodes count read. begin-of-one-age nodes (begins nodes count read))

  -- the disk of a node
  disk-of : (nodes : List WholeNode) (k : ℕ) (n : WholeNode) → length nodes ≡ length disks
      → slice_get nodes k ≡ Some n → (d : D) × (slice_get disks k ≡ Some d)
  disk-of nodes k n count there =
      some_at disks k
      (let inside = slice_get_within nodes k n there in omega (arith, inside, count))

  -- a first opening
  pub fresh-begins : IsShape shape → AreFresh seen shape disks → (nodes : List WholeNode)
      → length nodes ≡ length disks → AreReadOf seen shape disks nodes → BeginReached nodes
  fresh-begins limits fresh nodes count read =
      fresh-reached shape nodes limits (count ∙ fresh.count)
      (λ k n there.
      (let d = disk-of nodes k n count there in (
        seen d.0,
        fresh.each k d.0 d.1,
        read k d.0 n d.1 there,
      )))

  -- the disks that a space left
  were-left : {w : World} → AreLeftOn seen shape w disks → (nodes : List WholeNode)
      → length nodes ≡ length disks → AreReadOf seen shape disks nodes → AreLeft shape w nodes
  were-left on nodes count read = record {
    reached = on.reached;
    width = on.width;
    count = count ∙ on.count;
    each = λ k n there.
        (let d = disk-of nodes k n count there in (
          seen d.0,
          on.each k d.0 d.1,
          read k d.0 n d.1 there,
        ));
  }

  pub left-begins : (w : World) → AreLeftOn seen shape w disks → (nodes : List WholeNode)
      → length nodes ≡ length disks → AreReadOf seen shape disks nodes → AreOfOneAge nodes
      → BeginReached nodes
  left-begins w on nodes count read ages =
      reopened-is-reached shape w nodes (were-left on nodes count read) ages

  pub left-ages : (w : World) → AreLeftOn seen shape w disks → AreHeldOn seen shape w disks
      → (nodes : List WholeNode) → length nodes ≡ length disks
      → AreReadOf seen shape disks nodes → AreOfOneAge nodes
  left-ages w on held nodes count read =
      left-is-of-one-age shape w nodes (were-left on nodes count read) (held nodes count read)

  -- the disks are copies of one run
  were-copied : {steps : List Step} → AreCopiesOn seen shape steps disks → (nodes : List WholeNode)
      → length nodes ≡ length disks → AreReadOf seen shape disks nodes
      → AreCopies shape steps nodes
  were-copied on nodes count read = record {
    states = on.states;
    width = on.width;
    count = count ∙ on.count;
    each = λ k n there.
        (let d = disk-of nodes k n count there in (
          seen d.0,
          on.each k d.0 d.1,
          read k d.0 n d.1 there,
        ));
  }

  pub copies-begin : {steps : List Step} → IsShape shape → AreCopiesOn seen shape steps disks
      → (nodes : List WholeNode) → length nodes ≡ length disks
      → AreReadOf seen shape disks nodes → AreOfOneAge nodes → BeginReached nodes
  copies-begin {steps = steps} limits on nodes count read ages =
      copies-are-reached shape steps nodes limits (were-copied on nodes count read) ages
