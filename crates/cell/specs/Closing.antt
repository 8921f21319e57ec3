-- Cells of one wire at one moment, and the space that continues from what they left on their disks.
use Rattle.std.specs.Prelude.{◌≡◌, ◌<◌, ◌≤◌, ℕ, IsTrue, List, [], ◌∷◌, length, map, slice_get, Some}
use Rattle.ids.specs.Limits.{Shaped}
use Rattle.ids.specs.declared.names.Ref.{Ref}
use Rattle.model.specs.State.{LocalState, Object, Occupied, register_at, slot_at}
use Rattle.model.specs.View.{link_to}
use Rattle.model.specs.World.{World, acknowledged, run}
use Rattle.model.specs.declared.step.Step.{Step}
use Rattle.model.specs.declared.step.Step.TheVariants as step
use Rattle.node.specs.Keeping.{WholeNode}
use Rattle.disk.specs.Areas.{Areas}
use Rattle.wire.specs.Readers.{known, seat_node}
use Rattle.wire.specs.Rule.{nodes_of}
use Rattle.cell.specs.Cells.{CellView, HoldsEither, IsSound}
use Rattle.cell.specs.Moments.{AreAtOnce, EachCell}
use Rattle.cell.specs.Opened.{AreBeside, IsReadFrom}
use Rattle.cell.specs.Reached.{AreHeld, BeginReached, IsReached}
use Rattle.cell.specs.Laws.{restarted}
use Rattle.cell.specs.Theorems.{AreLeft}

-- a cell of a wire that began in this world, with what its type guarantees
pub record IsCellOf {D : Type 0} (may_leave : D → Areas → Type 0) (opening : World)
    (c : CellView D) : Type 0 where
  pub sound : IsSound may_leave c
  pub began : (known c.seat).opening ≡ opening
  pub inside : seat_node c.seat < nodes_of opening

-- ---- What holds at one moment

-- The marking of the cycle has ended at the node. It has joined the cycle, has no grey object in
-- it, and counts its marking as ended if it is in a later one.
pub record IsOver (cycle : ℕ) (p : LocalState) : Type 0 where
  pub joined : cycle ≤ p.phases.cycle
  pub calm : p.phases.cycle ≡ cycle → p.heap.grey ≡ []
  pub later : cycle < p.phases.cycle → cycle ≤ p.phases.ended

-- If the node of one of the cells counts the marking of a cycle as ended, it has ended at the nodes
-- of all of them.
abbrev pub CellsAgree : {D : Type 0} → (D → Areas → Type 0) → Type 0
CellsAgree {D} may_leave =
    (opening : World) (cells : List (CellView D)) (i j cycle : ℕ) (c d : CellView D)
    → IsReached opening → EachCell (λ k x. IsCellOf may_leave opening x) cells
    → AreAtOnce opening cells → slice_get cells i ≡ Some c → slice_get cells j ≡ Some d
    → cycle ≤ c.node.core.local.phases.ended → IsOver cycle d.node.core.local

-- If a register of the node of one of the cells refers to an object of another one's node, that
-- node has the object.
abbrev pub CellsHaveNamed : {D : Type 0} → (D → Areas → Type 0) → Type 0
CellsHaveNamed {D} may_leave =
    (opening : World) (cells : List (CellView D)) (i j register : ℕ) (r : Ref) (c d : CellView D)
    → IsReached opening → EachCell (λ k x. IsCellOf may_leave opening x) cells
    → AreAtOnce opening cells → slice_get cells i ≡ Some c → slice_get cells j ≡ Some d
    → register_at c.node.core.local.heap register ≡ Some r → seat_node d.seat ≡ r.node
    → (o : Object) × (slot_at d.node.core.local.heap r.slot ≡ Occupied r.generation o)

-- ---- A closed space

-- the open cell of node k, in a space of this many nodes
pub record IsLast {D : Type 0} (may_leave : D → Areas → Type 0) (opening : World) (nodes k : ℕ)
    (c : CellView D) : Type 0 where
  pub of : IsCellOf may_leave opening c
  pub number : seat_node c.seat ≡ k
  pub ready : IsTrue c.is_open
  pub width : c.seat.nodes ≡ nodes

-- The node with which the cell was made had dropped only messages that were acknowledged when the
-- wire was made.
abbrev pub HasBegun : {D : Type 0} → CellView D → Type 0
HasBegun c =
    (to : ℕ) → to < nodes_of (known c.seat).opening
    → (link_to c.origin to).base ≤ acknowledged (known c.seat).opening (seat_node c.seat) to

abbrev pub HaveBegun : {D : Type 0} → List (CellView D) → Type 0
HaveBegun cells = EachCell (λ k c. HasBegun c) cells

-- The disks of a space whose wire began in this world, in order, as its open cells left them at
-- one moment.
pub record AreOfOneMoment {D : Type 0} (may_leave : D → Areas → Type 0) (opening : World)
    (disks : List D) : Type 0 where
  pub cells : List (CellView D)
  pub same : map (λ c. c.disk) cells ≡ disks
  pub count : length cells ≡ nodes_of opening
  pub each : EachCell (IsLast may_leave opening (nodes_of opening)) cells
  pub once : AreAtOnce opening cells
  pub begun : HaveBegun cells

-- The nodes are read from what the disks of these cells have, even after a crash.
abbrev pub AreReadAgain : {D : Type 0} → (D → Areas → Type 0) → Shaped → List (CellView D)
    → List WholeNode → Type 0
AreReadAgain {D} may_leave shape cells nodes =
    (k : ℕ) (c : CellView D) (n : WholeNode) → slice_get cells k ≡ Some c
    → slice_get nodes k ≡ Some n
    → (x : Areas) × may_leave c.disk x × IsReadFrom shape k x n

-- the cells of all nodes of a space, in order, at one moment, and the nodes that are read from
-- their disks
pub record AreClosed {D : Type 0} (may_leave : D → Areas → Type 0) (shape : Shaped)
    (opening : World) (cells : List (CellView D)) (nodes : List WholeNode) : Type 0 where
  pub reached : IsReached opening
  pub width : nodes_of opening ≡ shape.nodes
  pub count : length cells ≡ shape.nodes
  pub found : length nodes ≡ shape.nodes
  pub each : EachCell (IsLast may_leave opening shape.nodes) cells
  pub once : AreAtOnce opening cells
  pub read : AreReadAgain may_leave shape cells nodes

-- Such nodes are those that the cells left in the world of that moment.
abbrev pub ClosedIsLeft : {D : Type 0} → (D → Areas → Type 0) → Type 0
ClosedIsLeft {D} may_leave =
    (shape : Shaped) (opening : World) (cells : List (CellView D)) (nodes : List WholeNode)
    → (closed : AreClosed may_leave shape opening cells nodes)
    → AreLeft shape (run opening closed.once.log) nodes

-- If the first nodes had dropped only acknowledged messages, a run reaches the world of the nodes
-- that are read, and each of them still has what isn't acknowledged. So the same holds of the next
-- space, and of any number of spaces one after another.
abbrev pub ClosedIsReached : {D : Type 0} → (D → Areas → Type 0) → Type 0
ClosedIsReached {D} may_leave =
    (shape : Shaped) (opening : World) (cells : List (CellView D)) (nodes : List WholeNode)
    → AreClosed may_leave shape opening cells nodes → HaveBegun cells → BeginReached nodes

-- ---- A space that was killed

-- the cell of node k, open or closed, in a space of this many nodes
pub record IsOfNode {D : Type 0} (may_leave : D → Areas → Type 0) (opening : World) (nodes k : ℕ)
    (c : CellView D) : Type 0 where
  pub of : IsCellOf may_leave opening c
  pub number : seat_node c.seat ≡ k
  pub width : c.seat.nodes ≡ nodes

-- The nodes are read from what a kill left on these cells' disks. A cell's type says what that
-- is between two calls (`Cell::node`: `sound`), and a save and a reopening say what it is within
-- them (`any_moment`).
abbrev pub AreReadAfter : {D : Type 0} → Shaped → List (CellView D) → List WholeNode → Type 0
AreReadAfter {D} shape cells nodes =
    (k : ℕ) (c : CellView D) (n : WholeNode) → slice_get cells k ≡ Some c
    → slice_get nodes k ≡ Some n
    → (x : Areas) × HoldsEither c x × IsReadFrom shape k x n

-- The cells of all nodes of a space, in order, at the moment of a kill, and the nodes that are read
-- from their disks. One list of events leads to what the cells know. A cell that was in a save is
-- as it was before that.
pub record AreKilled {D : Type 0} (may_leave : D → Areas → Type 0) (shape : Shaped)
    (opening : World) (cells : List (CellView D)) (nodes : List WholeNode) : Type 0 where
  pub reached : IsReached opening
  pub width : nodes_of opening ≡ shape.nodes
  pub count : length cells ≡ shape.nodes
  pub found : length nodes ≡ shape.nodes
  pub each : EachCell (IsOfNode may_leave opening shape.nodes) cells
  pub once : AreAtOnce opening cells
  pub read : AreReadAfter shape cells nodes

-- all of the steps are saves
abbrev pub AreSaves : List Step → Type 0
AreSaves [] = Unit {0}
AreSaves (step.Save i ∷ ss) = AreSaves ss
AreSaves (s ∷ ss) = ⊥

-- The nodes are those that the space left in a world. It is the one of that moment, after the saves
-- that the disks hold already. If the first nodes had dropped only acknowledged messages, these
-- nodes have too.
pub record HaveSurvived {D : Type 0} {may_leave : D → Areas → Type 0} {shape : Shaped}
    {opening : World} {cells : List (CellView D)} {nodes : List WholeNode}
    (killed : AreKilled may_leave shape opening cells nodes) : Type 0 where
  pub saves : List Step
  pub are_saves : AreSaves saves
  pub left : AreLeft shape (run (run opening killed.once.log) saves) nodes
  pub held : HaveBegun cells
      → AreHeld nodes (restarted (run (run opening killed.once.log) saves))

abbrev pub KilledIsLeft : {D : Type 0} → (D → Areas → Type 0) → Type 0
KilledIsLeft {D} may_leave =
    (shape : Shaped) (opening : World) (cells : List (CellView D)) (nodes : List WholeNode)
    → (killed : AreKilled may_leave shape opening cells nodes) → HaveSurvived killed

-- The disks of a space whose wire began in this world, in order, as a kill at one moment left them.
pub record AreOfOneKill {D : Type 0} (seen : D → Areas) (may_leave : D → Areas → Type 0)
    (opening : World) (disks : List D) : Type 0 where
  pub cells : List (CellView D)
  pub count : length cells ≡ nodes_of opening
  pub as_many : length disks ≡ nodes_of opening
  pub each : EachCell (IsOfNode may_leave opening (nodes_of opening)) cells
  pub once : AreAtOnce opening cells
  pub begun : HaveBegun cells
  pub left : AreBeside (λ k c d. HoldsEither c (seen d)) cells disks
