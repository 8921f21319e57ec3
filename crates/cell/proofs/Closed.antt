-- What a closed space left on its disks is the world in which the next one begins.
use Rattle.std.proofs.Common.{◌≡◌, ◌≤◌, ◌<◌, ℕ, Bool, All, List, [], Some, length, map, sym, ap, ◌∙◌, subst, slice_get, arith}
use Rattle.std.proofs.lemmas.List.{length-map}
use Rattle.std.proofs.lemmas.List.Elements.{All-get_or}
use Rattle.std.proofs.lemmas.Option.{get_or_from_slice_get, slice_get_within}
use Rattle.ids.specs.Limits.{Shaped}
use Rattle.model.specs.State.{NodeState, got_from, node_at}
use Rattle.model.specs.View.{NodeView, link_to}
use Rattle.model.specs.World.{World, acknowledged, run}
use Rattle.laws.proofs.KeepsSent.{run-count}
use Rattle.disk.specs.Areas.{Areas}
use Rattle.node.specs.Keeping.{WholeNode}
use Rattle.wire.specs.Readers.{known, seat_node}
use Rattle.wire.specs.Rule.{nodes_of}
use Rattle.wire.specs.Views.{Pair}
use Rattle.wire.specs.OneAge.{AreOfOneAge}
use Rattle.cell.specs.Ages.{AreRead, IfAges, IsWhy}
use Rattle.cell.specs.Cells.{CellView, IsNew}
use Rattle.cell.specs.Closing.{AreClosed, AreOfOneMoment, ClosedIsLeft, ClosedIsReached, HaveBegun, IsLast}
use Rattle.cell.specs.Desks.{IsSavedNode}
use Rattle.cell.specs.Laws.{restarted, IsLeft}
use Rattle.cell.specs.Moments.{EachCell}
use Rattle.cell.specs.Opened.{cores, state_of, world_of}
use Rattle.cell.specs.Reached.{AreHeld, BeginReached, IsReached}
use Rattle.cell.specs.Theorems.{AreLeft}
use Rattle.cell.specs.declared.fault.Unopened.{Unopened}
use Rattle.cell.proofs.Holding.{saved-count, still-held}
use Rattle.cell.proofs.Left.{left-node, left-opened, restarted-reached}
use Rattle.cell.proofs.OneAge.{at-place}
use Rattle.cell.proofs.Starting.{ages-never}
use Rattle.wire.proofs.Places.{mapped-there, some_at}
use Rattle.cell.proofs.Reaches.{stays-reached, world-of-reached}
use Rattle.cell.proofs.Together.{pair-there}

module _ {D : Type 0} {may_leave : D → Areas → Type 0} {shape : Shaped} {opening : World}
    {cells : List (CellView D)} {nodes : List WholeNode}
    (h : AreClosed may_leave shape opening cells nodes) where
  -- the cell of node k
  cell-of : (k : ℕ) (n : WholeNode) → slice_get nodes k ≡ Some n
      → (c : CellView D) × (slice_get cells k ≡ Some c)
  cell-of k n there =
      some_at cells k
      (let inside = slice_get_within nodes k n there in
      let many = h.count in
      let few = h.found in
      omega (arith, inside, many, few))

  cell-left : (k : ℕ) (c : CellView D) (x : Areas) → slice_get cells k ≡ Some c
      → may_leave c.disk x
      → IsLeft k shape.nodes (node_at (run opening h.once.log).saved k) x
  cell-left k c x there may =
      let last = h.each k c there in
      let is : node_at (run opening h.once.log).saved k ≡ (known c.seat).pair.saved =
      ap (λ (i : ℕ). node_at (run opening h.once.log).saved i) (sym last.number)
      ∙ ap (λ (p : Pair). p.saved)
      (pair-there may_leave opening h.once.log c last.of (h.once.each k c there)) in
      record {
        node = c.saved;
        saved = subst (λ (s : NodeState). IsSavedNode k shape.nodes s c.saved) (sym is)
            (subst (λ (i : ℕ). IsSavedNode i shape.nodes (known c.seat).pair.saved c.saved)
            last.number
            (subst
            (λ (i : ℕ). IsSavedNode (seat_node c.seat) i (known c.seat).pair.saved c.saved)
            last.width last.of.sound.was));
        opens = last.of.sound.while_open last.ready x may;
      }

  pub are-left : AreLeft shape (run opening h.once.log) nodes
  are-left = record {
    reached = stays-reached opening h.once.log h.reached;
    width = saved-count (run opening h.once.log) (stays-reached opening h.once.log h.reached)
        ∙ run-count opening h.once.log ∙ h.width;
    count = h.found;
    each = λ k n there.
        (let c = cell-of k n there in
        let read = h.read k c.0 n c.1 there in
        (read.0, cell-left k c.0 read.0 c.1 read.1, read.2));
  }

  pub are-held : HaveBegun cells → AreHeld nodes (restarted (run opening h.once.log))
  unfolding cell-left
  are-held begun k to n there =
      let c = cell-of k n there in
      let read = h.read k c.0 n c.1 there in
      let left = cell-left k c.0 read.0 c.1 read.1 in
      let is : n.core ≡ c.0.saved =
      left-node shape k shape.nodes (node_at (run opening h.once.log).saved k) read.0 n left
      read.2 in
      subst (λ (m : NodeView). (link_to m to).base ≤ acknowledged (run opening h.once.log) k to)
      (sym is)
      (let last = h.each k c.0 c.1 in
      still-held h.once.log [] h.reached h.width k to c.0 c.0.saved
      (record { of = last.of; number = last.number; width = last.width })
      (h.once.each k c.0 c.1) last.of.sound.saved_dropped (begun k c.0 c.1)
      (let inside = slice_get_within nodes k n there in
      let found = h.found in omega (arith, inside, found))
      left.saved.shows)

pub closed-is-left : {D : Type 0} (may_leave : D → Areas → Type 0) → ClosedIsLeft may_leave
closed-is-left may_leave shape opening cells nodes h = are-left h

pub closed-is-reached : {D : Type 0} (may_leave : D → Areas → Type 0) → ClosedIsReached may_leave
closed-is-reached may_leave shape opening cells nodes h begun =
    let left = are-left h in
    let w : World = run opening h.once.log in
    world-of-reached shape (restarted w) nodes (restarted-reached w left.reached)
    (left-opened shape w nodes left.width left.count left.each)
    (are-held h begun)

-- ---- Nodes that are read from such disks

-- the disks of a space whose wire began in this world, which a run reaches
pub record AreFromReached {D : Type 0} (may_leave : D → Areas → Type 0) (shape : Shaped)
    (opening : World) (disks : List D) : Type 0 where
  pub reached : IsReached opening
  pub width : nodes_of opening ≡ shape.nodes
  pub once : AreOfOneMoment may_leave opening disks

module _ {D : Type 0} {may_leave : D → Areas → Type 0} {shape : Shaped} {opening : World}
    {disks : List D} (from : AreFromReached may_leave shape opening disks) (seen : D → Areas)
    (left : (d : D) → may_leave d (seen d)) where
  closed-again : {Are : List WholeNode → Type 0} (h : AreRead seen shape disks Are)
      → AreClosed may_leave shape opening from.once.cells h.nodes
  closed-again h = record {
    reached = from.reached;
    width = from.width;
    count = from.once.count ∙ from.width;
    found = h.count ∙ ap length (sym from.once.same)
        ∙ length-map from.once.cells (λ (c : CellView D). c.disk) ∙ from.once.count ∙ from.width;
    each = subst (λ (n : ℕ). EachCell (IsLast may_leave opening n) from.once.cells) from.width
        from.once.each;
    once = from.once.once;
    read = λ k c n there found. (
      seen c.disk,
      left c.disk,
      h.read k c.disk n
          (ap (λ (l : List D). slice_get l k) (sym from.once.same)
          ∙ mapped-there (λ (x : CellView D). x.disk) from.once.cells k c there)
          found,
    );
  }

  -- a run reaches the world in which they begin
  pub opened-again : {Are : List WholeNode → Type 0} (h : AreRead seen shape disks Are)
      → BeginReached h.nodes
  opened-again h =
      closed-is-reached may_leave shape opening from.once.cells h.nodes (closed-again h)
      from.once.begun

  -- an opening never refuses them because of their ages
  pub never-ages : (seals : D → Bool) (moment faults : D → ℕ) (e : Unopened)
      → IsWhy seen seals moment faults shape disks e → IfAges (λ sender receiver. ⊥) e
  never-ages seals moment faults e why =
      ages-never seen shape disks
      (λ nodes count read.
      opened-again {Are = λ _. Unit {0}}
      (record { nodes = nodes; count = count; read = read; are = tt }))
      seals moment faults e why

-- ---- Cells that were just opened

-- new cells on a wire of the world of their nodes, which were tested
pub new-begun : {D : Type 0} (cells : List (CellView D)) → All IsNew cells
    → AreOfOneAge (map (λ c. c.node) cells)
    → EachCell (λ k c. ((known c.seat).opening ≡ world_of (cores (map (λ x. x.node) cells)))
    × (seat_node c.seat ≡ k)) cells
    → HaveBegun cells
new-begun cells new ages at k c there to inside =
    let nodes = map (λ x. x.node) cells in
    let w : World = world_of (cores nodes) in
    let is = at k c there in
    let here = mapped-there (λ x. x.node) cells k c there in
    let wide : nodes_of w ≡ length nodes =
    length-map (cores nodes) state_of ∙ length-map nodes (λ m. m.core) in
    let below : to < length nodes =
    (let still : to < nodes_of w = subst (λ (o : World). to < nodes_of o) is.0 inside in
    omega (arith, still, wide)) in
    let m = some_at nodes to below in
    let dropped = (ages.each k to c.node m.0 here m.1).dropped in
    let got : acknowledged w k to ≡ got_from m.0.core.local k =
    ap (λ (s : NodeState). got_from s.local k) (at-place nodes to m.0 m.1) in
    let first : c.origin ≡ c.node.core =
    ap (λ (v : CellView _). v.origin) (subst IsNew (get_or_from_slice_get cells k c c there)
    (All-get_or IsNew cells k c (slice_get_within cells k c there) new)) in
    subst (λ (o : World). (link_to c.origin to).base ≤ acknowledged o (seat_node c.seat) to)
    (sym is.0)
    (subst (λ (i : ℕ). (link_to c.origin to).base ≤ acknowledged w i to) (sym is.1)
    (subst (λ (v : NodeView). (link_to v to).base ≤ acknowledged w k to) (sym first)
    (omega (arith, dropped, got))))
