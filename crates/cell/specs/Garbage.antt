-- What was garbage at an earlier moment, and cells whose nodes have swept since.
use Rattle.std.specs.Prelude.{◌≡◌, ◌⊎◌, ◌<◌, ◌≤◌, ◌++◌, ℕ, false, List}
use Rattle.ids.specs.declared.names.Ref.{Ref}
use Rattle.model.specs.declared.step.Step.{Step}
use Rattle.model.specs.State.{Object, Occupied, slot_at}
use Rattle.model.specs.View.{NodeView}
use Rattle.model.specs.World.{World, run}
use Rattle.model.specs.Agreement.{OldGarbage}
use Rattle.laws.specs.Progress.{current_cycle}
use Rattle.laws.specs.Statements.{Garbage, IsLeftAlone, StaysUp}
use Rattle.disk.specs.Areas.{Areas}
use Rattle.wire.specs.Plays.{LeadsTo}
use Rattle.wire.specs.Readers.{known, seat_node}
use Rattle.cell.specs.Cells.{CellView}
use Rattle.cell.specs.Closing.{IsCellOf}
use Rattle.cell.specs.Reached.{IsReached}

-- the node has no object under this reference
abbrev pub HasNone : NodeView → Ref → Type 0
HasNone n r =
    (o : Object) → slot_at n.local.heap r.slot ≡ Occupied r.generation o → ⊥

-- At the moment to which the first events lead, node 0 hadn't begun the cycle. The object's node
-- had it, and it was reachable in no cut. Since then no event has resolved a reference that led to
-- it, nor has its node restarted, if its saved state didn't have it.
pub record WasGarbage (opening : World) (before since : List Step) (cycle : ℕ) (r : Ref) : Type 0
  where
    pub reached : IsReached opening
    pub earlier : current_cycle (run opening before) < cycle
    pub garbage : OldGarbage (run opening before) r
        ⊎ (Garbage (run opening before) r × StaysUp r.node since)
    pub alone : IsLeftAlone (run opening before) r since

-- The cell of the object's node, whose seat knows what these events and then those lead to, and
-- whose node has swept the cycle.
pub record HasSwept {D : Type 0} (may_leave : D → Areas → Type 0) (opening : World)
    (before since : List Step) (cycle : ℕ) (r : Ref) (c : CellView D) : Type 0 where
  pub of : IsCellOf may_leave opening c
  pub leads : LeadsTo (known c.seat) (before ++ since)
  pub owns : seat_node c.seat ≡ r.node
  pub swept : cycle ≤ c.node.core.local.phases.swept

-- Then its node no longer has the object. Nor does its last saved node, if everything is saved.
abbrev pub CellsFreeGarbage : {D : Type 0} → (D → Areas → Type 0) → Type 0
CellsFreeGarbage {D} may_leave =
    (opening : World) (before since : List Step) (cycle : ℕ) (r : Ref) (c : CellView D)
    → WasGarbage opening before since cycle r
    → HasSwept may_leave opening before since cycle r c
    → HasNone c.node.core r × (c.unsaved ≡ false → HasNone c.saved r)
