-- What a collection is for: what was garbage before it is gone after it.
use Rattle.std.specs.Prelude.{◌≡◌, ◌⊎◌, ◌<◌, ◌++◌, ℕ, Bool, true, false, not, is_some, List, length, Option, Some, None, Result, Ok, Err}
use Rattle.std.specs.List.{AllByRecursion}
use Rattle.ids.specs.declared.names.Ref.{Ref}
use Rattle.model.specs.declared.step.Step.{Step}
use Rattle.model.specs.declared.step.Step.TheVariants as step
use Rattle.model.specs.Agreement.{OldGarbage}
use Rattle.model.specs.World.{World, run}
use Rattle.laws.specs.Progress.{current_cycle}
use Rattle.laws.specs.Statements.{Garbage, resolved}
use Rattle.disk.specs.Memory.{left_by}
use Rattle.wire.specs.Plays.{LeadsTo}
use Rattle.wire.specs.Readers.{known, IsSame}
use Rattle.wire.specs.Rule.{nodes_of}
use Rattle.cell.specs.Closing.{IsOfNode}
use Rattle.cell.specs.Garbage.{HasNone}
use Rattle.cell.specs.Reached.{IsReached}
use Rattle.c_values.specs.declared.fault.Fault.{Fault}
use Rattle.c_values.specs.declared.fault.Fault.TheVariants as fault
use Rattle.c_handles.specs.Collecting.{AreInOrder, Collects, cell_at}
use Rattle.c_handles.specs.declared.seated.SeatedCell.{SeatedCell}

-- ---- What was done meanwhile

-- the step neither reopens a cell nor resolves a reference
abbrev pub is_quiet : Step → Bool
is_quiet (step.Act i e) = not (is_some (resolved e))
is_quiet (step.Restart i) = false
is_quiet s = true

-- The cell has the same seat, and no event of its node since then reopened it or resolved a
-- reference.
pub record IsQuiet (old new : SeatedCell) : Type 0 where
  pub same : IsSame old.cell.seat new.cell.seat
  pub since : List Step
  pub events : (known new.cell.seat).events ≡ (known old.cell.seat).events ++ since
  pub quiet : AllByRecursion (λ s. is_quiet s ≡ true) since

abbrev pub IsQuietIf : Option SeatedCell → Option SeatedCell → Type 0
IsQuietIf (Some old) (Some new) = IsQuiet old new
IsQuietIf None None = Unit {0}
IsQuietIf _ _ = ⊥

-- so it is with each cell
pub record AreQuiet (old new : List (Option SeatedCell)) : Type 0 where
  pub width : length new ≡ length old
  pub each : (k : ℕ) → IsQuietIf (cell_at old k) (cell_at new k)

-- ---- What is gone

abbrev pub EachCell : (ℕ → SeatedCell → Type 0) → List (Option SeatedCell) → Type 0
EachCell Is cells = (k : ℕ) (c : SeatedCell) → cell_at cells k ≡ Some c → Is k c

-- The later cells are those of all nodes, in order, of a space whose wire began in this world,
-- which a run reached. The first events led to what the cells knew at an earlier moment, and all of
-- them lead to what they know now.
pub record IsHistory (opening : World) (before since : List Step)
    (earlier later : List (Option SeatedCell)) : Type 0 where
  pub reached : IsReached opening
  pub count : length later ≡ nodes_of opening
  pub each : EachCell (λ k c. IsOfNode left_by opening (nodes_of opening) k c.cell) later
  pub were : EachCell (λ k c. LeadsTo (known c.cell.seat) before) earlier
  pub are : EachCell (λ k c. LeadsTo (known c.cell.seat) (before ++ since)) later

-- Take any earlier moment at which node 0 hadn't begun the cycle, since which no cell was reopened
-- or resolved a reference. An object that was reachable in no cut then is gone, whether it was
-- saved or not: neither the current node of a cell has it, nor the saved one.
abbrev pub GarbageIsGone : ℕ → List (Option SeatedCell) → Type 0
GarbageIsGone cycle cells =
    (opening : World) (before since : List Step) (earlier : List (Option SeatedCell)) (r : Ref)
    → IsHistory opening before since earlier cells → AreQuiet earlier cells
    → current_cycle (run opening before) < cycle
    → OldGarbage (run opening before) r ⊎ Garbage (run opening before) r
    → EachCell (λ k c. r.node ≡ k → HasNone c.cell.node.core r × HasNone c.cell.saved r) cells

-- ---- The call

-- The calls of a collection were made, which are quiet; and once nothing is left to be done, what
-- was garbage is gone. Other cells than those of all nodes, in order, are refused.
pub record Collected (cycle : ℕ) (old new : List (Option SeatedCell)) (s : Result Bool Fault)
    : Type 0 where
  pub collects : AreInOrder old → Collects cycle old new s
  pub refused : (AreInOrder old → ⊥) → (new ≡ old) × (s ≡ Err fault.BadArgument)
  pub quiet : AreQuiet old new
  pub gone : s ≡ Ok true → GarbageIsGone cycle new
