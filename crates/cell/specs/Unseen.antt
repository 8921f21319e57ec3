-- What programs see of a space whose wire began in a world that a run reaches, also on disks that
-- other spaces left: a run of a space without a collector.
use Rattle.std.specs.Prelude.{◌≡◌, ◌≢◌, ℕ, ◌<◌, Bool, true, false, List, [], ◌++◌, Result, IfErr, IsTrue}
use Rattle.ids.specs.Limits.{Shaped, IsShape}
use Rattle.ids.specs.declared.refusal.Refusal.{Refusal}
use Rattle.ids.specs.declared.refusal.Refusal.TheVariants.{Memory}
use Rattle.model.specs.declared.event.Event.{Event}
use Rattle.model.specs.declared.event.Answer.{Answer}
use Rattle.model.specs.declared.step.Step.{Step}
use Rattle.model.specs.Heaps.{heap_bytes}
use Rattle.model.specs.View.{NodeView, Shows}
use Rattle.model.specs.World.{World, new_world, run}
use Rattle.model.specs.Cuts.{cut}
use Rattle.laws.specs.Objects.{Sight, Space, IsRun, MayBeTold, after, bytes_told, is_program, new_space}
use Rattle.laws.specs.Sights.{LooksLike, choice_at_start, observed_in_cut}
use Rattle.node.specs.Keeping.{Rings, WholeNode, met, own_step}
use Rattle.wire.specs.OneAge.{AreOfOneAge}
use Rattle.wire.specs.Plays.{LeadsTo}
use Rattle.wire.specs.Rule.{nodes_of}
use Rattle.wire.specs.Views.{Known}
use Rattle.cell.specs.Events.{Given}
use Rattle.cell.specs.Opened.{cores, world_of}
use Rattle.cell.specs.Reached.{IsReached}
use Rattle.cell.specs.Theorems.{AreLeft}

-- what programs were told and received in the run that reaches the world, as far as it belongs to
-- the cut that the choice picks
abbrev pub sights_before : {w : World} → IsReached w → (ℕ → Bool) → List Sight
sights_before r choice = observed_in_cut (new_world r.shape) r.steps choice

-- the same after more steps
abbrev pub sights_after : {w : World} → IsReached w → List Step → (ℕ → Bool) → List Sight
sights_after {w} r steps choice =
    sights_before r (choice_at_start steps choice) ++ observed_in_cut w steps choice

-- the space without a collector at the end of these sights
abbrev pub space_after : {w : World} → IsReached w → List Step → (ℕ → Bool) → Space
space_after r steps choice = after (new_space r.shape) (sights_after r steps choice)

-- Whatever happens in a world that a run reaches, the sights are a run of a space without a
-- collector, and at its end that space looks like the cut.
abbrev pub ReachedIsUnseen : Type 0
ReachedIsUnseen =
    (w : World) (r : IsReached w) (steps : List Step) (choice : ℕ → Bool)
    → IsRun r.shape (new_space r.shape) (sights_after r steps choice)
    × LooksLike (space_after r steps choice) (cut (run w steps) choice)

-- ---- What a cell's program is told

-- A cell's call of `act` with an event of a program, whose seat knew this before it: the event had
-- this result, which isn't for lack of memory.
pub record WasTold (e : Event) (result : Result Answer Refusal) (v : Known) : Type 0 where
  pub early : Rings
  pub old : WholeNode
  pub new : WholeNode
  pub w : Known
  pub given : Given e (met early e) (own_step early v.me e) result old new v w
  pub program : IsTrue (is_program e)
  pub plenty : IfErr result (λ r. r ≢ Memory)

-- Take any list of events that leads to what the cell's seat knew. Whatever the program was told, a
-- program of the space without a collector may be told after the sights of that list: an answer, a
-- word that was read, or a refusal.
abbrev pub CellsAreToldSo : Type 0
CellsAreToldSo =
    (e : Event) (result : Result Answer Refusal) (v : Known) (log : List Step)
    (choice : ℕ → Bool) (r : IsReached v.opening) → v.me < nodes_of v.opening
    → LeadsTo v log → choice v.me ≡ false → WasTold e result v
    → MayBeTold (space_after r log choice) v.me r.shape e result

-- Whoever reads bytes of an object of a cell's node is told the same as in the space without a
-- collector, after the sights of any list of events that leads to what the cell's seat knows.
abbrev pub CellsReadSo : Type 0
CellsReadSo =
    (n : NodeView) (v : Known) (log : List Step) (choice : ℕ → Bool) (r : IsReached v.opening)
    (object offset count : ℕ)
    → LeadsTo v log → choice v.me ≡ false → Shows n v.pair.current
    → heap_bytes n.local.own n.local.heap object offset count
    ≡ bytes_told (space_after r log choice) v.me object offset count

-- ---- From one space to the next

-- In a new space, nothing was seen.
abbrev pub NewIsUnseen : Type 0
NewIsUnseen =
    (shape : Shaped) → IsShape shape
    → (r : IsReached (new_world shape)) × (r.shape ≡ shape)
    × ((choice : ℕ → Bool) → sights_before r choice ≡ [])

-- The sights go on.
abbrev pub SightsGoOn : Type 0
SightsGoOn =
    (w : World) (r : IsReached w) (steps : List Step)
    → (next : IsReached (run w steps)) × (next.shape ≡ r.shape)
    × ((choice : ℕ → Bool) → sights_before next choice ≡ sights_after r steps choice)

-- A space that is opened on what another one left begins with the sights of that one that belong to
-- its saved states.
abbrev pub SightsAreKept : Type 0
SightsAreKept =
    (shape : Shaped) (w : World) (nodes : List WholeNode) (left : AreLeft shape w nodes)
    → AreOfOneAge nodes
    → (next : IsReached (world_of (cores nodes))) × (next.shape ≡ left.reached.shape)
    × ((choice : ℕ → Bool) → (saved : ℕ → Bool)
    × ((k : ℕ) → k < shape.nodes → saved k ≡ true)
    × (sights_before next choice ≡ sights_before left.reached saved))
