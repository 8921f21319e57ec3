-- A collection over the cells of a space that one thread holds: which calls are made of them, in
-- which order, and what is left to be done.
use Rattle.std.specs.Prelude.{◌≡◌, ◌⊎◌, ℕ, zero, suc, ◌+◌, ◌-◌, ◌<◌, ◌≤◌, ◌^◌, ◌==◌, ◌&&◌, nat_le, Bool, true, false, List, length, map, slice_set, slice_index_or, Option, Some, None, Result, Ok, Err}
use Rattle.ids.specs.declared.limits.TheConstants.{WINDOW}
use Rattle.ids.specs.declared.refusal.Refusal.TheVariants.{OutOfOrder}
use Rattle.model.specs.declared.event.Answer.{Answer}
use Rattle.model.specs.declared.event.Event.TheVariants as event
use Rattle.node.specs.Summaries.{summary_of}
use Rattle.c_values.specs.Faults.{Through}
use Rattle.c_values.specs.Fields.{no_work}
use Rattle.c_values.specs.declared.fault.Fault.{Fault}
use Rattle.c_values.specs.declared.fault.Fault.TheVariants as fault
use Rattle.c_values.specs.declared.fields.CWork.{CWork}
use Rattle.c_handles.specs.Cells.{CellActs, Received, Sent}
use Rattle.c_handles.specs.Work.{CellWorks, WorksIf}
use Rattle.c_handles.specs.declared.seated.SeatedCell.{SeatedCell}
use Rattle.c_handles.specs.declared.cell_handle.CellHandle.{CellHandle}

-- what the handles of a space's cells hold, in the order of the nodes
abbrev pub helds : List CellHandle → List (Option SeatedCell)
helds = map (λ h. h.held)

abbrev pub cell_at : List (Option SeatedCell) → ℕ → Option SeatedCell
cell_at cells k = slice_index_or cells k None

-- ---- Calls

-- a call, or several, of some of the cells
abbrev pub Move : Type 1
Move = List (Option SeatedCell) → List (Option SeatedCell) → Result (Unit {0}) Fault → Type 0

-- One cell did this, with this result; the others stay as they are.
pub record AtCell {A : Type 0} (k : ℕ)
    (Does : Option SeatedCell → Option SeatedCell → Result A Fault → Type 0)
    (old new : List (Option SeatedCell)) (r : Result A Fault) : Type 0 where
  pub cell : Option SeatedCell
  pub is : new ≡ slice_set old k cell
  pub does : Does (cell_at old k) cell r

-- Without a frame there is nothing to receive. One that is out of order is lost, and its sender
-- offers it again.
abbrev pub received : Result Answer Fault → Result (Unit {0}) Fault
received (Ok a) = Ok tt
received (Err fault.Nothing) = Ok tt
received (Err (fault.Refused OutOfOrder)) = Ok tt
received (Err f) = Err f

abbrev pub sent : Result Bool Fault → Result (Unit {0}) Fault
sent (Ok is_sent) = Ok tt
sent (Err f) = Err f

pub record Receives (to from : ℕ) (old new : List (Option SeatedCell))
    (s : Result (Unit {0}) Fault) : Type 0 where
  pub result : Result Answer Fault
  pub at : AtCell to (Through (Received from)) old new result
  pub says : s ≡ received result

pub record Sends (from to : ℕ) (old new : List (Option SeatedCell))
    (s : Result (Unit {0}) Fault) : Type 0 where
  pub result : Result Bool Fault
  pub at : AtCell from (Through (Sent to)) old new result
  pub says : s ≡ sent result

-- all grey objects, and all slots
abbrev pub all : ℕ
all = 2 ^ 32 - 1

pub record Works (node : ℕ) (old new : List (Option SeatedCell)) (s : Result (Unit {0}) Fault)
    : Type 0 where
  pub work : CWork
  pub at : AtCell node (λ was is r. WorksIf (CellWorks all all) was is no_work work r) old new s

-- ---- In order

-- nothing is done
abbrev pub Stays : List (Option SeatedCell) → List (Option SeatedCell)
    → Result (Unit {0}) Fault → Type 0
Stays old new s = (new ≡ old) × (s ≡ Ok tt)

-- nothing, if this is so
abbrev pub Unless : Bool → Move → Move
Unless true Does = Stays
Unless false Does = Does

-- after a move: the next one, unless the first one failed
abbrev pub Then : (List (Option SeatedCell) → Type 0) → List (Option SeatedCell)
    → List (Option SeatedCell) → Result (Unit {0}) Fault → Result (Unit {0}) Fault → Type 0
Then Rest mid new s (Ok u) = Rest mid
Then Rest mid new s (Err f) = (new ≡ mid) × (s ≡ Err f)

abbrev pub After : Move → Move → Move
After First Second old new s =
    (mid : List (Option SeatedCell)) × (r : Result (Unit {0}) Fault) × First old mid r
    × Then (λ now. Second now new s) mid new s r

-- this for each of `n` numbers, from `k` on, up to the first that failed
abbrev pub Each : (ℕ → Move) → ℕ → ℕ → Move
Each Does k zero = Stays
Each Does k (suc n) = After (Does k) (Each Does (k + 1) n)

-- to and from other nodes only
abbrev pub ReceivesFrom : ℕ → ℕ → Move
ReceivesFrom to from = Unless (to == from) (Receives to from)

abbrev pub SendsTo : ℕ → ℕ → Move
SendsTo from to = Unless (from == to) (Sends from to)

abbrev pub ReceivesAll : ℕ → ℕ → Move
ReceivesAll n to = Each (ReceivesFrom to) 0 n

abbrev pub SendsAll : ℕ → ℕ → Move
SendsAll n from = Each (SendsTo from) 0 n

-- A cell's turn: it receives from each other one, works, and sends to each other one.
abbrev pub Turn : ℕ → ℕ → Move
Turn n k = After (ReceivesAll n k) (After (Works k) (SendsAll n k))

-- a turn of each cell
abbrev pub Round : ℕ → Move
Round n = Each (Turn n) 0 n

-- ---- What is left to be done

-- the cell has events that aren't saved
abbrev pub is_unsaved : Option SeatedCell → Bool
is_unsaved (Some c) = c.cell.unsaved
is_unsaved None = false

-- its node has swept this cycle or a later one
abbrev pub has_swept : ℕ → Option SeatedCell → Bool
has_swept cycle (Some c) = nat_le cycle (summary_of c.cell.node.core.local).swept
has_swept cycle None = false

-- it is this node's, in a space of this many
abbrev pub is_in_place : ℕ → ℕ → Option SeatedCell → Bool
is_in_place k n (Some c) =
    ((summary_of c.cell.node.core.local).own == k)
    && ((summary_of c.cell.node.core.local).shape.nodes == n)
is_in_place k n None = false

-- it holds of each cell; of some cell it doesn't hold
abbrev pub AllAre : (ℕ → Option SeatedCell → Bool) → Bool → List (Option SeatedCell) → Type 0
AllAre test b cells = (k : ℕ) → k < length cells → test k (cell_at cells k) ≡ b

pub record SomeIs (test : ℕ → Option SeatedCell → Bool) (b : Bool)
    (cells : List (Option SeatedCell)) : Type 0 where
  pub place : ℕ
  pub there : place < length cells
  pub is : test place (cell_at cells place) ≡ b

abbrev pub HasUnsaved : List (Option SeatedCell) → Type 0
HasUnsaved = SomeIs (λ k. is_unsaved) true

abbrev pub AreSaved : List (Option SeatedCell) → Type 0
AreSaved = AllAre (λ k. is_unsaved) false

abbrev pub AreSwept : ℕ → List (Option SeatedCell) → Type 0
AreSwept cycle = AllAre (λ k. has_swept cycle) true

abbrev pub HasUnswept : ℕ → List (Option SeatedCell) → Type 0
HasUnswept cycle = SomeIs (λ k. has_swept cycle) false

-- these are the cells of all nodes, in order
pub record AreInOrder (cells : List (Option SeatedCell)) : Type 0 where
  pub some : 0 < length cells
  pub few : length cells < 2 ^ 8
  pub each : AllAre (λ k. is_in_place k (length cells)) true cells

-- their number, if they are
abbrev pub Counts : List (Option SeatedCell) → Option ℕ → Type 0
Counts cells (Some n) = (n ≡ length cells) × AreInOrder cells
Counts cells None = AreInOrder cells → ⊥

-- the one if the answer is yes, the other if it is no
abbrev pub Says : Bool → Type 0 → Type 0 → Type 0
Says true Yes No = Yes
Says false Yes No = No

-- ---- A collection

-- Rounds were made, at most one more than a window has frames. There were fewer only if they failed
-- or a cell has to be saved.
pub record Rounds (n : ℕ) (old new : List (Option SeatedCell)) (s : Result (Unit {0}) Fault)
    : Type 0 where
  pub count : ℕ
  pub some : 0 < count
  pub few : count ≤ WINDOW + 1
  pub each : Each (λ i. Round n) 0 count old new s
  pub fewer : s ≡ Ok tt → count < WINDOW + 1 → HasUnsaved new

-- it was begun, or refused
abbrev pub begun : Result Answer Fault → Result Bool Fault
begun (Ok a) = Ok false
begun (Err f) = Err f

-- All is saved, a node hasn't swept the cycle, and node 0 begins one.
pub record Begins (cycle : ℕ) (old new : List (Option SeatedCell)) (s : Result Bool Fault) : Type 0
  where
    pub saved : AreSaved old
    pub unswept : HasUnswept cycle old
    pub result : Result Answer Fault
    pub at : AtCell 0 (Through (CellActs event.Begin)) old new result
    pub says : s ≡ begun result

-- All is saved, and each node has swept the cycle. Or else a cell has to be saved; or node 0 begins
-- a cycle.
abbrev pub Ends : ℕ → List (Option SeatedCell) → List (Option SeatedCell) → Result Bool Fault
    → Type 0
Ends cycle old new (Ok true) = (new ≡ old) × AreSaved old × AreSwept cycle old
Ends cycle old new (Ok false) =
    ((new ≡ old) × HasUnsaved old) ⊎ Begins cycle old new (Ok false)
Ends cycle old new (Err f) = Begins cycle old new (Err f)

-- what comes after the rounds, unless they failed
abbrev pub EndsAfter : ℕ → List (Option SeatedCell) → List (Option SeatedCell)
    → Result Bool Fault → Result (Unit {0}) Fault → Type 0
EndsAfter cycle mid new s (Ok u) = Ends cycle mid new s
EndsAfter cycle mid new s (Err f) = (new ≡ mid) × (s ≡ Err f)

-- the rounds, and what comes after them
pub record Collects (cycle : ℕ) (old new : List (Option SeatedCell)) (s : Result Bool Fault)
    : Type 0 where
  pub mid : List (Option SeatedCell)
  pub result : Result (Unit {0}) Fault
  pub rounds : Rounds (length old) old mid result
  pub ends : EndsAfter cycle mid new s result
