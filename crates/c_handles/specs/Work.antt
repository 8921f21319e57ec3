-- The collector's share of a turn: what is tried, in which order, and how it is counted.
use Rattle.std.specs.Prelude.{◌≡◌, ℕ, zero, suc, ◌+◌, ◌==◌, nat_lt, min, Bool, false, ◌||◌, cond, List, [], ◌∷◌, ◌++◌, Option, Some, None, Result, Ok, Err}
use Rattle.ids.specs.declared.limits.TheConstants.{WINDOW}
use Rattle.ids.specs.declared.refusal.Refusal.TheVariants.{NothingToDo}
use Rattle.model.specs.State.{LocalState}
use Rattle.model.specs.declared.event.Answer.{Answer}
use Rattle.model.specs.declared.event.Answer.TheVariants as answer
use Rattle.model.specs.declared.event.Event.{Event}
use Rattle.model.specs.declared.event.Event.TheVariants as event
use Rattle.model.specs.declared.summary.Summary.{Summary}
use Rattle.node.specs.Summaries.{summary_of}
use Rattle.c_values.specs.Fields.{bit, no_work}
use Rattle.c_values.specs.declared.fault.Fault.{Fault}
use Rattle.c_values.specs.declared.fault.Fault.TheVariants as fault
use Rattle.c_values.specs.declared.fields.CWork.{CWork}
use Rattle.c_handles.specs.Cells.{CellActs}
use Rattle.c_handles.specs.Lone.{Given}
use Rattle.c_handles.specs.declared.lone.LoneNode.{LoneNode}
use Rattle.c_handles.specs.declared.seated.SeatedCell.{SeatedCell}
use Rattle.c_handles.specs.declared.working.Task.{Task}
use Rattle.c_handles.specs.declared.working.Task.TheVariants as task

-- ---- Tasks

abbrev pub event_of : Task → Event
event_of (task.Receive from) = event.Next from
event_of task.Scan = event.Scan
event_of task.Pass = event.Pass
event_of (task.Sweep slots) = event.Sweep slots

abbrev pub freed_by : Answer → ℕ
freed_by (answer.Freed count done) = count
freed_by a = 0

-- A task that was done, with this answer, is counted. No turn passes or sweeps twice.
abbrev pub counted : Task → Answer → CWork → CWork
counted (task.Receive from) a w = record w { received = w.received + 1 }
counted task.Scan a w = record w { scanned = w.scanned + 1 }
counted task.Pass a w = record w { passed = 1 }
counted (task.Sweep slots) a w = record w { swept = 1; freed = freed_by a }

-- the counts that grow
abbrev pub tried : CWork → ℕ
tried w = w.received + w.scanned

-- a fault ends the work, but not that there was nothing to do
abbrev pub ending : Fault → Result (Unit {0}) Fault
ending (fault.Refused NothingToDo) = Ok tt
ending f = Err f

-- grey objects are left, or slots to be swept
abbrev pub is_left : Summary → Bool
is_left s = nat_lt 0 s.grey || nat_lt s.swept s.ended

-- ---- Trying

-- a node or a cell, and what was done so far
pub record At (X : Type 0) : Type 0 where
  pub it : X
  pub work : CWork

abbrev pub at : {X : Type 0} → X → CWork → At X
at x w = record { it = x; work = w }

-- after a try: more, if the task was done; a fault ends it
abbrev pub Follows : {X : Type 0} → (At X → Type 0) → Task → X → CWork → At X
    → Result (Unit {0}) Fault → Result Answer Fault → Type 0
Follows More t x w new s (Ok a) = More (at x (counted t a w))
Follows More t x w new s (Err f) = (new ≡ at x w) × (s ≡ ending f)

-- the task was tried until it failed, but at most this often
abbrev pub Repeats : {X : Type 0} → (Task → X → X → Result Answer Fault → Type 0) → Task → ℕ
    → At X → At X → Result (Unit {0}) Fault → Type 0
Repeats Does t zero old new s = (new ≡ old) × (s ≡ Ok tt)
Repeats {X} Does t (suc most) old new s =
    (x : X) × (r : Result Answer Fault) × Does t old.it x r
    × Follows (λ now. Repeats Does t most now new s) t x old.work new s r

-- a scan, whatever its answer
abbrev pub Scans : {X : Type 0} → (Task → X → X → Result Answer Fault → Type 0) → X → X
    → Result (Unit {0}) Fault → Type 0
Scans Does old new (Ok u) = (a : Answer) × Does task.Scan old new (Ok a)
Scans Does old new (Err f) = Does task.Scan old new (Err f)

-- ---- In order

-- a task, and how often it is tried at most
pub record Part : Type 0 where
  pub task : Task
  pub most : ℕ

-- after a part: the next ones, unless a fault ended it
abbrev pub GoesOn : {X : Type 0} → (At X → Type 0) → At X → At X → Result (Unit {0}) Fault
    → Result (Unit {0}) Fault → Type 0
GoesOn Rest mid new s (Ok u) = Rest mid
GoesOn Rest mid new s (Err f) = (new ≡ mid) × (s ≡ Err f)

-- the parts were tried in order, up to the first that a fault ended
abbrev pub Plays : {X : Type 0} → (Task → X → X → Result Answer Fault → Type 0) → List Part
    → At X → At X → Result (Unit {0}) Fault → Type 0
Plays Does [] old new s = (new ≡ old) × (s ≡ Ok tt)
Plays {X} Does (p ∷ ps) old new s =
    (mid : At X) × (r : Result (Unit {0}) Fault) × Repeats Does p.task p.most old mid r
    × GoesOn (λ now. Plays Does ps now new s) mid new s r

-- ---- A turn

-- the early messages from another node; no more than these can wait
abbrev pub turn_of : ℕ → ℕ → List Part
turn_of own from =
    cond (from == own) [] (record { task = task.Receive from; most = WINDOW } ∷ [])

-- those from each of `n` nodes, from this one on
abbrev pub turns_from : ℕ → ℕ → ℕ → List Part
turns_from own from zero = []
turns_from own from (suc n) = turn_of own from ++ turns_from own (from + 1) n

abbrev pub turns : ℕ → ℕ → List Part
turns own nodes = turns_from own 0 nodes

-- scans, at most this many; a pass; and a sweep, unless it is one of no slots
abbrev pub collects : ℕ → ℕ → List Part
collects scans slots =
    record { task = task.Scan; most = scans }
    ∷ record { task = task.Pass; most = 1 }
    ∷ record { task = task.Sweep slots; most = min slots 1 }
    ∷ []

-- The parts were tried, and counted from nothing.
pub record Works {X : Type 0} (Does : Task → X → X → Result Answer Fault → Type 0)
    (local_of : X → LocalState) (plan : List Part) (old new : X) (work : CWork)
    (s : Result (Unit {0}) Fault) : Type 0 where
  pub done : CWork
  pub plays : Plays Does plan (at old no_work) (at new done) s
  pub says : work ≡ record done { more = bit (is_left (summary_of (local_of new))) }

-- ---- Nodes and cells

abbrev pub NodeDoes : Task → LoneNode → LoneNode → Result Answer Fault → Type 0
NodeDoes t old new r = Given false old new (event_of t) r

abbrev pub node_turns : LoneNode → List Part
node_turns n = turns n.node.core.local.own n.node.core.local.shape.nodes

abbrev pub node_plan : ℕ → ℕ → LoneNode → List Part
node_plan scans slots n = node_turns n ++ collects scans slots

abbrev pub NodeWorks : ℕ → ℕ → LoneNode → LoneNode → CWork → Result (Unit {0}) Fault → Type 0
NodeWorks scans slots old new work s =
    Works NodeDoes (λ n. n.node.core.local) (node_plan scans slots old) old new work s

-- a cell receives its early messages as it receives frames
abbrev pub CellDoes : Task → SeatedCell → SeatedCell → Result Answer Fault → Type 0
CellDoes t old new r = CellActs (event_of t) old new r

abbrev pub CellWorks : ℕ → ℕ → SeatedCell → SeatedCell → CWork → Result (Unit {0}) Fault → Type 0
CellWorks scans slots old new work s =
    Works CellDoes (λ c. c.cell.node.core.local) (collects scans slots) old new work s

-- The same for what a handle holds. An empty one is refused, and nothing is counted.
abbrev pub WorksIf : {X : Type 0} → (X → X → CWork → Result (Unit {0}) Fault → Type 0)
    → Option X → Option X → CWork → CWork → Result (Unit {0}) Fault → Type 0
WorksIf Does (Some old) (Some new) before after s = Does old new after s
WorksIf Does (Some old) None before after s = ⊥
WorksIf Does None new before after s =
    (new ≡ None) × (after ≡ before) × (s ≡ Err fault.NoHandle)
