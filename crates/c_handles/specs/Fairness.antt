-- Callers who do nothing but work, save and carry frames come to the end of the cycle, in whatever
-- order they do it.
use Rattle.std.specs.Prelude.{◌≡◌, ◌≢◌, ℕ, ◌+◌, ◌<◌, ◌≤◌, List, [], ◌∷◌, ◌++◌, length, option_to_list, Option, Some, None, Ok, ◌⊎◌}
use Rattle.std.specs.List.{AllByRecursion}
use Rattle.ids.specs.Limits.{Shaped}
use Rattle.ids.specs.declared.limits.TheConstants.{WINDOW}
use Rattle.msg.specs.Frames.{Plain}
use Rattle.frames.specs.Grammar.{Fits, spelling}
use Rattle.node.specs.Frames.{acknowledgement}
use Rattle.ids.specs.declared.names.Ref.{Ref}
use Rattle.model.specs.Cuts.{Among}
use Rattle.model.specs.declared.event.Answer.{Answer}
use Rattle.model.specs.declared.event.Event.TheVariants as event
use Rattle.model.specs.Agreement.{OldGarbage}
use Rattle.model.specs.State.{Object, Occupied, got_from, slot_at}
use Rattle.model.specs.View.{link_to, used}
use Rattle.model.specs.World.{World}
use Rattle.laws.specs.Fairness.{marking_rounds, cycle_rounds}
use Rattle.laws.specs.Progress.{current_cycle}
use Rattle.laws.specs.Statements.{Garbage}
use Rattle.laws.specs.Strategy.{now}
use Rattle.c_values.specs.declared.fields.CWork.{CWork}
use Rattle.c_handles.specs.Laws.{IsReachable}
use Rattle.c_handles.specs.Programs.{Act, Call, Choice, Deed, Does, Goes, IsShown, Keep, MayFind, On, Store, Stored, System, Take, TakeBatch, TakeImage, Work, window_of}
use Rattle.c_handles.specs.declared.lone.LoneNode.{LoneNode}

-- ---- rounds of calls

-- a call on a full handle that gives no event of a program's, and begins no cycle
abbrev pub IsWithinDeed : Deed → Type 0
IsWithinDeed (Act e r) = ⊥
IsWithinDeed d = Unit {0}

-- such a call, or an image or a batch is stored
abbrev pub IsWithin : Call → Type 0
IsWithin (On i d) = IsWithinDeed d
IsWithin (Store i e others) = Unit {0}
IsWithin c = ⊥

-- The node works, as `markring_node_work` does: up to one scan or more, and it may sweep. The call
-- succeeds, so there was memory, and no link ran out of numbers.
pub record HasWorked (i : ℕ) (calls : List Call) : Type 0 where
  pub scans : ℕ
  pub slots : ℕ
  pub work : CWork
  pub some : (0 < scans) × (0 < slots)
  pub there : Among (On i (Work scans slots work (Ok tt))) calls

-- how many messages the node in a handle has sent to another node, and received from it
abbrev pub sent_by : Option LoneNode → ℕ → ℕ
sent_by (Some n) to = used (link_to n.node.core to)
sent_by None to = 0

abbrev pub received_by : Option LoneNode → ℕ → ℕ
received_by (Some n) from = got_from n.node.core.local from
received_by None from = 0

-- Of the messages that a node has sent to another one and that haven't come there yet, two are
-- received, or all if there are fewer.
abbrev pub ComesIn : ℕ → System → System → Type 0
ComesIn nodes s t =
    (from to k : ℕ) → from < nodes → to < nodes → k < 2
    → received_by (s.places to).handle from + k < sent_by (s.places from).handle to
    → received_by (s.places to).handle from + k < received_by (t.places to).handle from

-- A round: any of these calls, in any order, among which are each node's work and what carries
-- frames.
pub record IsCallRound (shape : Shaped) (s : System) (calls : List Call) (t : System) : Type 0 where
  pub goes : Goes shape s calls t
  pub within : AllByRecursion IsWithin calls
  pub works : (i : ℕ) → i < shape.nodes → HasWorked i calls
  pub comes_in : ComesIn shape.nodes s t

abbrev pub AreCallRounds : Shaped → System → List (List Call) → System → Type 0
AreCallRounds shape s [] t = t ≡ s
AreCallRounds shape s (calls ∷ rest) t =
    (next : System) × IsCallRound shape s calls next × AreCallRounds shape next rest t

abbrev pub AreFilled : Shaped → System → Type 0
AreFilled shape s =
    (i : ℕ) → i < shape.nodes → (n : LoneNode) × ((s.places i).handle ≡ Some n)

-- ---- statements

-- For each choice of what is stored after the rounds, there is one before them. In the space that
-- the handles showed with that one, no more rounds than these were needed. Then this is true of
-- the nodes in the handles and of the cycle of that space.
abbrev pub AfterRounds : (ℕ → World → ℕ) → (Shaped → System → ℕ → Type 0) → Type 0
AfterRounds needed Holds =
    (shape : Shaped) (s t : System) (rounds : List (List Call)) → IsReachable shape s
    → AreFilled shape s → AreCallRounds shape s rounds t → (choice : Choice) → MayFind t choice
    → (before : Choice) × MayFind s before
    × ((w : World) → IsShown shape s before w → needed shape.nodes w ≤ length rounds
    → Holds shape t (current_cycle w))

-- The node in handle 0 counts the cycle's marking as ended.
abbrev pub HandleHasEnded : Shaped → System → ℕ → Type 0
HandleHasEnded shape s cycle =
    (n : LoneNode) → (s.places 0).handle ≡ Some n
    → (n.node.core.local.phases.cycle ≡ cycle) × (n.node.core.local.phases.ended ≡ cycle)

abbrev pub CallsEndMarking : Type 0
CallsEndMarking = AfterRounds (λ nodes w. marking_rounds nodes (now w)) HandleHasEnded

-- Each node has swept the cycle.
abbrev pub HandlesHaveSwept : Shaped → System → ℕ → Type 0
HandlesHaveSwept shape s cycle =
    (i : ℕ) (n : LoneNode) → i < shape.nodes → (s.places i).handle ≡ Some n
    → n.node.core.local.phases.swept ≡ cycle

abbrev pub CallsEndCycle : Type 0
CallsEndCycle = AfterRounds (λ nodes w. cycle_rounds nodes (now w)) HandlesHaveSwept

-- An object that was garbage at the start, saved or not, is in no handle any more. So it is if node
-- 0 begins a cycle after any rounds, and enough follow in the space that the handles show then.
abbrev pub IsInHandle : System → Ref → Type 0
IsInHandle s r =
    (n : LoneNode) × (o : Object) × ((s.places r.node).handle ≡ Some n)
    × (slot_at n.node.core.local.heap r.slot ≡ Occupied r.generation o)

abbrev pub CallsFreeGarbage : Type 0
CallsFreeGarbage =
    (shape : Shaped) (s u v t : System) (rounds more : List (List Call)) (a : Answer)
    → IsReachable shape s → AreFilled shape s → AreCallRounds shape s rounds u
    → Does (On 0 (Act event.Begin (Ok a))) u v → AreCallRounds shape v more t
    → (choice : Choice) → MayFind t choice → (before : Choice) × MayFind s before
    × ((w : World) → IsShown shape s before w
    → (middle : Choice) × (x : World) × IsShown shape v middle x
    × (cycle_rounds shape.nodes (now x) ≤ length more → (r : Ref) → r.node < shape.nodes
    → OldGarbage w r ⊎ Garbage w r → IsInHandle t r → ⊥))

-- ---- turns, one node after the other

-- The node takes these frames in this order, and answers each. Other calls may come between.
pub data TakesIn (i : ℕ) : List Plain → List Call → Type 0 where
  has_taken : (calls : List Call) → TakesIn i [] calls
  takes : (f : Plain) (fs : List Plain) (bytes : List ℕ) (a : Answer) (calls : List Call) → Fits f
      → bytes ≡ spelling f → TakesIn i fs calls
      → TakesIn i (f ∷ fs) (On i (Take bytes (Ok a)) ∷ calls)
  passes_by : (fs : List Plain) (c : Call) (calls : List Call) → TakesIn i fs calls
      → TakesIn i fs (c ∷ calls)

-- the frames that a node has for another one: those in the window, and the acknowledgement
abbrev pub frames_for : LoneNode → ℕ → List Plain
frames_for n to =
    window_of n.node.core to WINDOW ++ option_to_list (acknowledgement n.node.core to)

-- an image or a batch was taken, with this mark
abbrev pub GaveMark : Deed → ℕ → Type 0
GaveMark (TakeImage (Ok mark) old new before needed) given = mark ≡ given
GaveMark (TakeBatch (Ok mark) old new before needed) given = mark ≡ given
GaveMark d given = ⊥

-- A node's turn: it works; an image or a batch is taken, stored, and counts as saved; and then each
-- frame that it has for another node is given to that node.
pub record IsTurnOf (shape : Shaped) (i : ℕ) (s : System) (calls : List Call) (t : System) : Type 0
  where
    pub scans : ℕ
    pub slots : ℕ
    pub work : CWork
    pub some : (0 < scans) × (0 < slots)
    pub deed : Deed
    pub mark : ℕ
    pub marks : GaveMark deed mark
    pub stored : Stored
    pub middle : System
    pub saves : Goes shape s
        (On i (Work scans slots work (Ok tt)) ∷ On i deed ∷ Store i stored []
        ∷ On i (Keep mark (Ok tt)) ∷ []) middle
    pub node : LoneNode
    pub held : (middle.places i).handle ≡ Some node
    pub gives : List Call
    pub gives_on : Goes shape middle gives t
    pub within : AllByRecursion IsWithin gives
    pub carries : (j : ℕ) → j < shape.nodes → j ≢ i → TakesIn j (frames_for node j) gives
    pub is : calls
        ≡ On i (Work scans slots work (Ok tt)) ∷ On i deed ∷ Store i stored []
        ∷ On i (Keep mark (Ok tt)) ∷ gives

-- turns of these nodes, in this order
abbrev pub HaveTurns : Shaped → List ℕ → System → List Call → System → Type 0
HaveTurns shape [] s calls t = (calls ≡ []) × (t ≡ s)
HaveTurns shape (i ∷ is) s calls t =
    (next : System) × (turn : List Call) × (rest : List Call) × (calls ≡ turn ++ rest)
    × (i < shape.nodes) × IsTurnOf shape i s turn next × HaveTurns shape is next rest t

-- each node has a turn, in any order
pub record HaveAllTurns (shape : Shaped) (s : System) (calls : List Call) (t : System) : Type 0
  where
    pub order : List ℕ
    pub turns : HaveTurns shape order s calls t
    pub all : (i : ℕ) → i < shape.nodes → Among i order

-- If each node has a turn twice, messages come in. So that is a round.
abbrev pub TurnsAreRounds : Type 0
TurnsAreRounds =
    (shape : Shaped) (s u t : System) (first more : List Call) → IsReachable shape s
    → AreFilled shape s → HaveAllTurns shape s first u → HaveAllTurns shape u more t
    → IsCallRound shape s (first ++ more) t
