-- Programs that hold the nodes of a space: the calls of the library that they make, what their
-- callers owe (the list in markring.h), and what the handles show together.
use Rattle.std.specs.Prelude.{◌≡◌, ◌≢◌, ℕ, ◌<◌, ◌≤◌, zero, suc, Bool, true, cond, List, [], ◌∷◌, ◌++◌, length, take, option_to_list, Option, Some, None, Result, Ok, Err, slice_index_or}
use Rattle.std.specs.Global.{Vec}
use Rattle.ids.specs.Limits.{Shaped}
use Rattle.ids.specs.declared.limits.TheConstants.{WINDOW}
use Rattle.image_parts.specs.Logs.{begins_logged}
use Rattle.msg.specs.Frames.{Plain}
use Rattle.frames.specs.Grammar.{Fits, spelling}
use Rattle.model.specs.declared.event.Answer.{Answer}
use Rattle.model.specs.declared.event.Event.{Event}
use Rattle.model.specs.declared.step.Step.{Step}
use Rattle.model.specs.Cuts.{Among}
use Rattle.model.specs.State.{NodeState, got_from, new_node, node_at, sent_to}
use Rattle.model.specs.Steps.{is_own}
use Rattle.model.specs.View.{NodeView, Shows, kept_view}
use Rattle.model.specs.World.{World, IsInNet, new_world, run}
use Rattle.node.specs.Frames.{acknowledgement, released_frame}
use Rattle.node.specs.Keeping.{WholeNode}
use Rattle.laws.specs.Carried.{IsCarried}
use Rattle.c_values.specs.Bytes.{WroteIf}
use Rattle.c_values.specs.declared.fault.Fault.{Fault}
use Rattle.c_values.specs.declared.fields.CFreed.{CFreed}
use Rattle.c_values.specs.declared.fields.CWork.{CWork}
use Rattle.c_handles.specs.Batches.{Batched, IsStored, Reopened}
use Rattle.c_handles.specs.Frames.{Packs, WroteFrame, ack_bytes}
use Rattle.c_handles.specs.Images.{Imaged, Kept, Logs, Released}
use Rattle.c_handles.specs.Logs.{no_counts}
use Rattle.c_handles.specs.Lone.{HandedOut, Made, NodeActs, Read, TookIn, Tracks}
use Rattle.c_handles.specs.Work.{NodeWorks}
use Rattle.c_handles.specs.declared.lone.images.Counts.{Counts}
use Rattle.c_handles.specs.declared.lone.LoneNode.{LoneNode}

-- ---- What a program has of a space

-- What is stored of a node: nothing, as before its first image; an image, and the batches behind
-- it; or nothing from which it may go on, since everything counted as saved without an image.
pub data Stored : Type 0 where
  Nothing : Stored
  Image : (image batches : List ℕ) → Stored
  Lost : Stored

-- A node of the space: what its handle holds, what is stored of it, and the images and batches that
-- were taken since then and may be stored yet, oldest first, each with what is then stored.
pub record Place : Type 0 where
  pub handle : Option LoneNode
  pub stored : Stored
  pub taken : List Stored

-- the nodes by their numbers, and all frames that handles gave out
pub record System : Type 0 where
  pub places : ℕ → Place
  pub frames : List Plain

abbrev pub new_place : Place
new_place = record { handle = None; stored = Nothing; taken = [] }

-- at first there is nothing
abbrev pub new_system : System
new_system = record { places = λ i. new_place; frames = [] }

abbrev pub last_of : Stored → List Stored → Stored
last_of e [] = e
last_of e (x ∷ xs) = last_of x xs

-- what is stored once all that was taken is
abbrev pub newest : Place → Stored
newest p = last_of p.stored p.taken

-- A batch behind what is stored. Behind anything but an image that a log may follow it is of no
-- use.
abbrev pub behind : Stored → List ℕ → Stored
behind (Image image batches) bytes =
    cond (begins_logged image) (Image image (batches ++ bytes)) Lost
behind e bytes = Lost

-- ---- Calls

-- a call that fills a handle; `New` is `new` and `make`
pub data Opening : Type 0 where
  New : (sizes : Option Shaped) (own : ℕ) → Opening
  FromImage : (bytes : List ℕ) → Opening
  FromBatches : (image batches : List ℕ) → Opening

abbrev pub Opens : Opening → ℕ → Result LoneNode Fault → Type 0
Opens (New sizes own) limit r = Made sizes own limit r
Opens (FromImage bytes) limit r = Read bytes limit r
Opens (FromBatches image batches) limit r = Reopened image batches limit r

-- A call on a full handle, with its arguments and its result. A call that writes bytes has its
-- buffer and `needed`, each before and after.
pub data Deed : Type 0 where
  Act : Event → Result Answer Fault → Deed
  Take : List ℕ → Result Answer Fault → Deed
  Work : (scans slots : ℕ) → CWork → Result (Unit {0}) Fault → Deed
  FrameAt : (to place : ℕ) → Result (Unit {0}) Fault → (old new : List ℕ) → (before needed : ℕ)
      → Deed
  AckFor : (from : ℕ) → Result (Unit {0}) Fault → (old new : List ℕ) → (before needed : ℕ) → Deed
  Frames : (to after : ℕ) → Result ℕ Fault → (old new : List ℕ) → (before needed : ℕ) → Deed
  TakeImage : Result ℕ Fault → (old new : List ℕ) → (before needed : ℕ) → Deed
  TakeBatch : Result ℕ Fault → (old new : List ℕ) → (before needed : ℕ) → Deed
  Keep : (mark : ℕ) → Result (Unit {0}) Fault → Deed
  Release : Result (Unit {0}) Fault → Deed
  Log : (on : Bool) → Result (Unit {0}) Fault → Deed
  Track : (on : Bool) → Result (Unit {0}) Fault → Deed
  Freed : (count : ℕ) → (old new : List CFreed) → Deed

-- what the call's contract says of the node before and after
abbrev pub Meets : Deed → LoneNode → LoneNode → Type 0
Meets (Act e r) n m = (is_own e ≡ true) × NodeActs e n m r
Meets (Take bytes r) n m = TookIn bytes n m r
Meets (Work scans slots work r) n m = NodeWorks scans slots n m work r
Meets (FrameAt to place r old new before needed) n m =
    WroteFrame n.node.core to place r old new before needed × (m ≡ n)
Meets (AckFor from r old new before needed) n m =
    WroteIf (ack_bytes n.node.core from) r old new before needed × (m ≡ n)
Meets (Frames to after r old new before needed) n m =
    Packs n.node.core to after r old new before needed × (m ≡ n)
Meets (TakeImage r old new before needed) n m = Imaged n m r old new before needed
Meets (TakeBatch r old new before needed) n m = Batched n m r old new before needed
Meets (Keep mark r) n m = Kept mark n m r
Meets (Release r) n m = Released n m r
Meets (Log on r) n m = Logs on n m r
Meets (Track on r) n m = Tracks on n m r
Meets (Freed count old new) n m = HandedOut n m count old new

-- the frames in the first places of a window
abbrev pub window_of : NodeView → ℕ → ℕ → List Plain
window_of n to zero = []
window_of n to (suc place) = window_of n to place ++ option_to_list (released_frame n to place)

-- the frames whose bytes a call gives out
abbrev pub gives : Deed → LoneNode → List Plain
gives (FrameAt to place (Ok u) old new before needed) n =
    option_to_list (released_frame n.node.core to place)
gives (AckFor from (Ok u) old new before needed) n =
    option_to_list (acknowledgement n.node.core from)
gives (Frames to after (Ok count) old new before needed) n = window_of n.node.core to WINDOW
gives d n = []

-- The place after a call on its handle. An image or a batch that was taken may be stored then;
-- after a release, none that was taken before may.
abbrev pub place_after : Deed → LoneNode → Place → Place
place_after (TakeImage (Ok mark) old new before needed) n p =
    record p { handle = Some n; taken = p.taken ++ Image (take needed new) [] ∷ [] }
place_after (TakeBatch (Ok mark) old new before needed) n p =
    record p { handle = Some n; taken = p.taken ++ behind (newest p) (take needed new) ∷ [] }
place_after (Release r) n p = record { handle = Some n; stored = Lost; taken = [] }
place_after d n p = record p { handle = Some n }

-- What happens to a node. A call fills its handle, or is made on its handle. The handle is freed,
-- or the process that has it ends, at any moment. Or its caller stores an image or a batch, after
-- which only these others may be stored.
pub data Call : Type 0 where
  Open : (i : ℕ) → Opening → (limit : ℕ) → Result LoneNode Fault → Call
  On : (i : ℕ) → Deed → Call
  End : (i : ℕ) → Call
  Store : (i : ℕ) → Stored → (others : List Stored) → Call

abbrev pub place_of : Call → ℕ
place_of (Open i how limit r) = i
place_of (On i d) = i
place_of (End i) = i
place_of (Store i e others) = i

-- only this place changes, and these frames are given out
pub record Becomes (s t : System) (i : ℕ) (p : Place) (given : List Plain) : Type 0 where
  pub here : t.places i ≡ p
  pub others : (k : ℕ) → k ≢ i → t.places k ≡ s.places k
  pub frames : t.frames ≡ s.frames ++ given

-- a call on the node in a handle, and the node after it
pub record DoesOn (i : ℕ) (d : Deed) (s t : System) : Type 0 where
  pub old : LoneNode
  pub new : LoneNode
  pub held : (s.places i).handle ≡ Some old
  pub meets : Meets d old new
  pub becomes : Becomes s t i (place_after d new (s.places i)) (gives d old)

abbrev pub Does : Call → System → System → Type 0
Does (Open i how limit (Ok n)) s t =
    Opens how limit (Ok n)
    × Becomes s t i (record { handle = Some n; stored = (s.places i).stored; taken = [] }) []
Does (Open i how limit (Err f)) s t = Opens how limit (Err f) × (t ≡ s)
Does (On i d) s t = DoesOn i d s t
Does (End i) s t = Becomes s t i (record (s.places i) { handle = None }) []
Does (Store i e others) s t =
    Becomes s t i (record (s.places i) { stored = e; taken = others }) []

-- ---- What a caller owes

-- the frame that a node is given, one of these handles gave out
abbrev pub IsOfSpace : System → Call → Type 0
IsOfSpace s (On i (Take bytes r)) = (f : Plain) → Fits f → bytes ≡ spelling f → Among f s.frames
IsOfSpace s c = Unit {0}

-- one handle at a time has a node
abbrev pub HasOneHolder : System → Call → Type 0
HasOneHolder s (Open i how limit r) = (s.places i).handle ≡ None
HasOneHolder s c = Unit {0}

-- a node is new while nothing is stored of it, of the one shape, and has its own number
abbrev pub IsMadeOnce : Shaped → System → Call → Type 0
IsMadeOnce shape s (Open i (New sizes own) limit r) =
    (sizes ≡ Some shape) × (own ≡ i) × ((s.places i).stored ≡ Nothing)
IsMadeOnce shape s c = Unit {0}

-- a node goes on from what is stored of it
abbrev pub GoesOn : System → Call → Type 0
GoesOn s (Open i (FromImage bytes) limit r) = (s.places i).stored ≡ Image bytes []
GoesOn s (Open i (FromBatches image batches) limit r) = (s.places i).stored ≡ Image image batches
GoesOn s c = Unit {0}

-- images and batches are stored in the order in which they were taken, and some may never be
abbrev pub IsInOrder : System → Call → Type 0
IsInOrder s (Store i e others) =
    (earlier : List Stored) × ((s.places i).taken ≡ earlier ++ e ∷ others)
IsInOrder s c = Unit {0}

-- an image or a batch counts as stored only once it is
abbrev pub IsStoredFirst : System → Call → Type 0
IsStoredFirst s (On i (Keep mark r)) =
    (n : LoneNode) → (s.places i).handle ≡ Some n → mark ≡ n.mark → (s.places i).taken ≡ []
IsStoredFirst s c = Unit {0}

-- what is owed for a call: the lines of markring.h, in their order
pub record Owes (shape : Shaped) (s : System) (c : Call) : Type 0 where
  pub of_space : IsOfSpace s c
  pub one_holder : HasOneHolder s c
  pub made_once : IsMadeOnce shape s c
  pub goes_on : GoesOn s c
  pub in_order : IsInOrder s c
  pub stored_first : IsStoredFirst s c

-- calls on the nodes of a space, one after another, for each of which all is done that is owed
abbrev pub Goes : Shaped → System → List Call → System → Type 0
Goes shape s [] t = t ≡ s
Goes shape s (c ∷ cs) t =
    (next : System) × (place_of c < shape.nodes) × Does c s next × Owes shape s c
    × Goes shape next cs t

-- ---- What the handles show

-- for each node, what is stored of it when it is opened next
abbrev pub Choice : Type 0
Choice = ℕ → Stored

-- what is stored now, or may be yet
abbrev pub choices_of : Place → List Stored
choices_of p = p.stored ∷ p.taken

abbrev pub MayFind : System → Choice → Type 0
MayFind s choice = (i : ℕ) → Among (choice i) (choices_of (s.places i))

-- the image and batches are those of a node that shows the state, with everything saved
pub record IsNodeOf (image batches : List ℕ) (s : NodeState) : Type 0 where
  pub node : WholeNode
  pub stored : IsStored image batches node
  pub shows : Shows node.core s
  pub saved : kept_view node.core ≡ node.core

-- the state that an opening finds
abbrev pub Finds : Shaped → ℕ → Stored → NodeState → Type 0
Finds shape i Nothing s = s ≡ new_node shape i
Finds shape i (Image image batches) s = IsNodeOf image batches s
Finds shape i Lost s = Unit {0}

-- the node of a handle shows the current state; without a node, that is the saved one
abbrev pub Holds : Option LoneNode → (saved current : NodeState) → Type 0
Holds None saved current = current ≡ saved
Holds (Some n) saved current = IsCarried saved current n.node.core

-- the state has what counts as saved with the last mark
abbrev pub AreIn : Option (Vec Counts) → NodeState → Type 0
AreIn None s = Unit {0}
AreIn (Some counts) s =
    (j : ℕ) → ((slice_index_or counts.items j no_counts).sent ≤ length (sent_to s j))
    × ((slice_index_or counts.items j no_counts).received ≤ got_from s.local j)

abbrev pub HasCounts : Option LoneNode → NodeState → Type 0
HasCounts None s = Unit {0}
HasCounts (Some n) s = AreIn n.counts s

-- a node of the space, if this is what the next opening finds, shows its saved and current states
pub record IsPlaceOf (shape : Shaped) (i : ℕ) (found : Stored) (p : Place)
    (saved current : NodeState) : Type 0 where
  pub holds : Holds p.handle saved current
  pub finds : Finds shape i found saved
  pub counts : found ≡ newest p → HasCounts p.handle saved

-- Together the nodes show a space that a run reaches, in which all frames that were given out are
-- released.
pub record IsShown (shape : Shaped) (s : System) (choice : Choice) (w : World) : Type 0 where
  pub steps : List Step
  pub reached : w ≡ run (new_world shape) steps
  pub each : (i : ℕ) → i < shape.nodes
      → IsPlaceOf shape i (choice i) (s.places i) (node_at w.saved i) (node_at w.current i)
  pub frames : (f : Plain) → Among f s.frames → IsInNet w f
