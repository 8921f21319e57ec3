-- The theorems on programs that hold the nodes of a space, if their callers do what they owe.
use Rattle.std.specs.Prelude.{◌&&◌, [], ◌∷◌, cond, filter, not, true, ◌≡◌, ◌≢◌, ℕ, ◌<◌, ◌≤◌, Bool, false, List, Some, Result, Ok, Err, IfErr, IsTrue}
use Rattle.ids.specs.Limits.{Shaped, IsShape}
use Rattle.ids.specs.declared.names.Ref.{Ref}
use Rattle.ids.specs.declared.refusal.Refusal.{Refusal}
use Rattle.ids.specs.declared.refusal.Refusal.TheVariants.{Memory}
use Rattle.msg.specs.Frames.{plain_data}
use Rattle.msg.specs.declared.frame.Data.{Data}
use Rattle.frames.specs.Grammar.{Fits, spelling}
use Rattle.model.specs.declared.age.Scope.{Scope}
use Rattle.model.specs.declared.event.Answer.{Answer}
use Rattle.model.specs.declared.event.Event.{Event}
use Rattle.model.specs.declared.event.Event.TheVariants as event
use Rattle.model.specs.declared.step.Step.{Step}
use Rattle.model.specs.Agreement.{EndsAlike, OldGarbage}
use Rattle.model.specs.Cuts.{Among, cut}
use Rattle.model.specs.Reclaiming.{aging}
use Rattle.model.specs.State.{Object, Occupied, node_at, slot_at}
use Rattle.model.specs.World.{World, new_world, run}
use Rattle.laws.specs.Objects.{IsRun, MayBeTold, Sight, came, told, after, is_program, new_space}
use Rattle.laws.specs.Sights.{LooksLike, observed_in_cut}
use Rattle.laws.specs.Statements.{IsLeftAlone, IsSpentOrEarly, KeepsReachable}
use Rattle.c_values.specs.declared.fault.Fault.{Fault}
use Rattle.c_values.specs.declared.fields.CWork.{CWork}
use Rattle.c_values.specs.declared.fault.Fault.TheVariants as fault
use Rattle.c_handles.specs.Programs.{Act, Call, Choice, Does, Goes, IsShown, MayFind, Meets, On, Owes, System, Take, Work, new_system, place_of}
use Rattle.c_handles.specs.declared.lone.LoneNode.{LoneNode}

-- a program has come to this from nothing, and its caller did what it owed
pub record IsReachable (shape : Shaped) (s : System) : Type 0 where
  pub limits : IsShape shape
  pub calls : List Call
  pub goes : Goes shape new_system calls s

-- Whatever is stored of each node when it is opened next, together the handles show a space that a
-- run reaches.
abbrev pub ProgramsAreShown : Type 0
ProgramsAreShown =
    (shape : Shaped) (s : System) → IsReachable shape s → (choice : Choice) → MayFind s choice
    → (w : World) × IsShown shape s choice w

-- For each choice of what is stored after some calls, there is one before them, with which the
-- space that the handles showed goes on to the one that they show.
abbrev pub ProgramsGoOn : Type 0
ProgramsGoOn =
    (shape : Shaped) (s t : System) (calls : List Call) → IsReachable shape s
    → Goes shape s calls t → (choice : Choice) → MayFind t choice
    → (before : Choice) × MayFind s before
    × ((w : World) → IsShown shape s before w
    → (later : List Step) × IsShown shape t choice (run w later))

-- what programs are told, of what is seen
abbrev pub is_told : Sight → Bool
is_told (told i e r) = true
is_told (came from to) = false

abbrev pub tolds : List Sight → List Sight
tolds sights = filter is_told sights

abbrev pub Telling : Type 0
Telling = (ℕ → Bool) → List Sight

-- no program is told anything
abbrev pub nothing_told : Telling
nothing_told saved = []

abbrev pub is_memory : Refusal → Bool
is_memory Memory = true
is_memory e = false

-- What the program of a node is told about its event, in choices of states that have the node's
-- current one. That memory ran out doesn't count, nor that a link is congested.
abbrev pub told_of_event : ℕ → Event → Result Answer Refusal → Telling
told_of_event i e (Ok a) saved =
    cond (is_program e && not (saved i)) (told i e (Ok a) ∷ []) []
told_of_event i e (Err x) saved =
    cond (is_memory x) [] (cond (is_program e && not (saved i)) (told i e (Err x) ∷ []) [])

abbrev pub told_by : ℕ → Event → Result Answer Fault → Telling
told_by i e (Ok a) = told_of_event i e (Ok a)
told_by i e (Err (fault.Refused x)) = told_of_event i e (Err x)
told_by i e (Err f) = nothing_told

abbrev pub told_in : Call → Telling
told_in (On i (Act e r)) = told_by i e r
told_in c = nothing_told

-- So does each call. In the steps by which the space goes on then, programs are told what the call
-- returns, and nothing else.
abbrev pub CallsGoOn : Type 0
CallsGoOn =
    (shape : Shaped) (s t : System) (c : Call) → IsReachable shape s → place_of c < shape.nodes
    → Does c s t → Owes shape s c → (choice : Choice) → MayFind t choice
    → (before : Choice) × MayFind s before
    × ((w : World) → IsShown shape s before w
    → (later : List Step) × IsShown shape t choice (run w later)
    × ((saved : ℕ → Bool) → tolds (observed_in_cut w later saved) ≡ told_in c saved))

-- these are calls that give events to this node
abbrev pub AreActs : ℕ → List Call → Type 0
AreActs i [] = Unit {0}
AreActs i (On j (Act e r) ∷ cs) = (j ≡ i) × AreActs i cs
AreActs i (c ∷ cs) = ⊥

-- A turn of the collector does what calls do that give the node its events one by one.
abbrev pub TurnsAreCalls : Type 0
TurnsAreCalls =
    (shape : Shaped) (s t : System) (i scans slots : ℕ) (work : CWork)
    (r : Result (Unit {0}) Fault) → i < shape.nodes → Does (On i (Work scans slots work r)) s t
    → (calls : List Call) × AreActs i calls × Goes shape s calls t

-- The theorems on runs hold of each space that handles show.
abbrev pub OfEveryShown : (World → Type 0) → Type 0
OfEveryShown P =
    (shape : Shaped) (s : System) (choice : Choice) (w : World) → IsShape shape
    → IsShown shape s choice w → P w

-- The same of theorems that speak of the number of nodes.
abbrev pub OfShownSpaces : (ℕ → World → Type 0) → Type 0
OfShownSpaces P =
    (shape : Shaped) (s : System) (choice : Choice) (w : World) → IsShape shape
    → IsShown shape s choice w → P shape.nodes w

-- A node is in the handle of this number, in a system that shows a space.
pub record IsHeld (shape : Shaped) (s : System) (choice : Choice) (w : World) (i : ℕ)
    (n : LoneNode) : Type 0 where
  pub limits : IsShape shape
  pub shown : IsShown shape s choice w
  pub inside : i < shape.nodes
  pub held : (s.places i).handle ≡ Some n

-- The event frees nothing that is reachable, whichever of their states the other nodes go on from.
abbrev pub FreesNone : Event → (Object → Object) → Type 0
FreesNone e makes =
    (shape : Shaped) (s : System) (choice : Choice) (w : World) (i : ℕ) (n m : LoneNode)
    (a : Answer) → IsHeld shape s choice w i n → Meets (Act e (Ok a)) n m
    → KeepsReachable makes w i n.node.core.local.heap m.node.core.local.heap

abbrev pub SweepsFreeNone : Type 0
SweepsFreeNone = (count : ℕ) → FreesNone (event.Sweep count) (λ o. o)

abbrev pub ReclaimsFreeNone : Type 0
ReclaimsFreeNone = (scope : Scope) → FreesNone (event.Reclaim scope) aging

-- If the node in a handle counts a cycle's marking as ended, it has ended, in each choice of
-- current and saved states that has this node's current one.
abbrev pub HandlesAgree : Type 0
HandlesAgree =
    (shape : Shaped) (s : System) (choice : Choice) (w : World) (i cycle : ℕ) (n : LoneNode)
    → IsHeld shape s choice w i n → cycle ≤ n.node.core.local.phases.ended
    → (saved : ℕ → Bool) → saved i ≡ false → EndsAlike shape.nodes cycle (cut w saved)

-- Old garbage is gone. An object was saved, and reachable in no choice of states, before node 0
-- began a cycle. Once a handle's node has swept that cycle or a later one, it no longer has the
-- object, unless a program resolved a reference that led to it.
abbrev pub HandlesDropOldGarbage : Type 0
HandlesDropOldGarbage =
    (shape : Shaped) (s t : System) (before choice : Choice) (w : World) (later : List Step)
    (cycle : ℕ) (r : Ref) (n : LoneNode) (o : Object) → IsShown shape s before w
    → IsHeld shape t choice (run w later) r.node n
    → (node_at w.current 0).local.phases.cycle < cycle → OldGarbage w r → IsLeftAlone w r later
    → cycle ≤ n.node.core.local.phases.swept
    → slot_at n.node.core.local.heap r.slot ≡ Occupied r.generation o → ⊥

-- A message that was given out, and that its receiver takes, is refused in two cases only, if there
-- is memory: it comes too early, or a message that it makes the node send gets no number.
abbrev pub NoneIsRefusedInTurn : Type 0
NoneIsRefusedInTurn =
    (shape : Shaped) (s : System) (choice : Choice) (w : World) (i : ℕ) (n m : LoneNode) (d : Data)
    (e : Refusal) → IsHeld shape s choice w i n → Among (plain_data d) s.frames
    → Fits (plain_data d) → d.to ≡ i
    → Meets (Take (spelling (plain_data d)) (Err (fault.Refused e))) n m → e ≢ Memory
    → IsSpentOrEarly n.node.core.local d.from d.number e

-- The collector can't be seen. What programs were told and received in the run, as far as it
-- belongs to a choice of current and saved states, is a run of a space without a collector, which
-- looks like that choice at its end.
abbrev pub HandlesAreUnseen : Type 0
HandlesAreUnseen =
    (shape : Shaped) (s : System) (choice : Choice) (w : World) → IsShape shape
    → (shown : IsShown shape s choice w) (saved : ℕ → Bool)
    → IsRun shape (new_space shape) (observed_in_cut (new_world shape) shown.steps saved)
    × LooksLike (after (new_space shape) (observed_in_cut (new_world shape) shown.steps saved))
    (cut w saved)

-- a result of the node, as a call returns it
abbrev pub returned : Result Answer Refusal → Result Answer Fault
returned (Ok a) = Ok a
returned (Err e) = Err (fault.Refused e)

-- Whatever a program is told about its event, a program of the space without a collector may be
-- told after those sights, unless memory ran out, or the link was congested.
abbrev pub HandlesAreToldSo : Type 0
HandlesAreToldSo =
    (shape : Shaped) (s : System) (choice : Choice) (w : World) (i : ℕ) (n m : LoneNode)
    (e : Event) (result : Result Answer Refusal) (h : IsHeld shape s choice w i n)
    (saved : ℕ → Bool) → IsTrue (is_program e) → saved i ≡ false
    → Meets (Act e (returned result)) n m → IfErr result (λ x. x ≢ Memory)
    → MayBeTold (after (new_space shape)
    (observed_in_cut (new_world shape) h.shown.steps saved)) i shape e result
