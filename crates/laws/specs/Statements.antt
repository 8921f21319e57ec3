-- The theorems. Each is a property of a space at one time, with its current and its saved states.
-- It holds after any steps (`OfEveryRun`): events of programs, deliveries in any order and any
-- number of times, acknowledgements, saves and restarts.
--
-- A cut is one choice of a state of each node, the current or the saved one. It is what the nodes
-- go on from if those nodes restart whose saved state is chosen.
use Rattle.std.specs.Prelude.{◌≡◌, ◌≢◌, ℕ, ◌+◌, ◌<◌, ◌≤◌, Bool, true, false, List, [], ◌∷◌, length, Option, Some, None, Result, Ok, Err, slice_index_or, ◌⊎◌}
use Rattle.std.specs.List.{AllByRecursion}
use Rattle.ids.specs.Limits.{Shaped, IsShape}
use Rattle.ids.specs.declared.limits.TheConstants.{WINDOW}
use Rattle.ids.specs.declared.names.Ref.{Ref}
use Rattle.ids.specs.declared.refusal.Refusal.{Refusal}
use Rattle.ids.specs.declared.refusal.Refusal.TheVariants.{LinkSpent, NotNow, OutOfOrder}
use Rattle.msg.specs.Frames.{Plain, data_frame, ack_frame, plain_ack}
use Rattle.msg.specs.declared.body.Body.{Body}
use Rattle.msg.specs.declared.body.Message.{Message}
use Rattle.msg.specs.declared.frame.Ack.{Ack}
use Rattle.model.specs.declared.event.Event.{Event}
use Rattle.model.specs.declared.event.Event.TheVariants as event
use Rattle.model.specs.declared.event.Answer.TheVariants as answer
use Rattle.model.specs.declared.step.Step.{Step}
use Rattle.model.specs.declared.step.Step.TheVariants as step
use Rattle.model.specs.declared.step.Outcome.{Outcome}
use Rattle.model.specs.declared.step.Outcome.TheVariants as outcome
use Rattle.model.specs.declared.event.Answer.{Answer}
use Rattle.model.specs.State.{Heap, Object, Occupied, LocalState, NodeState, got_from, node_at, slot_at}
use Rattle.model.specs.Shading.{is_open}
use Rattle.model.specs.Steps.{target_of, act, receive}
use Rattle.model.specs.World.{World, new_world, run, happens, released, acknowledged, release_count, take_step, outcome_of, is_event, IsInNet}
use Rattle.model.specs.Cuts.{Cut, cut, IsLive, Reachable, PlainRun}
use Rattle.model.specs.Agreement.{total, flow, is_counted, balance, EndsAlike, OldGarbage}

-- The property holds of every space after any list of steps. It may speak of the number of nodes.
abbrev pub OfSpaces : (ℕ → World → Type 0) → Type 0
OfSpaces P =
    (shape : Shaped) → IsShape shape → (steps : List Step)
    → P shape.nodes (run (new_world shape) steps)

abbrev pub OfEveryRun : (World → Type 0) → Type 0
OfEveryRun P = OfSpaces (λ nodes w. P w)

-- A step that isn't an event leaves every space as it is.
abbrev pub OnlyEventsChange : Type 0
OnlyEventsChange = (w : World) (s : Step) → is_event w s ≡ false → happens w s ≡ w

-- Saves and restarts show in no cut. Every cut of any later time comes about by events and receipts
-- alone, from some cut of this time.
abbrev pub CutsExtend : World → Type 0
CutsExtend w =
    (later : List Step) (choice : ℕ → Bool)
    → (earlier_choice : ℕ → Bool) × PlainRun (cut w earlier_choice) (cut (run w later) choice)

-- Every reachable reference is live, in every cut. Reachable are the references in registers,
-- letters and messages in flight, and all that can be read from there on.
abbrev pub ReachIsLive : World → Type 0
ReachIsLive w =
    (choice : ℕ → Bool) (r : Ref) → Reachable (cut w choice) r → IsLive (cut w choice) r

-- A message about an object is received by the object's owner, and the owner still has the object.
-- So a Mark finds the object that it is to mark, a Put the one to write, and a Get the one to read.
-- This holds however long they were in flight, whatever was swept meanwhile, and whatever was saved
-- and restarted.
abbrev pub TargetsAreLive : World → Type 0
TargetsAreLive w =
    (from to number : ℕ) (x : Message) (target : Ref)
    → released w from to number ≡ Some x → target_of x.body ≡ Some target
    → outcome_of (take_step w (step.Deliver from to number))
    ≡ Ok (outcome.Answer answer.Received)
    → (target.node ≡ to) × IsLive (cut w (λ _. false)) target

-- The balances add up, in every cut. Take what each node has sent of the messages that node 0's
-- cycle counts, less what it has received of them. The sum over all nodes is the number of these
-- messages in flight.
abbrev pub BalancesAddUp : World → Type 0
BalancesAddUp w =
    (choice : ℕ → Bool)
    → total (length w.current)
    (λ i. balance (cut w choice 0).local.phases.cycle (cut w choice i).local)
    ≡ flow (length w.current) (is_counted (cut w choice 0).local.phases.cycle) (cut w choice)

-- Whenever a node counts a cycle's marking as ended, it has ended, and node 0 counts it so too.
-- This holds in every cut. Marking has then terminated: every node has joined the cycle, no node
-- that is in it has a grey object, and no message that it counts is in flight. Every node that is
-- in a later cycle counts it as ended too.
abbrev pub NodesAgree : World → Type 0
NodesAgree w =
    (choice : ℕ → Bool) (i cycle : ℕ) → i < length w.current
    → cycle ≤ (cut w choice i).local.phases.ended
    → EndsAlike (length w.current) cycle (cut w choice)

-- The heaps are those of node i before and after a step. Take a cut with the node's current state,
-- and with any states of the other nodes, current or saved. If an object of the node is reachable
-- in this cut, it is in its slot before the step. After it, what `makes` makes of it is there.
abbrev pub KeepsReachable : (Object → Object) → World → ℕ → (old new : Heap) → Type 0
KeepsReachable makes w i old new =
    (choice : ℕ → Bool) (r : Ref) → choice i ≡ false → Reachable (cut w choice) r → r.node ≡ i
    → (o : Object) × (slot_at old r.slot ≡ Occupied r.generation o)
    × (slot_at new r.slot ≡ Occupied r.generation (makes o))

-- A sweep frees nothing that is reachable, and leaves it as it is.
abbrev pub SweepsFreeNoneReachable : World → Type 0
SweepsFreeNoneReachable w =
    (i count : ℕ) (s : NodeState) (a : Answer)
    → act (node_at w.current i) (event.Sweep count) ≡ Ok (s, a)
    → KeepsReachable (λ o. o) w i (node_at w.current i).local.heap s.local.heap

-- One reference leads to another: they are the same, or a place of its object leads there.
pub data Leads (c : Cut) (r : Ref) : Ref → Type 0 where
  is_it : Leads c r r
  over_place : {q : Ref} (owner : Ref) (o : Object) (k : ℕ)
      → slot_at (c owner.node).local.heap owner.slot ≡ Occupied owner.generation o
      → slice_index_or o.places k None ≡ Some q → Leads c r q → Leads c r owner

-- Each of these steps that is a node's own event, and isn't refused, has the property.
abbrev pub IfDone : (Event → Type 0) → Step → Result Outcome Refusal → Type 0
IfDone P (step.Act i e) (Ok o) = P e
IfDone P s r = Unit {0}

abbrev pub EachDone : (Event → Type 0) → World → List Step → Type 0
EachDone P w [] = Unit {0}
EachDone P w (s ∷ ss) = IfDone P s (outcome_of (take_step w s)) × EachDone P (happens w s) ss

-- the reference that a Resolve brings back
abbrev pub resolved : Event → Option Ref
resolved (event.Resolve register reference) = Some reference
resolved e = None

-- The event resolves no reference that leads to this one now, in any cut.
abbrev pub LeavesAlone : World → Ref → Event → Type 0
LeavesAlone w r e =
    (q : Ref) → resolved e ≡ Some q → (choice : ℕ → Bool) → Leads (cut w choice) r q → ⊥

-- So does each of these later steps.
abbrev pub IsLeftAlone : World → Ref → List Step → Type 0
IsLeftAlone w r later = EachDone (LeavesAlone w r) w later

-- Old garbage goes, rings of objects across nodes included. Take a cycle that node 0 hasn't begun
-- yet. Take an object that its owner's saved state holds, and that is reachable in no cut. Once its
-- owner has swept that cycle or a later one, it no longer has the object, in any cut of any later
-- time, unless a program resolved a reference that led to it.
abbrev pub OldGarbageGoes : World → Type 0
OldGarbageGoes w =
    (later : List Step) (choice : ℕ → Bool) (cycle : ℕ) (r : Ref)
    → (node_at w.current 0).local.phases.cycle < cycle → OldGarbage w r → IsLeftAlone w r later
    → cycle ≤ (cut (run w later) choice r.node).local.phases.swept
    → IsLive (cut (run w later) choice) r → ⊥

-- no step restarts this node
abbrev pub StaysUp : ℕ → List Step → Type 0
StaysUp i steps = AllByRecursion (λ s. s ≢ step.Restart i) steps

-- a reference to an object that its owner's current state has, saved or not, and that is reachable
-- in no cut
pub record Garbage (w : World) (r : Ref) : Type 0 where
  pub object : Object
  pub current : slot_at (node_at w.current r.node).local.heap r.slot ≡ Occupied r.generation object
  pub unreachable : (choice : ℕ → Bool) → Reachable (cut w choice) r → ⊥

-- The same of garbage that no save need ever hold, as long as its owner doesn't restart. (A restart
-- to a state without the object takes it back, and its slot may get another one.)
abbrev pub GarbageGoes : World → Type 0
GarbageGoes w =
    (later : List Step) (choice : ℕ → Bool) (cycle : ℕ) (r : Ref)
    → (node_at w.current 0).local.phases.cycle < cycle → Garbage w r → IsLeftAlone w r later
    → StaysUp r.node later → choice r.node ≡ false
    → cycle ≤ (cut (run w later) choice r.node).local.phases.swept
    → IsLive (cut (run w later) choice) r → ⊥

-- A node that resolves a reachable object of its own gets it, or is told to try again, which may be
-- while it marks. It is never told that there is no such object.
abbrev pub GetsBack : LocalState → Result (NodeState × Answer) Refusal → Type 0
GetsBack p (Ok x) = x.1 ≡ answer.Done
GetsBack p (Err e) = (e ≡ NotNow) × (is_open p ≡ true)

abbrev pub ReachResolves : World → Type 0
ReachResolves w =
    (choice : ℕ → Bool) (i register : ℕ) (r : Ref) → choice i ≡ false
    → Reachable (cut w choice) r → r.node ≡ i
    → register < length (node_at w.current i).local.heap.registers
    → GetsBack (node_at w.current i).local
    (act (node_at w.current i) (event.Resolve register r))

-- Whatever was released stays released, messages and acknowledgements alike, whatever is saved and
-- restarted meanwhile. So a frame may be given to its receiver at any later time.
abbrev pub NetGrows : World → Type 0
NetGrows w = (later : List Step) (f : Plain) → IsInNet w f → IsInNet (run w later) f

-- A message that it makes the receiver send would need a number above the greatest, or it is so
-- early that the receiver has no place for it.
abbrev pub IsSpentOrEarly : LocalState → (from number : ℕ) → Refusal → Type 0
IsSpentOrEarly p from number e =
    (e ≡ LinkSpent) ⊎ ((e ≡ OutOfOrder) × (got_from p from + WINDOW < number))

-- A released message fits its receiver. It is refused in these two cases only, so never in its turn
-- while there are numbers.
abbrev pub NoneRefusedInTurn : World → Type 0
NoneRefusedInTurn w =
    (from to number stamp : ℕ) (body : Body) (e : Refusal)
    → IsInNet w (data_frame from to number stamp body)
    → receive (node_at w.current to) from to number stamp body ≡ Err e
    → IsSpentOrEarly (node_at w.current to).local from number e

-- Only released messages are acknowledged. An acknowledgement covers no more messages than a saved
-- state of their sender holds, whatever was saved and restarted meanwhile.
abbrev pub NoneBeyond : World → Type 0
NoneBeyond w =
    (by of number : ℕ) → IsInNet w (ack_frame by of number) → number ≤ release_count w of by

-- An acknowledgement fits its receiver, which accepts it at any time. So it is never refused as one
-- for another node. Nor is it refused for going too far, since only released messages are
-- acknowledged.
abbrev pub AcknowledgementsGoThrough : World → Type 0
AcknowledgementsGoThrough w =
    (a : Ack) → IsInNet w (plain_ack a)
    → act (node_at w.current a.of) (event.Ack a) ≡ Ok (node_at w.current a.of, answer.Done)

-- A Hand hands over the greatest acknowledgement between two nodes, and it succeeds at any time.
abbrev pub HandsGoThrough : World → Type 0
HandsGoThrough w =
    (from to : ℕ) → from < length w.current → to < length w.current → from ≢ to
    → take_step w (step.Hand from to) ≡ Ok (w, outcome.Handed (acknowledged w from to))

-- Whatever a node has acknowledged, its current state has received, also after a restart. So an
-- acknowledged message is never needed again.
abbrev pub AcknowledgedIsTakenIn : World → Type 0
AcknowledgedIsTakenIn w =
    (by of number : ℕ) → IsInNet w (ack_frame by of number)
    → number ≤ got_from (node_at w.current by).local of
