-- What a call does to a node, and to what its seat knows.
use Rattle.std.specs.Prelude.{◌≡◌, ◌≢◌, ℕ, ◌+◌, Bool, true, false, cond, Result, Ok, Err, IfOk, OnErr}
use Rattle.ids.specs.declared.refusal.Refusal.{Refusal}
use Rattle.msg.specs.Frames.{plain_data}
use Rattle.msg.specs.declared.frame.Ack.{Ack}
use Rattle.msg.specs.declared.frame.Data.{Data}
use Rattle.msg.specs.declared.frame.Frame.{Frame}
use Rattle.msg.specs.declared.frame.Frame.TheVariants as frame
use Rattle.model.specs.declared.event.Event.{Event}
use Rattle.model.specs.declared.event.Event.TheVariants as event
use Rattle.model.specs.declared.event.Answer.{Answer}
use Rattle.model.specs.declared.event.Answer.TheVariants as answer
use Rattle.model.specs.declared.step.Step.{Step}
use Rattle.model.specs.declared.step.Step.TheVariants as step
use Rattle.model.specs.State.{LocalState, NodeState, got_from}
use Rattle.model.specs.Steps.{act, is_shading}
use Rattle.model.specs.View.{NodeView, Follows, Performs, view_act}
use Rattle.node.specs.Keeping.{WholeNode, early_after}
use Rattle.model.specs.Effects.{is_change}
use Rattle.wire.specs.Entering.{known_after, Entered}
use Rattle.wire.specs.Views.{Known, Pair, ticks}
use Rattle.wire.specs.Plays.{Arrives, Happens}
use Rattle.cell.specs.declared.call.CallOutcome as trace
use Rattle.cell.specs.declared.call.CallOutcome.TheVariants as traced

-- whether, after this answer, an event happened since the last save
abbrev pub unsaved_after : Result Answer Refusal → Bool → Bool
unsaved_after (Ok a) was = cond (is_change a) true was
unsaved_after (Err r) was = was

-- the same after a call, depending on whether the seat's events changed
abbrev pub IsMarked : Known → Known → Bool → Bool → Type 0
IsMarked v w was is = (w.events ≡ v.events → is ≡ was) × (w.events ≢ v.events → is ≡ true)

-- The node was given an event, which is this step of the space. Its answer and its state afterwards
-- are what the definitions say of the state that it showed; a refusal is the first one that
-- applies. A refused event, the reading of a word, a repeat and an early message are not events of
-- the space. Everything else entered the history.
pub record Acted (e : Event) (s : Step) (result : Result Answer Refusal) (old new : NodeView)
    (v w : Known) : Type 0 where
  pub performs : Performs (is_shading e) result new (view_act old e)
  pub states : Follows e result new (act v.pair.current e)
  pub unchanged : OnErr result (new ≡ old)
  pub known : w ≡ known_after e s result v
  pub entered : IfOk result (λ a. is_change a ≡ true → Entered s v w)

-- The message is the next one from its sender. Some list of events leads to what the seat knows and
-- has released the message, so it may be delivered to the seat's node.
pub record IsDue (v : Known) (p : LocalState) (d : Data) : Type 0 where
  pub arrives : ∥ Arrives v (plain_data d) ∥₁
  pub receiver : d.to ≡ v.me
  pub turn : d.number ≡ got_from p d.from + 1

-- The same for a node with the messages that it keeps until their turn; `met` is what the event was
-- to its core. `Next` of a waiting message receives that message, or refuses it.
pub record Given (e met : Event) (s : Step) (result : Result Answer Refusal) (old new : WholeNode)
    (v w : Known) : Type 0 where
  pub acted : Acted met s result old.core new.core v w
  pub early : new.early ≡ early_after old.core.local old.early e result
  pub turn : met ≢ e → IfOk result (λ a. a ≡ answer.Received)
  pub due : (from : ℕ) (d : Data) → e ≡ event.Next from → met ≡ event.Data d
      → IsDue v old.core.local d

-- the same for an acknowledgement, which is not an event
pub record Acknowledged (a : Ack) (result : Result Answer Refusal) (old new : WholeNode)
    (v w : Known) : Type 0 where
  pub performs : Performs false result new.core (view_act old.core (event.Ack a))
  pub states : Follows (event.Ack a) result new.core (act v.pair.current (event.Ack a))
  pub unchanged : OnErr result (new.core ≡ old.core)
  pub early : new.early ≡ old.early
  pub known : w ≡ v

-- What is required to give a node this event as this step: if the event counts, the step happens to
-- the seat's node; if it doesn't count, nothing changes.
pub record MayAct (v : Known) (e : Event) (s : Step) : Type 0 where
  pub happens : (t : NodeState) (a : Answer) → act v.pair.current e ≡ Ok (t, a) → is_change a ≡ true
      → Happens v s (record { current = t; saved = v.pair.saved })
  pub quiet : (t : NodeState) (a : Answer) → act v.pair.current e ≡ Ok (t, a)
      → is_change a ≡ false → t ≡ v.pair.current

-- ---- frames that were taken

-- the event that a frame is
abbrev pub event_of : Frame → Event
event_of (frame.Data d) = event.Data d
event_of (frame.Ack a) = event.Ack a

-- What happened to a frame: a message is given to the node as this delivery, an acknowledgement as
-- itself.
abbrev pub Handled : Frame → Result Answer Refusal → WholeNode → WholeNode → Known → Known → Type 0
Handled (frame.Data d) result old new v w =
    Given (event.Data d) (event.Data d) (step.Deliver d.from v.me d.number) result old new v w
Handled (frame.Ack a) result old new v w = Acknowledged a result old new v w

-- ---- saves and reopenings

abbrev pub both_states : NodeState → Pair
both_states s = record { current = s; saved = s }

abbrev pub saved_by : Known → Known
saved_by v = ticks (step.Save v.me) (both_states v.pair.current) v

-- A reopening is a restart if the node that was found has the image of the last saved one; else it
-- is the save after which the disk failed.
abbrev pub found_step : Bool → ℕ → Step
found_step same i = cond same (step.Restart i) (step.Save i)

abbrev pub found_pair : Bool → Pair → Pair
found_pair same p = both_states (cond same p.saved p.current)

abbrev pub reopened_by : Bool → Known → Known
reopened_by same v = ticks (found_step same v.me) (found_pair same v.pair) v

abbrev pub restarted_by : Known → Known
restarted_by v = reopened_by true v

-- ---- traces

-- what the trace records of an answer
abbrev pub outcome_of_answer : Answer → trace.CallOutcome
outcome_of_answer answer.Repeat = traced.Repeat
outcome_of_answer answer.Early = traced.Early
outcome_of_answer a = traced.Done

abbrev pub outcome_of : Result Answer Refusal → trace.CallOutcome
outcome_of (Ok a) = outcome_of_answer a
outcome_of (Err e) = traced.Refused e

abbrev pub done_outcome : Result (Unit {0}) Refusal → trace.CallOutcome
done_outcome (Ok u) = traced.Done
done_outcome (Err e) = traced.Refused e
