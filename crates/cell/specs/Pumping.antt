-- What happened to a frame from another node, and to one for another node.
use Rattle.std.specs.Prelude.{◌≡◌, ◌≢◌, ℕ, Bool, true, false, List, [], ◌∷◌, ◌++◌, ◌⊎◌, Option, Some, None, Result, Ok, Err, IfErr, IsTrue}
use Rattle.circular_buffer.specs.Buffer.{keep_last}
use Rattle.ids.specs.declared.limits.TheConstants.{TRACE_EVENTS}
use Rattle.ids.specs.declared.refusal.Refusal.{Refusal}
use Rattle.ids.specs.declared.refusal.Refusal.TheVariants.{Memory}
use Rattle.frames.specs.Grammar.{is_letter}
use Rattle.msg.specs.Frames.{Plain, plain}
use Rattle.msg.specs.declared.frame.Frame.{Frame}
use Rattle.model.specs.declared.event.Answer.{Answer}
use Rattle.model.specs.Steps.{is_memory_free}
use Rattle.model.specs.declared.event.Event.TheVariants as event
use Rattle.model.specs.declared.step.Step.TheVariants as step
use Rattle.msg.specs.declared.frame.Data.{Data}
use Rattle.node.specs.Keeping.{WholeNode, waiting}
use Rattle.cell.specs.Lines.{call_of}
use Rattle.cell.specs.declared.trace.TraceLine.{TraceLine}
use Rattle.wire.specs.Rule as rule
use Rattle.wire.specs.Plays.{Arrives, IsReleased}
use Rattle.wire.specs.Readers.{inbox, known}
use Rattle.wire.specs.Views.{Known, FindsOther}
use Rattle.cell.specs.Cells.{CellView}
use Rattle.wire.specs.declared.pumped.Inbound.{Inbound}
use Rattle.wire.specs.declared.pumped.Inbound.TheVariants as inbound
use Rattle.wire.specs.declared.pumped.Outbound.{Outbound}
use Rattle.wire.specs.declared.pumped.Outbound.TheVariants as outbound
use Rattle.wire.specs.Sending.{TookOut, emptied}
use Rattle.cell.specs.Events.{event_of, outcome_of, Given, Handled}

-- The seat took a frame from that node to its own node. Some list of events that leads to the
-- seat's pair has released the frame. The mailbox was emptied, the node was given the frame and
-- answered this, and a line about it was added to the trace. What takes no memory isn't refused for
-- lack of memory.
pub record TookIn (box from : ℕ) (result : Result Answer Refusal) (old new : WholeNode)
    (v w : Known) (before after : List TraceLine) : Type 0 where
  pub frame : Frame
  pub sender : rule.sender (plain frame) ≡ from
  pub receiver : rule.receiver (plain frame) ≡ v.me
  pub released : IsReleased v.opening (plain frame)
  pub arrives : Arrives v (plain frame)
  -- the places of the two steps on the mailbox
  pub taken : ℕ
  pub cleared : ℕ
  pub handled : Handled frame result old new (emptied box taken cleared (plain frame) v) w
  pub memory_free : IsTrue (is_memory_free old.core.local (event_of frame))
      → IfErr result (λ e. e ≢ Memory)
  pub traced : after ≡ keep_last TRACE_EVENTS (before
      ++ record { call = call_of (event_of frame); outcome = outcome_of result } ∷ [])

-- The seat took a letter with references and bytes from that node, and memory for it ran out before
-- the node was given it. It is lost, as a net may lose frames; nothing else happened.
pub record LostIn (box from : ℕ) (e : Refusal) (old new : WholeNode) (v w : Known)
    (before after : List TraceLine) : Type 0 where
  pub memory : e ≡ Memory
  pub frame : Plain
  pub letter : is_letter frame ≡ true
  pub took : TookOut box from frame v w
  pub node : new ≡ old
  pub trace : after ≡ before

-- The waiting message was given to the node as its delivery, with this answer, and a line about it
-- was added to the trace. The mailbox wasn't touched.
pub record TookNext (from : ℕ) (d : Data) (result : Result Answer Refusal) (old new : WholeNode)
    (v w : Known) (before after : List TraceLine) : Type 0 where
  pub given : Given (event.Next from) (event.Data d) (step.Deliver from v.me d.number) result
      old new v w
  pub memory_free : IsTrue (is_memory_free old.core.local (event.Data d))
      → IfErr result (λ e. e ≢ Memory)
  pub traced : after ≡ keep_last TRACE_EVENTS (before
      ++ record { call = call_of (event.Next from); outcome = outcome_of result } ∷ [])

-- the seat took a step on the mailbox that found it not full, and did nothing else
pub record SawEmpty (box : ℕ) (old new : WholeNode) (v w : Known) (before after : List TraceLine)
    : Type 0 where
  pub found : FindsOther box 1 v w
  pub node : new ≡ old
  pub trace : after ≡ before

-- What happened to the waiting message, or if none waits, to a mailbox from another node. The
-- mailbox is called empty only if the seat took a step on it that found it not full.
abbrev pub PumpedBy : Option Data → ℕ → ℕ → Result Inbound Refusal → WholeNode → WholeNode → Known
    → Known → List TraceLine → List TraceLine → Type 0
PumpedBy (Some d) box from (Ok inbound.Empty) old new v w before after = ⊥
PumpedBy (Some d) box from (Ok (inbound.Event a)) old new v w before after =
    TookNext from d (Ok a) old new v w before after
PumpedBy (Some d) box from (Err e) old new v w before after =
    TookNext from d (Err e) old new v w before after
PumpedBy None box from (Ok inbound.Empty) old new v w before after =
    SawEmpty box old new v w before after
PumpedBy None box from (Ok (inbound.Event a)) old new v w before after =
    TookIn box from (Ok a) old new v w before after
PumpedBy None box from (Err e) old new v w before after =
    TookIn box from (Err e) old new v w before after ⊎ LostIn box from e old new v w before after

-- ---- The same for cells

abbrev pub FoundEmpty : {D : Type 0} → ℕ → CellView D → CellView D → Type 0
FoundEmpty from old new =
    SawEmpty (inbox old.seat from) old.node new.node (known old.seat) (known new.seat) old.trace
    new.trace

abbrev pub TookFrom : {D : Type 0} → ℕ → Result Answer Refusal → CellView D → CellView D → Type 0
TookFrom from result old new =
    TookIn (inbox old.seat from) from result old.node new.node (known old.seat) (known new.seat)
    old.trace new.trace

-- the frame in the mailbox was given to the node, or lost
abbrev pub TookOrLost : {D : Type 0} → ℕ → Result Answer Refusal → CellView D → CellView D → Type 0
TookOrLost from (Ok a) old new = TookFrom from (Ok a) old new
TookOrLost from (Err e) old new =
    TookFrom from (Err e) old new
    ⊎ LostIn (inbox old.seat from) from e old.node new.node (known old.seat) (known new.seat)
    old.trace new.trace

abbrev pub PumpedIn : {D : Type 0} → ℕ → Result Inbound Refusal → CellView D → CellView D → Type 0
PumpedIn from result old new =
    PumpedBy (waiting old.node.early from) (inbox old.seat from) from result old.node new.node
    (known old.seat) (known new.seat) old.trace new.trace

-- ---- Frames that go out

abbrev pub is_out : Outbound → Bool
is_out outbound.Sent = true
is_out outbound.Full = false
