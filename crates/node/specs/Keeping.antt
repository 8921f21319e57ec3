-- What a node keeps in addition to its core: early messages of other nodes.
use Rattle.std.specs.Prelude.{◌≡◌, ℕ, ◌+◌, ◌-◌, List, length, replicate, Option, Some, None, Result, Ok, Err, IfErr, IsTrue, ◌≢◌, slice_index_or, slice_set}
use Rattle.ids.specs.Limits.{Shaped}
use Rattle.ids.specs.declared.refusal.Refusal.{Refusal}
use Rattle.ids.specs.declared.refusal.Refusal.TheVariants.{Memory}
use Rattle.msg.specs.declared.frame.Data.{Data}
use Rattle.model.specs.declared.event.Event.{Event}
use Rattle.model.specs.declared.event.Event.TheVariants as event
use Rattle.model.specs.declared.event.Answer.{Answer}
use Rattle.model.specs.declared.event.Answer.TheVariants as answer
use Rattle.model.specs.declared.step.Step.{Step}
use Rattle.model.specs.declared.step.Step.TheVariants as step
use Rattle.model.specs.State.{LocalState, got_from}
use Rattle.model.specs.Steps.{is_memory_free, is_shading}
use Rattle.model.specs.View.{NodeView, Performed, new_view, kept_view, kept_with, view_act}
use Rattle.link.specs.Early.{no_early, place_at, placed, shifted, emptied}

-- for each node of the space the places of its next messages, each empty or with a frame
abbrev pub Rings : Type 0
Rings = List (List (Option Data))

-- a node: the part that is saved, and what it keeps until its turn
pub record WholeNode : Type 0 where
  pub core : NodeView
  pub early : Rings

abbrev pub no_rings : ℕ → Rings
no_rings nodes = replicate nodes no_early

-- a node that keeps no frame
abbrev pub alone : NodeView → WholeNode
alone n = record { core = n; early = no_rings n.local.shape.nodes }

abbrev pub new_whole : Shaped → ℕ → WholeNode
new_whole shape own = alone (new_view shape own)

-- all messages count as saved
abbrev pub kept_whole : WholeNode → WholeNode
kept_whole n = record n { core = kept_view n.core }

-- what was sent to a node and received from it counts as saved up to these numbers
abbrev pub kept_whole_with : ℕ → ℕ → ℕ → WholeNode → WholeNode
kept_whole_with peer sent received n =
    record n { core = kept_with peer sent received n.core }

abbrev pub ring_of : Rings → ℕ → List (Option Data)
ring_of es from = slice_index_or es from no_early

-- the frame of the message to be received next, if it is kept
abbrev pub waiting : Rings → ℕ → Option Data
waiting es from = place_at (ring_of es from) 0

abbrev pub next_event : ℕ → Option Data → Event
next_event from None = event.Next from
next_event from (Some d) = event.Data d

-- The event as it reaches the core: Next becomes the frame that waits, if there is one.
abbrev pub met : Rings → Event → Event
met es (event.Next from) = next_event from (waiting es from)
met es e = e

-- The node's own event as a step of the space: Next of a frame that waits is its delivery.
abbrev pub next_step : ℕ → ℕ → Option Data → Step
next_step own from None = step.Act own (event.Next from)
next_step own from (Some d) = step.Deliver from own d.number

abbrev pub own_step : Rings → ℕ → Event → Step
own_step es own (event.Next from) = next_step own from (waiting es from)
own_step es own e = step.Act own e

-- ---- what is kept afterwards

abbrev pub shifted_at : Rings → ℕ → Rings
shifted_at es from = slice_set es from (shifted (ring_of es from))

abbrev pub emptied_at : Rings → ℕ → Rings
emptied_at es from = slice_set es from (emptied (ring_of es from))

abbrev pub placed_at : Rings → ℕ → ℕ → Data → Rings
placed_at es from place d = slice_set es from (placed (ring_of es from) place d)

-- The early messages after a message, when `taken` messages of its sender were received before it.
-- If it was received, each frame moves to the place before. If it was early, it is put into its
-- place.
abbrev pub after_data : ℕ → Rings → Data → Result Answer Refusal → Rings
after_data taken es d (Ok answer.Received) = shifted_at es d.from
after_data taken es d (Ok answer.Early) = placed_at es d.from (d.number - taken - 1) d
after_data taken es d r = es

-- After Next: a frame that was refused leaves its place, unless memory ran out. It comes again,
-- since its sender keeps it until it is acknowledged.
abbrev pub after_next : Rings → ℕ → Option Data → Result Answer Refusal → Rings
after_next es from None r = es
after_next es from (Some d) (Ok a) = shifted_at es from
after_next es from (Some d) (Err Memory) = es
after_next es from (Some d) (Err e) = emptied_at es from

abbrev pub early_after : LocalState → Rings → Event → Result Answer Refusal → Rings
early_after p es (event.Data d) r = after_data (got_from p d.from) es d r
early_after p es (event.Next from) r = after_next es from (waiting es from) r
early_after p es e r = es

-- ---- what holds of everything that is kept

-- what holds of every frame of a ring
abbrev pub OfRing : (Data → Type 0) → List (Option Data) → Type 0
OfRing Q ring = (place : ℕ) (d : Data) → place_at ring place ≡ Some d → Q d

-- what holds of every frame that a node keeps, together with the node that sent it
abbrev pub OfAll : (ℕ → Data → Type 0) → Rings → Type 0
OfAll P es = (from : ℕ) → OfRing (P from) (ring_of es from)

-- a frame in this place of another node's ring, after `got` messages of that node
pub record IsInPlace (own got from place : ℕ) (d : Data) : Type 0 where
  pub apart : from ≢ own
  pub sender : d.from ≡ from
  pub receiver : d.to ≡ own
  pub number : d.number ≡ got + 1 + place

abbrev pub RingStands : ℕ → ℕ → ℕ → List (Option Data) → Type 0
RingStands own got from ring =
    (place : ℕ) (d : Data) → place_at ring place ≡ Some d → IsInPlace own got from place d

-- each node has its ring, and each frame is in the place of its number
pub record AreKept (nodes own : ℕ) (got : List ℕ) (es : Rings) : Type 0 where
  pub width : length es ≡ nodes
  pub counted : length got ≡ nodes
  pub named : (from : ℕ) → RingStands own (slice_index_or got from 0) from (ring_of es from)

abbrev pub AreKeptIn : WholeNode → Type 0
AreKeptIn n =
    AreKept n.core.local.shape.nodes n.core.local.own n.core.local.got n.early

-- The outcome of an event: the core as defined, and what is kept.
pub record Handled (old new : WholeNode) (e : Event) (r : Result Answer Refusal) : Type 0 where
  pub before : AreKeptIn old
  pub performed : Performed (is_shading (met old.early e)) r old.core new.core
      (view_act old.core (met old.early e))
  pub memory_free : IsTrue (is_memory_free old.core.local (met old.early e))
      → IfErr r (λ f. f ≢ Memory)
  pub early : new.early ≡ early_after old.core.local old.early e r
