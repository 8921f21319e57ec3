-- How events are spelled in a log, and to which node a log leads.
use Rattle.std.specs.Prelude.{◌≡◌, ℕ, Bool, true, false, List, [], ◌∷◌, Ok}
use Rattle.std.specs.List.{flat_map, AllByRecursion}
use Rattle.codec.specs.Formats.{Fits}
use Rattle.model.specs.declared.event.Answer.{Answer}
use Rattle.model.specs.declared.event.Event.{Event}
use Rattle.model.specs.declared.event.Event.TheVariants as event
use Rattle.model.specs.Effects.{is_change}
use Rattle.model.specs.View.{NodeView, kept_view, view_act}
use Rattle.event_bytes.specs.Entries.{entry}
use Rattle.event_bytes.specs.Events.{entry_of}

-- the event receives the message that waits
abbrev pub is_turn : Event → Bool
is_turn (event.Next from) = true
is_turn e = false

-- an event is answered and is a change, and what the node is then
pub record IsDone (n : NodeView) (e : Event) (m : NodeView) : Type 0 where
  pub answer : Answer
  pub acts : view_act n e ≡ Ok (m, answer)
  pub now : is_change answer ≡ true

-- these events, one after another
abbrev pub AreDone : NodeView → List Event → NodeView → Type 0
AreDone n [] m = n ≡ m
AreDone n (e ∷ es) m = (next : NodeView) × IsDone n e next × AreDone next es m

abbrev pub spelled : List Event → List ℕ
spelled es = flat_map (λ e. entry.spell (entry_of e)) es

-- the bytes spell events that lead from the one node to the other
pub record Logged (bytes : List ℕ) (first last : NodeView) : Type 0 where
  pub events : List Event
  pub fit : AllByRecursion (λ e. Fits entry (entry_of e)) events
  pub is : bytes ≡ spelled events
  pub done : AreDone first events last

-- A batch leads from a saved node to another one: its events are performed, and then everything
-- counts as saved.
pub record Leads (batch : List ℕ) (first last : NodeView) : Type 0 where
  pub before : NodeView
  pub logged : Logged batch first before
  pub kept : last ≡ kept_view before
