-- Events of a node that enter the history of the space once the node has answered them.
use Rattle.std.specs.Prelude.{ℕ, cond, Result, Ok, Err}
use Rattle.ids.specs.declared.refusal.Refusal.{Refusal}
use Rattle.model.specs.declared.event.Answer.{Answer}
use Rattle.model.specs.declared.event.Event.{Event}
use Rattle.model.specs.declared.step.Step.{Step}
use Rattle.model.specs.Effects.{is_change}
use Rattle.model.specs.State.{NodeState}
use Rattle.model.specs.Steps.{act}
use Rattle.wire.specs.Plays.{Enters}
use Rattle.wire.specs.Views.{Known, Pair, ticks}

-- the state after an event, or the same state if the event was refused
abbrev pub state_of : NodeState → Result (NodeState × Answer) Refusal → NodeState
state_of s (Ok x) = x.0
state_of s (Err e) = s

-- the node's states after an event
abbrev pub pair_by : Event → Pair → Pair
pair_by e p = record { current = state_of p.current (act p.current e); saved = p.saved }

-- The seat's list of events grows by this one if the answer is that of a change; else it stays the
-- same.
abbrev pub known_after : Event → Step → Result Answer Refusal → Known → Known
known_after e s (Ok a) v = cond (is_change a) (ticks s (pair_by e v.pair) v) v
known_after e s (Err r) v = v

-- The step entered the history of the space: some list of events leads to what the seat knew
-- before, and with this step after it to what the seat knows now.
abbrev pub Entered : Step → Known → Known → Type 0
Entered s v w = (count : ℕ) × Enters s v count w
