-- What a step of a node yields: its local state, the messages that it appended, and its answer
-- ("Events" in docs/RULES.md).
use Rattle.std.specs.Prelude.{ℕ, Bool, true, false, List, [], ◌++◌}
use Rattle.msg.specs.declared.body.Message.{Message}
use Rattle.model.specs.declared.event.Answer.{Answer}
use Rattle.model.specs.declared.event.Answer.TheVariants as answer
use Rattle.model.specs.State.{Heap, LocalState}

-- a node's local state after some step, and the messages that it appended, in order, each with its
-- receiver
pub record Work : Type 0 where
  pub local : LocalState
  pub sends : List (ℕ × Message)

-- nothing was appended
abbrev pub at_rest : LocalState → Work
at_rest p = record { local = p; sends = [] }

-- one step after another
abbrev pub then : Work → (LocalState → Work) → Work
then w f = record { local = (f w.local).local; sends = w.sends ++ (f w.local).sends }

-- Whether an event with this answer changes the node's state. The reading of a word doesn't, nor
-- does a repeat or an early message. Nor does an acknowledgement, whose answer is `Done`.
abbrev pub is_change : Answer → Bool
is_change (answer.Word word) = false
is_change answer.Repeat = false
is_change answer.Early = false
is_change a = true

-- what an event does: the local state, the messages, the answer
pub record Effect : Type 0 where
  pub local : LocalState
  pub sends : List (ℕ × Message)
  pub answer : Answer

abbrev pub answers : Work → Answer → Effect
answers w a = record { local = w.local; sends = w.sends; answer = a }

-- only the heap changes
abbrev pub becomes : LocalState → Heap → Answer → Effect
becomes p h a = record { local = record p { heap = h }; sends = []; answer = a }

-- nothing changes
abbrev pub unchanged : LocalState → Answer → Effect
unchanged p a = record { local = p; sends = []; answer = a }
