-- Worked examples, computed: the definitions answer what they should. A run of a new space is a
-- table, with a row for each step and its outcome.
use Rattle.std.proofs.Common.{◌≡◌, ℕ, ◌-◌, List, [], ◌∷◌, map, Option, Some, None, Result, Ok, Err, refl, true}
use Rattle.ids.specs.Limits.{Shaped, plain_shape}
use Rattle.ids.specs.declared.names.Ref.{Ref}
use Rattle.ids.specs.declared.limits.TheConstants.{GREATEST_NUMBER}
use Rattle.ids.specs.declared.refusal.Refusal.{Refusal}
use Rattle.ids.specs.declared.refusal.Refusal.TheVariants.{NoLetter, NoRegister, EmptyRegister, TooManyFields, ArenaFull, NoNode, SelfSend, LinkSpent, OutOfOrder, WrongNode}
use Rattle.msg.specs.declared.body.Body.TheVariants as body
use Rattle.msg.specs.declared.frame.Data.{Data}
use Rattle.model.specs.declared.age.Age.TheVariants.{Old}
use Rattle.model.specs.declared.event.Event.TheVariants as event
use Rattle.model.specs.declared.event.Answer.{Answer}
use Rattle.model.specs.declared.event.Answer.TheVariants as answer
use Rattle.model.specs.declared.step.Step.{Step}
use Rattle.model.specs.declared.step.Step.TheVariants as step
use Rattle.model.specs.declared.step.Outcome.{Outcome}
use Rattle.model.specs.declared.step.Outcome.TheVariants as outcome
use Rattle.model.specs.State.{Free, Occupied, Retired, Heap, NodeState, new_heap, new_local, new_node}
use Rattle.model.specs.Heaps.{heap_alloc}
use Rattle.model.specs.Counting.{append}
use Rattle.model.specs.Shading.{see_to}
use Rattle.model.specs.Effects.{Effect}
use Rattle.model.specs.Steps.{settled, effect, act, receive, taken_in, count_in, take_body}
use Rattle.model.specs.World.{outcomes, new_world, take_step}
use Rattle.model.specs.declared.event.Accepted.{Accepted}

abbrev pub object : ℕ → ℕ → ℕ → Ref
object node slot generation = record { node = node; slot = slot; generation = generation }

abbrev pub space : ℕ → ℕ → ℕ → Shaped
space nodes registers slots = plain_shape nodes registers slots

abbrev pub alloc : ℕ → ℕ → ℕ → Step
alloc node register places = step.Act node (event.Alloc register places)

abbrev pub drop_register : ℕ → ℕ → Step
drop_register node register = step.Act node (event.Drop register)

abbrev pub give : ℕ → ℕ → ℕ → ℕ → Step
give node to label register = step.Act node (event.Give to label register)

abbrev pub accept : ℕ → ℕ → Step
accept node register = step.Act node (event.Accept register)

-- a message that another node may send to node 1
abbrev message : Data
message = record { from = 0; to = 1; number = 1; stamp = 0; body = body.Give 1 None; fits = refl }

abbrev pub made : Ref → Result Outcome Refusal
made r = Ok (outcome.Answer (answer.New r))

abbrev pub sent : ℕ → Result Outcome Refusal
sent number = Ok (outcome.Answer (answer.Sent number))

abbrev pub dropped_now : Result Outcome Refusal
dropped_now = Ok (outcome.Answer answer.Done)

abbrev pub received : Result Outcome Refusal
received = Ok (outcome.Answer answer.Received)

abbrev pub repeat : Result Outcome Refusal
repeat = Ok (outcome.Answer answer.Repeat)

abbrev pub early : Result Outcome Refusal
early = Ok (outcome.Answer answer.Early)

-- a letter without bytes that went into one register
abbrev pub accepted : ℕ → ℕ → Option Ref → Accepted
accepted from label reference =
    record { from = from; label = label; reference = reference; count = 1; length = 0 }

abbrev pub letter : ℕ → ℕ → Ref → Result Outcome Refusal
letter from label r =
    Ok (outcome.Answer (answer.Letter (accepted from label (Some r))))

abbrev pub empty_letter : ℕ → ℕ → Result Outcome Refusal
empty_letter from label =
    Ok (outcome.Answer (answer.Letter (accepted from label None)))

abbrev pub done : Result Outcome Refusal
done = Ok outcome.Done

abbrev pub no_frame : Result Outcome Refusal
no_frame = Ok outcome.NoFrame

abbrev pub refused : Refusal → Result Outcome Refusal
refused e = Err e

-- steps, each with an outcome
abbrev pub Table : Type 0
Table = List (Step × Result Outcome Refusal)

abbrev pub steps_of : Table → List Step
steps_of rows = map (λ (r : Step × Result Outcome Refusal). r.0) rows

abbrev pub outcomes_of : Table → List (Result Outcome Refusal)
outcomes_of rows = map (λ (r : Step × Result Outcome Refusal). r.1) rows

-- in a new space of this shape, each step has the outcome beside it
abbrev pub Holds : Shaped → Table → Type 0
Holds shape rows = outcomes (new_world shape) (steps_of rows) ≡ outcomes_of rows

-- a reference goes from one node to another, and on to a third
pub one-reference : Holds (space 3 4 16) (
    (alloc 0 0 0, made (object 0 0 1))
    ∷ (give 0 1 7 0, sent 1)
    ∷ (drop_register 0 0, dropped_now)
    ∷ (step.Save 0, done)
    ∷ (step.Deliver 0 1 1, received)
    ∷ (accept 1 3, letter 0 7 (object 0 0 1))
    ∷ (give 1 2 8 3, sent 1)
    ∷ (step.Save 1, done)
    ∷ (step.Deliver 1 2 1, received)
    ∷ (accept 2 0, letter 1 8 (object 0 0 1))
    ∷ [])
unfolding take_step act receive taken_in count_in take_body append see_to settled
one-reference = refl

-- nothing leaves before it is saved, and nothing is received twice
pub saved-first : Holds (space 2 4 16) (
    (alloc 1 1 0, made (object 1 0 1))
    ∷ (give 1 0 7 1, sent 1)
    ∷ (step.Deliver 1 0 1, no_frame)
    ∷ (step.Save 1, done)
    ∷ (step.Deliver 1 0 1, received)
    ∷ (step.Deliver 1 0 1, repeat)
    ∷ (accept 0 0, letter 1 7 (object 1 0 1))
    ∷ (accept 0 0, refused NoLetter)
    ∷ [])
unfolding take_step act receive taken_in count_in take_body append see_to settled
saved-first = refl

-- messages are received in order, and letters are read in that order
pub in-order : Holds (space 3 4 16) (
    (give 0 2 4 0, sent 1)
    ∷ (give 0 2 5 0, sent 2)
    ∷ (step.Save 0, done)
    ∷ (step.Deliver 0 2 2, early)
    ∷ (step.Deliver 0 2 1, received)
    ∷ (step.Deliver 0 2 2, received)
    ∷ (step.Deliver 0 2 1, repeat)
    ∷ (accept 2 0, empty_letter 0 4)
    ∷ (accept 2 0, empty_letter 0 5)
    ∷ [])
unfolding take_step act receive taken_in count_in take_body append see_to settled
in-order = refl

-- a letter without a reference empties the register
pub emptied : Holds (space 2 4 16) (
    (give 0 1 9 0, sent 1)
    ∷ (step.Save 0, done)
    ∷ (step.Deliver 0 1 1, received)
    ∷ (alloc 1 2 0, made (object 1 0 1))
    ∷ (accept 1 2, empty_letter 0 9)
    ∷ (drop_register 1 2, refused EmptyRegister)
    ∷ [])
unfolding take_step act receive taken_in count_in take_body append see_to settled
emptied = refl

-- a restart takes back what was not saved, its numbers and slots too
pub taken-back : Holds (space 3 4 16) (
    (alloc 2 0 0, made (object 2 0 1))
    ∷ (give 2 0 6 0, sent 1)
    ∷ (step.Deliver 2 0 1, no_frame)
    ∷ (step.Restart 2, done)
    ∷ (drop_register 2 0, refused EmptyRegister)
    ∷ (alloc 2 3 0, made (object 2 0 1))
    ∷ (give 2 0 16 3, sent 1)
    ∷ [])
unfolding take_step act receive taken_in count_in take_body append see_to settled
taken-back = refl

-- what was released stays released, and a receiver that forgets it receives it again
pub released-again : Holds (space 3 4 16) (
    (give 2 1 10 0, sent 1)
    ∷ (step.Save 2, done)
    ∷ (step.Restart 2, done)
    ∷ (step.Deliver 2 1 1, received)
    ∷ (accept 1 0, empty_letter 2 10)
    ∷ (step.Restart 1, done)
    ∷ (accept 1 0, refused NoLetter)
    ∷ (step.Deliver 2 1 1, received)
    ∷ (step.Save 1, done)
    ∷ (step.Restart 1, done)
    ∷ (step.Deliver 2 1 1, repeat)
    ∷ (accept 1 1, empty_letter 2 10)
    ∷ [])
unfolding take_step act receive taken_in count_in take_body append see_to settled
released-again = refl

-- refusals, and the order in which they apply
pub refusals : Holds (space 2 2 1) (
    (alloc 0 2 9, refused NoRegister)
    ∷ (alloc 0 0 8, made (object 0 0 1))
    ∷ (alloc 0 1 9, refused TooManyFields)
    ∷ (alloc 0 1 8, refused ArenaFull)
    ∷ (drop_register 0 2, refused NoRegister)
    ∷ (drop_register 0 1, refused EmptyRegister)
    ∷ (give 0 2 1 9, refused NoNode)
    ∷ (give 0 0 1 9, refused SelfSend)
    ∷ (give 0 1 1 2, refused NoRegister)
    ∷ (give 0 1 1 1, sent 1)
    ∷ (accept 0 2, refused NoRegister)
    ∷ (accept 0 1, refused NoLetter)
    ∷ (alloc 2 0 0, refused NoNode)
    ∷ (step.Act 1 (event.Data message), refused WrongNode)
    ∷ (step.Act 2 (event.Data message), refused NoNode)
    ∷ (step.Save 2, refused NoNode)
    ∷ (step.Restart 2, refused NoNode)
    ∷ (step.Deliver 0 2 1, refused NoNode)
    ∷ (step.Deliver 2 0 1, refused NoNode)
    ∷ (step.Save 0, done)
    ∷ (step.Deliver 1 1 1, no_frame)
    ∷ (step.Deliver 0 1 0, no_frame)
    ∷ (step.Deliver 0 1 2, no_frame)
    ∷ [])
unfolding take_step act receive taken_in count_in take_body append see_to settled
refusals = refl

-- each call has the answer beside it
abbrev pub Call : Type 0
Call = Result Answer Refusal × Result Answer Refusal

abbrev pub Answers : List Call → Type 0
Answers rows = map (λ (r : Call). r.0) rows ≡ map (λ (r : Call). r.1) rows

abbrev answer_of : Result (NodeState × Answer) Refusal → Result Answer Refusal
answer_of (Ok x) = Ok x.1
answer_of (Err e) = Err e

-- a message is given to a new node 1
abbrev offered : ℕ → ℕ → ℕ → ℕ → Option Ref → Result Answer Refusal
offered from to number stamp reference =
    answer_of (receive (new_node (space 2 4 16) 1) from to number stamp (body.Give 7 reference))

-- messages that a node may not receive
pub wrong-messages : Answers (
    (offered 0 1 1 0 (Some (object 1 15 1)), Ok answer.Received)
    ∷ (offered 0 1 2 0 None, Ok answer.Early)
    ∷ (offered 0 1 32 0 None, Ok answer.Early)
    ∷ (offered 0 1 33 0 None, Err OutOfOrder)
    ∷ (offered 0 0 1 0 None, Err WrongNode)
    ∷ (offered 0 2 1 0 None, Err WrongNode)
    ∷ (offered 1 1 1 0 None, Err WrongNode)
    ∷ (offered 2 1 1 0 None, Err WrongNode)
    ∷ (offered 2 1 2 0 None, Err WrongNode)
    ∷ (offered 0 1 1 2 None, Err WrongNode)
    ∷ (offered 0 1 1 0 (Some (object 2 0 1)), Err WrongNode)
    ∷ (offered 0 1 1 0 (Some (object 1 16 1)), Err WrongNode)
    ∷ (offered 0 1 2 1 None, Ok answer.Early)
    ∷ (offered 0 1 0 1 (Some (object 2 0 1)), Ok answer.Repeat)
    ∷ [])
unfolding receive taken_in count_in take_body append see_to settled
wrong-messages = refl

abbrev pub effect_answer : Result Effect Refusal → Result Answer Refusal
effect_answer (Ok x) = Ok x.answer
effect_answer (Err e) = Err e

-- node 0 gives to node 1 after it has appended this many messages for it
abbrev given_after : ℕ → Result Answer Refusal
given_after count =
    effect_answer (effect (new_local (space 2 4 16) 0) (0 ∷ count ∷ []) (event.Give 1 7 0))

-- the last number is given out, and none after it
pub numbers : Answers (
    (given_after 0, Ok (answer.Sent 1))
    ∷ (given_after (GREATEST_NUMBER - 1), Ok (answer.Sent 281474976710656))
    ∷ (given_after GREATEST_NUMBER, Err LinkSpent)
    ∷ [])
unfolding append
numbers = refl

-- A heap of three slots whose slots 2 and 0 were freed in this order. Slot 0 is used first.
abbrev freed : Heap
freed =
    record (new_heap (space 2 1 3)) { slots = Free 7 ∷ Retired ∷ Free 4 ∷ []; free = 0 ∷ 2 ∷ [] }

-- the slot that was freed last is used first, under its next generation; the object's mark is the
-- node's cycle
pub reuse : heap_alloc (space 2 1 3) 1 5 freed 0 2
    ≡ Ok (
      record {
        slots =
            Occupied 7 (record {
              word = 0;
              bytes = [];
              places = None ∷ None ∷ [];
              mark = 5;
              shared = true;
              age = Old;
            })
            ∷ Retired ∷ Free 4 ∷ [];
        free = 2 ∷ [];
        registers = Some (object 1 0 7) ∷ [];
        letters = [];
        grey = [];
      },
      object 1 0 7,
    )
unfolding heap_alloc
reuse = refl

-- If no slot is free the next one is fresh, while the limit has one. A retired slot is never used
-- again.
abbrev used_up : Heap
used_up = record (new_heap (space 2 1 3)) { slots = Retired ∷ Retired ∷ [] }

abbrev reference_of : Result (Heap × Ref) Refusal → Result Ref Refusal
reference_of (Ok x) = Ok x.1
reference_of (Err e) = Err e

pub fresh : reference_of (heap_alloc (space 2 1 3) 1 5 used_up 0 2) ≡ Ok (object 1 2 1)
unfolding heap_alloc
fresh = refl

pub none-left : reference_of (heap_alloc (space 2 1 2) 1 5 used_up 0 2) ≡ Err ArenaFull
unfolding heap_alloc
none-left = refl
