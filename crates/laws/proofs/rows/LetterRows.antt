-- Worked examples of letters with references and bytes, computed as those of `Rows`.
use Rattle.std.proofs.Common.{◌≡◌, ℕ, List, [], ◌∷◌, Option, Some, None, Result, Ok, refl}
use Rattle.ids.specs.Limits.{Shaped, wide_shape}
use Rattle.ids.specs.declared.names.Ref.{Ref}
use Rattle.ids.specs.declared.refusal.Refusal.{Refusal}
use Rattle.ids.specs.declared.refusal.Refusal.TheVariants.{EmptyRegister, Local, NoLetter, NoNode, NoRegister, SelfSend, TooManyBytes, TooManyFields}
use Rattle.model.specs.declared.event.Answer.TheVariants as answer
use Rattle.model.specs.declared.event.Event.TheVariants as event
use Rattle.model.specs.declared.step.Outcome.{Outcome}
use Rattle.model.specs.declared.step.Outcome.TheVariants as outcome
use Rattle.model.specs.declared.step.Step.{Step}
use Rattle.model.specs.declared.step.Step.TheVariants as step
use Rattle.model.specs.State.{LocalState, node_at}
use Rattle.model.specs.Heaps.{heap_letter_bytes}
use Rattle.model.specs.Counting.{append}
use Rattle.model.specs.Shading.{see_to}
use Rattle.model.specs.Steps.{act, count_in, lent, receive, settled, take_body, taken_in}
use Rattle.model.specs.World.{World, new_world, run, take_step}
use Rattle.laws.proofs.rows.Rows.{Holds, Table, accept, alloc, done, drop_register, dropped_now, give, letter, made, object, received, refused, sent, space, steps_of}

-- two nodes with 4 registers, and objects of at most 2 places and 4 bytes
abbrev wide : Shaped
wide = wide_shape 2 4 16 2 4

abbrev post : ℕ → ℕ → ℕ → ℕ → ℕ → List ℕ → Step
post node to label first count bytes = step.Act node (event.Post to label first count (lent bytes))

abbrev fetch : ℕ → ℕ → ℕ → ℕ → ℕ → Step
fetch node register label offset count =
    step.Act node (event.Fetch register label offset count)

abbrev set_bytes : ℕ → ℕ → List ℕ → Step
set_bytes node register bytes = step.Act node (event.SetBytes register (lent bytes))

-- a letter that went into some registers
abbrev taken : ℕ → ℕ → Option Ref → ℕ → ℕ → Result Outcome Refusal
taken from label reference count length =
    Ok (outcome.Answer (answer.Letter (record {
      from = from;
      label = label;
      reference = reference;
      count = count;
      length = length;
    })))

abbrev after : Table → World
after rows = run (new_world wide) (steps_of rows)

abbrev local_at : World → ℕ → LocalState
local_at w node = (node_at w.current node).local

-- a letter with an object and an empty register, and with three bytes
abbrev one_post : Table
one_post =
    (alloc 0 1 0, made (object 0 0 1))
    ∷ (post 0 1 7 1 2 (10 ∷ 20 ∷ 30 ∷ []), sent 1)
    ∷ (step.Save 0, done)
    ∷ (step.Deliver 0 1 1, received)
    ∷ []

-- its bytes can be read while it waits
pub bytes-wait : heap_letter_bytes (local_at (after one_post) 1).heap ≡ Ok (10 ∷ 20 ∷ 30 ∷ [])
unfolding take_step act receive taken_in count_in take_body append see_to settled heap_letter_bytes
bytes-wait = refl

-- Its references go into registers that follow each other. If there aren't as many, it stays.
pub into-registers : Holds wide (
    (alloc 0 1 0, made (object 0 0 1))
    ∷ (post 0 1 7 1 2 (10 ∷ 20 ∷ 30 ∷ []), sent 1)
    ∷ (step.Save 0, done)
    ∷ (step.Deliver 0 1 1, received)
    ∷ (alloc 1 3 0, made (object 1 0 1))
    ∷ (accept 1 4, refused NoRegister)
    ∷ (accept 1 3, refused NoRegister)
    ∷ (accept 1 2, taken 0 7 (Some (object 0 0 1)) 2 3)
    ∷ (drop_register 1 2, dropped_now)
    ∷ (drop_register 1 3, refused EmptyRegister)
    ∷ (accept 1 0, refused NoLetter)
    ∷ [])
unfolding take_step act receive taken_in count_in take_body append see_to settled
into-registers = refl

-- Letters are accepted in order, whole. One without references empties a register.
pub whole-letters : Holds wide (
    (alloc 0 0 0, made (object 0 0 1))
    ∷ (alloc 0 1 0, made (object 0 1 1))
    ∷ (post 0 1 5 0 2 [], sent 1)
    ∷ (post 0 1 6 3 0 (9 ∷ []), sent 2)
    ∷ (give 0 1 8 1, sent 3)
    ∷ (step.Save 0, done)
    ∷ (step.Deliver 0 1 1, received)
    ∷ (step.Deliver 0 1 2, received)
    ∷ (step.Deliver 0 1 3, received)
    ∷ (accept 1 1, taken 0 5 (Some (object 0 0 1)) 2 0)
    ∷ (accept 1 1, taken 0 6 None 1 1)
    ∷ (drop_register 1 1, refused EmptyRegister)
    ∷ (drop_register 1 2, dropped_now)
    ∷ (accept 1 0, letter 0 8 (object 0 1 1))
    ∷ [])
unfolding take_step act receive taken_in count_in take_body append see_to settled
whole-letters = refl

-- the refusals of a Post, in their order
pub post-refusals : Holds wide (
    (post 0 2 1 9 9 (1 ∷ 2 ∷ 3 ∷ 4 ∷ 5 ∷ []), refused NoNode)
    ∷ (post 0 0 1 9 9 (1 ∷ 2 ∷ 3 ∷ 4 ∷ 5 ∷ []), refused SelfSend)
    ∷ (post 0 1 1 2 3 (1 ∷ 2 ∷ 3 ∷ 4 ∷ 5 ∷ []), refused NoRegister)
    ∷ (post 0 1 1 1 3 (1 ∷ 2 ∷ 3 ∷ 4 ∷ 5 ∷ []), refused TooManyFields)
    ∷ (post 0 1 1 1 2 (1 ∷ 2 ∷ 3 ∷ 4 ∷ 5 ∷ []), refused TooManyBytes)
    ∷ (post 0 1 1 1 2 (1 ∷ 2 ∷ 3 ∷ 4 ∷ []), sent 1)
    ∷ [])
unfolding take_step act receive taken_in count_in take_body append see_to settled
post-refusals = refl

-- plain spaces have neither
pub not-plain : Holds (space 2 4 16) (
    (post 0 1 1 0 0 [], refused TooManyFields)
    ∷ (alloc 1 0 0, made (object 1 0 1))
    ∷ (give 1 0 1 0, sent 1)
    ∷ (step.Save 1, done)
    ∷ (step.Deliver 1 0 1, received)
    ∷ (accept 0 0, letter 1 1 (object 1 0 1))
    ∷ (fetch 0 0 1 0 0, refused TooManyBytes)
    ∷ [])
unfolding take_step act receive taken_in count_in take_body append see_to settled
not-plain = refl

-- An object's word and bytes come in a letter. A range that it doesn't have comes without bytes.
abbrev two_fetches : Table
two_fetches =
    (alloc 1 0 0, made (object 1 0 1))
    ∷ (step.Act 1 (event.SetWord 0 258), dropped_now)
    ∷ (set_bytes 1 0 (5 ∷ 6 ∷ 7 ∷ []), dropped_now)
    ∷ (fetch 1 0 3 0 1, refused Local)
    ∷ (give 1 0 1 0, sent 1)
    ∷ (step.Save 1, done)
    ∷ (step.Deliver 1 0 1, received)
    ∷ (accept 0 2, letter 1 1 (object 1 0 1))
    ∷ (fetch 0 4 3 0 1, refused NoRegister)
    ∷ (fetch 0 1 3 0 1, refused EmptyRegister)
    ∷ (fetch 0 2 3 1 2, sent 1)
    ∷ (fetch 0 2 4 2 2, sent 2)
    ∷ (step.Save 0, done)
    ∷ (step.Deliver 0 1 1, received)
    ∷ (step.Deliver 0 1 2, received)
    ∷ (step.Save 1, done)
    ∷ (step.Deliver 1 0 2, received)
    ∷ []

pub fetched-range : heap_letter_bytes (local_at (after two_fetches) 0).heap
    ≡ Ok (0 ∷ 0 ∷ 0 ∷ 0 ∷ 0 ∷ 0 ∷ 1 ∷ 2 ∷ 6 ∷ 7 ∷ [])
unfolding take_step act receive taken_in count_in take_body append see_to settled heap_letter_bytes
fetched-range = refl

pub fetches : Holds wide two_fetches
unfolding take_step act receive taken_in count_in take_body append see_to settled
fetches = refl
