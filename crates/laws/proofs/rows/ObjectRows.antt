-- Worked examples of what programs do with objects, computed as those of `Rows`.
use Rattle.std.proofs.Common.{ℕ, List, ◌^◌, ◌-◌, [], ◌∷◌, ◌++◌, Option, Some, None, Result, Ok, refl}
use Rattle.ids.specs.declared.names.Ref.{Ref}
use Rattle.ids.specs.declared.refusal.Refusal.{Refusal}
use Rattle.ids.specs.declared.refusal.Refusal.TheVariants.{NoRegister, EmptyRegister, Remote, Local, NoLetter, NoField, TooManyFields, SelfSend, TooManyBytes, NoBytes}
use Rattle.model.specs.declared.event.Event.TheVariants as event
use Rattle.model.specs.declared.event.Answer.TheVariants as answer
use Rattle.model.specs.declared.step.Step.{Step}
use Rattle.model.specs.declared.step.Step.TheVariants as step
use Rattle.model.specs.declared.step.Outcome.{Outcome}
use Rattle.model.specs.declared.step.Outcome.TheVariants as outcome
use Rattle.model.specs.Counting.{append}
use Rattle.model.specs.Shading.{see_to}
use Rattle.ids.specs.Limits.{wide_shape}
use Rattle.model.specs.Steps.{lent, settled, act, receive, taken_in, count_in, take_body}
use Rattle.model.specs.World.{take_step}
use Rattle.laws.proofs.rows.Rows.{Table, object, space, alloc, drop_register, give, accept, made, sent, dropped_now, received, letter, empty_letter, done, refused, Holds}

abbrev pub copy : ℕ → ℕ → ℕ → Step
copy node register source = step.Act node (event.Copy register source)

abbrev pub load : ℕ → ℕ → ℕ → ℕ → Step
load node register object place = step.Act node (event.Load register object place)

abbrev pub store : ℕ → ℕ → ℕ → ℕ → Step
store node object place register = step.Act node (event.Store object place register)

abbrev pub clear : ℕ → ℕ → ℕ → Step
clear node object place = step.Act node (event.Clear object place)

abbrev pub word : ℕ → ℕ → Step
word node object = step.Act node (event.Word object)

abbrev pub set_word : ℕ → ℕ → ℕ → Step
set_word node object value = step.Act node (event.SetWord object value)

abbrev pub set_bytes : ℕ → ℕ → List ℕ → Step
set_bytes node object bytes = step.Act node (event.SetBytes object (lent bytes))

abbrev pub patch : ℕ → ℕ → ℕ → List ℕ → Step
patch node object offset bytes = step.Act node (event.Patch object offset (lent bytes))

abbrev pub put : ℕ → ℕ → ℕ → ℕ → Step
put node object place register = step.Act node (event.Put object place register)

abbrev pub get : ℕ → ℕ → ℕ → ℕ → Step
get node object place label = step.Act node (event.Get object place label)

abbrev pub value : Option Ref → Result Outcome Refusal
value r = Ok (outcome.Answer (answer.Value r))

abbrev pub reads : ℕ → Result Outcome Refusal
reads n = Ok (outcome.Answer (answer.Word n))

-- a new object of node 1 with this many places, whose reference node 0 gets in its register 0
abbrev shared : ℕ → Table
shared places =
    (alloc 1 0 places, made (object 1 0 1))
    ∷ (give 1 0 1 0, sent 1)
    ∷ (step.Save 1, done)
    ∷ (step.Deliver 1 0 1, received)
    ∷ (accept 0 0, letter 1 1 (object 1 0 1))
    ∷ []

-- what is stored is loaded, only from that place of that object, until it is cleared
pub stored-loaded : Holds (space 2 4 16) (
    (alloc 0 0 2, made (object 0 0 1))
    ∷ (alloc 0 1 2, made (object 0 1 1))
    ∷ (store 0 0 1 1, dropped_now)
    ∷ (load 0 2 0 1, value (Some (object 0 1 1)))
    ∷ (load 0 3 0 0, value None)
    ∷ (load 0 3 1 1, value None)
    ∷ (store 0 2 0 2, dropped_now)
    ∷ (load 0 3 1 0, value (Some (object 0 1 1)))
    ∷ (clear 0 0 0, dropped_now)
    ∷ (load 0 3 0 1, value (Some (object 0 1 1)))
    ∷ (clear 0 0 1, dropped_now)
    ∷ (clear 0 0 1, dropped_now)
    ∷ (load 0 3 0 1, value None)
    ∷ (drop_register 0 3, refused EmptyRegister)
    ∷ [])
unfolding take_step act see_to
stored-loaded = refl

-- a copied register names the same object, and the word belongs to the object
pub one-word : Holds (space 2 4 16) (
    (alloc 0 0 0, made (object 0 0 1))
    ∷ (alloc 0 1 0, made (object 0 1 1))
    ∷ (word 0 0, reads 0)
    ∷ (set_word 0 0 (2 ^ 64 - 1), dropped_now)
    ∷ (copy 0 2 0, dropped_now)
    ∷ (word 0 2, reads 18446744073709551615)
    ∷ (word 0 1, reads 0)
    ∷ (set_word 0 2 7, dropped_now)
    ∷ (drop_register 0 2, dropped_now)
    ∷ (word 0 0, reads 7)
    ∷ (copy 0 0 1, dropped_now)
    ∷ (word 0 0, reads 0)
    ∷ [])
unfolding take_step act
one-word = refl

-- In a wide space with 4 bytes an object: bytes are replaced, overwritten within what is there, and
-- belong to the object. A new object has none.
pub bytes-kept : Holds (wide_shape 2 2 16 1 4) (
    (set_bytes 0 0 [], refused EmptyRegister)
    ∷ (alloc 0 0 1, made (object 0 0 1))
    ∷ (patch 0 0 0 (1 ∷ []), refused NoBytes)
    ∷ (patch 0 0 0 [], dropped_now)
    ∷ (set_bytes 0 0 (1 ∷ 2 ∷ 3 ∷ 4 ∷ 5 ∷ []), refused TooManyBytes)
    ∷ (set_bytes 0 0 (1 ∷ 2 ∷ 3 ∷ 4 ∷ []), dropped_now)
    ∷ (patch 0 0 2 (7 ∷ 8 ∷ 9 ∷ []), refused NoBytes)
    ∷ (patch 0 0 1 (7 ∷ 8 ∷ 9 ∷ []), dropped_now)
    ∷ (set_bytes 0 2 [], refused NoRegister)
    ∷ [])
unfolding take_step act
bytes-kept = refl

-- plain spaces have no bytes, not even none
pub no-bytes-in-plain : Holds (space 2 1 16) (
    (alloc 0 0 1, made (object 0 0 1))
    ∷ (set_bytes 0 0 [], refused TooManyBytes)
    ∷ (patch 0 0 0 [], refused NoBytes)
    ∷ [])
unfolding take_step act
no-bytes-in-plain = refl

-- the refusals of a load, in order, and of related events
pub load-refusals : Holds (space 2 256 16) (
    (load 0 0 256 0, refused NoRegister)
    ∷ (load 0 0 1 0, refused EmptyRegister)
    ∷ (alloc 1 0 0, made (object 1 0 1))
    ∷ (give 1 0 1 0, sent 1)
    ∷ (step.Save 1, done)
    ∷ (step.Deliver 1 0 1, received)
    ∷ (accept 0 2, letter 1 1 (object 1 0 1))
    ∷ (load 0 0 2 0, refused Remote)
    ∷ (alloc 0 0 9, refused TooManyFields)
    ∷ (alloc 0 0 8, made (object 0 0 1))
    ∷ (load 0 1 0 8, refused NoField)
    ∷ (give 0 0 1 0, refused SelfSend)
    ∷ [])
unfolding take_step act receive taken_in count_in take_body append see_to settled
load-refusals = refl

-- the refusals of the others, each in order
pub object-refusals : Holds (space 2 3 16) (
    shared 1
    ++ (alloc 0 1 1, made (object 0 0 1))
    ∷ (copy 0 3 2, refused NoRegister)
    ∷ (copy 0 2 3, refused NoRegister)
    ∷ (copy 0 1 2, refused EmptyRegister)
    ∷ (load 0 3 2 9, refused NoRegister)
    ∷ (load 0 2 2 9, refused EmptyRegister)
    ∷ (store 0 2 9 3, refused NoRegister)
    ∷ (store 0 3 9 2, refused NoRegister)
    ∷ (store 0 2 9 0, refused EmptyRegister)
    ∷ (store 0 0 9 2, refused EmptyRegister)
    ∷ (store 0 0 9 1, refused Remote)
    ∷ (store 0 1 1 0, refused NoField)
    ∷ (clear 0 3 9, refused NoRegister)
    ∷ (clear 0 2 9, refused EmptyRegister)
    ∷ (clear 0 0 9, refused Remote)
    ∷ (clear 0 1 1, refused NoField)
    ∷ (word 0 3, refused NoRegister)
    ∷ (word 0 2, refused EmptyRegister)
    ∷ (word 0 0, refused Remote)
    ∷ (set_word 0 3 9, refused NoRegister)
    ∷ (set_word 0 2 9, refused EmptyRegister)
    ∷ (set_word 0 0 9, refused Remote)
    ∷ [])
unfolding take_step act receive taken_in count_in take_body append see_to settled
object-refusals = refl

-- a place of another node's object is written and read by messages; if there is no such place,
-- nothing comes back
pub put-got : Holds (space 2 4 16) (
    shared 2
    ++ (alloc 0 1 0, made (object 0 0 1))
    ∷ (put 0 0 1 1, sent 1)
    ∷ (get 0 0 1 9, sent 2)
    ∷ (get 0 0 2 10, sent 3)
    ∷ (step.Save 0, done)
    ∷ (step.Deliver 0 1 1, received)
    ∷ (step.Deliver 0 1 2, received)
    ∷ (step.Deliver 0 1 3, received)
    ∷ (load 1 1 0 1, value (Some (object 0 0 1)))
    ∷ (step.Save 1, done)
    ∷ (step.Deliver 1 0 2, received)
    ∷ (step.Deliver 1 0 3, received)
    ∷ (accept 0 2, letter 1 9 (object 0 0 1))
    ∷ (accept 0 2, empty_letter 1 10)
    ∷ (accept 0 3, refused NoLetter)
    ∷ (put 0 1 0 0, refused Local)
    ∷ [])
unfolding take_step act receive taken_in count_in take_body append see_to settled
put-got = refl

-- an empty register empties the place; the refusals of both events, in order
pub put-refusals : Holds (space 2 3 16) (
    (alloc 1 0 1, made (object 1 0 1))
    ∷ (store 1 0 0 0, dropped_now)
    ∷ (give 1 0 1 0, sent 1)
    ∷ (step.Save 1, done)
    ∷ (step.Deliver 1 0 1, received)
    ∷ (accept 0 0, letter 1 1 (object 1 0 1))
    ∷ (alloc 0 1 1, made (object 0 0 1))
    ∷ (put 0 3 9 2, refused NoRegister)
    ∷ (put 0 2 9 3, refused NoRegister)
    ∷ (put 0 2 9 2, refused EmptyRegister)
    ∷ (put 0 1 9 2, refused Local)
    ∷ (put 0 0 8 2, refused NoField)
    ∷ (get 0 3 9 1, refused NoRegister)
    ∷ (get 0 2 9 1, refused EmptyRegister)
    ∷ (get 0 1 9 1, refused Local)
    ∷ (get 0 0 8 1, refused NoField)
    ∷ (put 0 0 0 2, sent 1)
    ∷ (put 0 0 7 1, sent 2)
    ∷ (step.Save 0, done)
    ∷ (load 1 1 0 0, value (Some (object 1 0 1)))
    ∷ (step.Deliver 0 1 1, received)
    ∷ (step.Deliver 0 1 2, received)
    ∷ (load 1 1 0 0, value None)
    ∷ [])
unfolding take_step act receive taken_in count_in take_body append see_to settled
put-refusals = refl
