-- Worked examples of links, computed as those of `Rows`: what is acknowledged, what a window shows,
-- and how messages are counted.
use Rattle.std.proofs.Common.{◌≡◌, ℕ, ℤ, negsuc, true, false, List, [], ◌∷◌, ◌++◌, map, replicate, Option, Some, None, Result, Ok, Err, refl}
use Rattle.ids.specs.Limits.{Shaped}
use Rattle.ids.specs.declared.refusal.Refusal.{Refusal}
use Rattle.ids.specs.declared.refusal.Refusal.TheVariants.{NoNode, NothingToDo, WrongNode, AckBeyond}
use Rattle.msg.specs.declared.body.Body.TheVariants as body
use Rattle.msg.specs.declared.body.Message.{Message}
use Rattle.msg.specs.declared.frame.Ack.{Ack}
use Rattle.model.specs.declared.event.Event.TheVariants as event
use Rattle.model.specs.declared.event.Answer.{Answer}
use Rattle.model.specs.declared.event.Answer.TheVariants as answer
use Rattle.model.specs.declared.step.Step.TheVariants as step
use Rattle.model.specs.declared.step.Outcome.{Outcome}
use Rattle.model.specs.declared.step.Outcome.TheVariants as outcome
use Rattle.model.specs.State.{node_at}
use Rattle.model.specs.Counting.{append}
use Rattle.model.specs.Shading.{see_to}
use Rattle.model.specs.Steps.{settled, act, receive, taken_in, count_in, take_body}
use Rattle.model.specs.View.{Link, NodeView, new_view, no_link, link_to, released_at, view_act}
use Rattle.model.specs.World.{World, take_step, new_world, run, is_eventful}
use Rattle.laws.proofs.rows.ObjectRows.{word, reads}
use Rattle.laws.proofs.rows.Rows.{Table, steps_of, outcomes_of, object, space, alloc, give, made, sent, received, repeat, early, done, no_frame, refused, Holds}

abbrev handed : ℕ → Result Outcome Refusal
handed number = Ok (outcome.Handed number)

-- what a saved node has received is acknowledged, and nothing else
pub acknowledged-saved : Holds (space 2 4 16) (
    (give 0 1 1 0, sent 1)
    ∷ (step.Hand 0 1, handed 0)
    ∷ (step.Save 0, done)
    ∷ (step.Deliver 0 1 1, received)
    ∷ (step.Hand 0 1, handed 0)
    ∷ (step.Save 1, done)
    ∷ (step.Hand 0 1, handed 1)
    ∷ (step.Deliver 0 1 1, repeat)
    ∷ (give 0 1 2 0, sent 2)
    ∷ (step.Deliver 0 1 2, no_frame)
    ∷ (step.Hand 1 0, handed 0)
    ∷ (step.Hand 1 1, no_frame)
    ∷ (step.Hand 2 2, refused NoNode)
    ∷ [])
unfolding take_step act receive taken_in count_in take_body append see_to settled
acknowledged-saved = refl

-- Messages are received in order and once. One that comes before its turn changes nothing.
abbrev in_turn : Table
in_turn =
    (alloc 0 0 0, made (object 0 0 1))
    ∷ (give 0 1 4 0, sent 1)
    ∷ (give 0 1 5 0, sent 2)
    ∷ (step.Save 0, done)
    ∷ (step.Deliver 0 1 2, early)
    ∷ (step.Deliver 0 1 1, received)
    ∷ (step.Deliver 0 1 1, repeat)
    ∷ (step.Deliver 0 1 1, repeat)
    ∷ (step.Deliver 0 1 2, received)
    ∷ []

pub order-and-once : Holds (space 2 4 16) in_turn
unfolding take_step act receive taken_in count_in take_body append see_to settled
order-and-once = refl

abbrev space_after : Shaped → Table → World
space_after shape rows = run (new_world shape) (steps_of rows)

abbrev balance : World → ℕ → ℤ
balance w node = (node_at w.current node).local.ring.recent

-- and each message received counts down by one
pub counted-once : balance (space_after (space 2 4 16) in_turn) 1 ≡ negsuc 1
unfolding take_step act receive taken_in count_in take_body append see_to settled
counted-once = refl

-- what is an event of the space, and what isn't
abbrev mixed : Table
mixed =
    (alloc 0 0 0, made (object 0 0 1))
    ∷ (word 0 0, reads 0)
    ∷ (give 0 1 4 0, sent 1)
    ∷ (step.Deliver 0 1 1, no_frame)
    ∷ (step.Save 0, done)
    ∷ (step.Deliver 0 1 1, received)
    ∷ (step.Deliver 0 1 1, repeat)
    ∷ (give 0 1 5 0, sent 2)
    ∷ (give 0 1 6 0, sent 3)
    ∷ (step.Save 0, done)
    ∷ (step.Deliver 0 1 3, early)
    ∷ (step.Act 1 (event.Next 0), refused NothingToDo)
    ∷ (step.Act 1 (event.Next 1), refused NothingToDo)
    ∷ (step.Act 1 (event.Next 2), refused NoNode)
    ∷ (step.Hand 0 1, handed 0)
    ∷ (step.Restart 1, done)
    ∷ (step.Restart 2, refused NoNode)
    ∷ []

pub events : Holds (space 2 4 16) mixed
    × (map is_eventful (outcomes_of mixed)
    ≡ true ∷ false ∷ true ∷ false ∷ true ∷ true ∷ false ∷ true ∷ true ∷ true ∷ false ∷ false
    ∷ false ∷ false ∷ false ∷ true ∷ false ∷ [])
unfolding take_step act receive taken_in count_in take_body append see_to settled
events = (refl, refl)

-- node 0 after 33 messages to node 1, all of them saved
abbrev letter_of : ℕ → Message
letter_of label = record { stamp = 0; body = body.Give label None }

abbrev all_unacknowledged : List Message
all_unacknowledged = letter_of 1 ∷ letter_of 2 ∷ replicate 30 (letter_of 3) ++ letter_of 33 ∷ []

abbrev link : Link
link = record { base = 0; unacknowledged = all_unacknowledged; kept = 33 }

abbrev full : NodeView
full = record (new_view (space 2 4 16) 0) { links = no_link ∷ link ∷ [] }

abbrev one : Ack
one = record { by = 1; of = 0; number = 1; fits = refl }

abbrev none : Ack
none = record { by = 1; of = 0; number = 0; fits = refl }

abbrev beyond : Ack
beyond = record { by = 1; of = 0; number = 34; fits = refl }

abbrev astray : Ack
astray = record { by = 0; of = 1; number = 34; fits = refl }

abbrev view_of : Result (NodeView × Answer) Refusal → NodeView
view_of (Ok x) = x.0
view_of (Err e) = full

abbrev refusal_of : Result (NodeView × Answer) Refusal → Option Refusal
refusal_of (Ok x) = None
refusal_of (Err e) = Some e

abbrev after_one : NodeView
after_one = view_of (view_act full (event.Ack one))

-- the last place of the window, and the one after it
pub window-ends : (released_at (link_to full 1) 31 ≡ Some (letter_of 3))
    × (released_at (link_to full 1) 32 ≡ None)
window-ends = (refl, refl)

-- an acknowledgement moves the window, but an old one doesn't
pub window-moves : (released_at (link_to after_one 1) 31 ≡ Some (letter_of 33))
    × (released_at (link_to after_one 1) 0 ≡ Some (letter_of 2))
    × (view_act after_one (event.Ack none) ≡ Ok (after_one, answer.Done))
unfolding view_act
window-moves = (refl, refl, refl)

pub acknowledged-beyond : (refusal_of (view_act full (event.Ack beyond)) ≡ Some AckBeyond)
    × (refusal_of (view_act full (event.Ack astray)) ≡ Some WrongNode)
unfolding view_act
acknowledged-beyond = (refl, refl)
