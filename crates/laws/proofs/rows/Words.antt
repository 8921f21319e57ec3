-- Words for tables of steps and states: the events of a cycle, their outcomes, and a node in
-- numbers. A run of a new space is a table, with a row for each step and its outcome, and now and
-- then a node as it is at that point.
use Rattle.std.specs.Prelude.{◌≡◌, ℕ, ◌-◌, ℤ, pos, Bool, true, false, List, [], ◌∷◌, ◌++◌, length, count_by, is_some, Result, Ok}
use Rattle.ids.specs.Limits.{Shaped}
use Rattle.ids.specs.declared.names.Ref.{Ref}
use Rattle.ids.specs.declared.refusal.Refusal.{Refusal}
use Rattle.msg.specs.declared.body.Colour.{Colour}
use Rattle.msg.specs.declared.body.Colour.TheVariants.{White, Black}
use Rattle.model.specs.declared.event.Event.TheVariants as event
use Rattle.model.specs.declared.event.Answer.TheVariants as answer
use Rattle.model.specs.declared.step.Step.{Step}
use Rattle.model.specs.declared.step.Step.TheVariants as step
use Rattle.model.specs.declared.step.Outcome.{Outcome}
use Rattle.model.specs.declared.step.Outcome.TheVariants as outcome
use Rattle.model.specs.State.{Slot, Free, Occupied, Retired, LocalState, node_at}
use Rattle.model.specs.World.{World, new_world, take_step, happens, outcome_of}
use Rattle.laws.proofs.rows.Rows.{object, alloc, drop_register, give, accept, made, sent, letter, received, done, dropped_now}

-- ---- steps; the node comes first

abbrev pub begin_cycle : ℕ → Step
begin_cycle node = step.Act node event.Begin

abbrev pub scan_grey : ℕ → Step
scan_grey node = step.Act node event.Scan

abbrev pub pass_token : ℕ → Step
pass_token node = step.Act node event.Pass

abbrev pub sweep_slots : ℕ → ℕ → Step
sweep_slots node count = step.Act node (event.Sweep count)

abbrev pub save : ℕ → Step
save node = step.Save node

abbrev pub restart : ℕ → Step
restart node = step.Restart node

abbrev pub deliver : ℕ → ℕ → ℕ → Step
deliver from to number = step.Deliver from to number

-- ---- outcomes of steps

abbrev pub ok : Result Outcome Refusal
ok = dropped_now

abbrev pub began : ℕ → Result Outcome Refusal
began cycle = Ok (outcome.Answer (answer.Begun cycle))

abbrev pub scanned_grey : Ref → Result Outcome Refusal
scanned_grey r = Ok (outcome.Answer (answer.Scanned r))

abbrev pub passed_token : ℤ → Colour → Result Outcome Refusal
passed_token q colour = Ok (outcome.Answer (answer.Passed (record { colour = colour; q = q })))

abbrev pub probe_again : Result Outcome Refusal
probe_again = Ok (outcome.Answer answer.ProbeAgain)

abbrev pub ended : ℕ → Result Outcome Refusal
ended cycle = Ok (outcome.Answer (answer.Ended cycle))

-- this many objects were freed; all slots are swept, or some are left
abbrev pub freed_done : ℕ → Result Outcome Refusal
freed_done count = Ok (outcome.Answer (answer.Freed count true))

abbrev pub freed_more : ℕ → Result Outcome Refusal
freed_more count = Ok (outcome.Answer (answer.Freed count false))

-- ---- tables of steps and states

-- a node in numbers
pub record Numbers : Type 0 where
  pub cycle : ℕ
  pub ended : ℕ
  pub swept : ℕ
  pub colour : Colour
  pub earlier : ℤ
  pub recent : ℤ
  pub grey : ℕ
  pub live : ℕ
  pub has_token : Bool
  pub letters : ℕ

abbrev pub state : ℕ → ℕ → ℕ → Colour → ℤ → ℤ → ℕ → ℕ → Bool → ℕ → Numbers
state cycle last swept colour earlier recent grey live token letters =
    record {
      cycle = cycle;
      ended = last;
      swept = swept;
      colour = colour;
      earlier = earlier;
      recent = recent;
      grey = grey;
      live = live;
      has_token = token;
      letters = letters;
    }

abbrev is_object : Slot → Bool
is_object (Free g) = false
is_object (Occupied g o) = true
is_object Retired = false

abbrev pub numbers_of : LocalState → Numbers
numbers_of p =
    state
    p.phases.cycle
    p.phases.ended
    p.phases.swept
    p.ring.colour
    p.ring.earlier
    p.ring.recent
    (length p.heap.grey)
    (count_by is_object p.heap.slots)
    (is_some p.ring.token)
    (length p.heap.letters)

infix 70 ◌gives◌
infix 70 ◌shows◌
pub data Row : Type 0 where
  ◌gives◌ : Step → Result Outcome Refusal → Row
  ◌shows◌ : ℕ → Numbers → Row

-- the table as the definitions would write it, from this space on
abbrev pub table : World → List Row → List Row
table w [] = []
table w (s gives r ∷ rows) = s gives outcome_of (take_step w s) ∷ table (happens w s) rows
table w (i shows n ∷ rows) = i shows numbers_of (node_at w.current i).local ∷ table w rows

-- they write this table, in a new space of this shape
abbrev pub Prints : Shaped → List Row → Type 0
Prints shape rows = table (new_world shape) rows ≡ rows

-- ---- rows that many tables have

-- A node passes the token on and is saved, and the node before it gets the token as this message.
abbrev pub passes_on : ℕ → ℤ → Colour → ℕ → List Row
passes_on node q colour number =
    pass_token node gives passed_token q colour
    ∷ save node gives done
    ∷ deliver node (node - 1) number gives received
    ∷ []

-- of three nodes, the last one joins by the first token of a cycle, which then comes to node 1
abbrev pub first_token : List Row
first_token =
    save 0 gives done
    ∷ deliver 0 2 1 gives received
    ∷ passes_on 2 (pos 0) Black 1

-- A new node makes its first object, and its first message brings a reference to it. The reference
-- ends up in this register of the other node.
abbrev pub comes_over : ℕ → ℕ → ℕ → List Row
comes_over from to register =
    alloc from 0 0 gives made (object from 0 1)
    ∷ give from to 1 0 gives sent 1
    ∷ save from gives done
    ∷ deliver from to 1 gives received
    ∷ accept to register gives letter from 1 (object from 0 1)
    ∷ []

-- The same with this many places and this label, and the first node then names the object no more.
abbrev pub handed_over : (from to places label register : ℕ) → List Row
handed_over from to places label register =
    alloc from 0 places gives made (object from 0 1)
    ∷ give from to label 0 gives sent 1
    ∷ drop_register from 0 gives ok
    ∷ save from gives done
    ∷ deliver from to 1 gives received
    ∷ accept to register gives letter from label (object from 0 1)
    ∷ []

-- Of three nodes, all join by the first round of the token. It goes around again, and comes to node
-- 0 as a white one. This many messages that node 1 sent are in flight.
abbrev pub two_rounds : ℕ → List Row
two_rounds owed =
    first_token
    ++ passes_on 1 (pos owed) Black 1
    ++ pass_token 0 gives probe_again
    ∷ save 0 gives done
    ∷ deliver 0 2 2 gives received
    ∷ deliver 0 2 3 gives received
    ∷ passes_on 2 (pos 0) White 2
    ++ passes_on 1 (pos owed) White 2

-- Of two nodes, both sweep, and free this many objects. Node 1 is told of the end by this message.
abbrev pub both_sweep : (freed number freed_there : ℕ) → List Row
both_sweep freed number freed_there =
    sweep_slots 0 16 gives freed_done freed
    ∷ save 0 gives done
    ∷ deliver 0 1 number gives received
    ∷ sweep_slots 1 16 gives freed_done freed_there
    ∷ []

-- the cycle that marked the object in a slot; 0 if the slot has no object
abbrev pub mark_of : Slot → ℕ
mark_of (Free g) = 0
mark_of (Occupied g o) = o.mark
mark_of Retired = 0

-- the space after a table
abbrev pub after : World → List Row → World
after w [] = w
after w (s gives r ∷ rows) = after (happens w s) rows
after w (i shows n ∷ rows) = after w rows
