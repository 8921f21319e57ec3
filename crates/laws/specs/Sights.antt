-- What programs see of a run of a space, and that it is a run of a space without a collector
-- ("Without a collector" in docs/PROOF.md).
use Rattle.std.specs.Prelude.{◌≡◌, ℕ, Bool, true, false, cond, ◌==◌, ◌&&◌, not, List, [], ◌∷◌, ◌++◌, map, filter, Option, Some, Result, Ok, Err}
use Rattle.ids.specs.Limits.{Shaped, IsShape}
use Rattle.ids.specs.declared.names.Ref.{Ref}
use Rattle.ids.specs.declared.refusal.Refusal.{Refusal}
use Rattle.msg.specs.declared.body.Body.{Body}
use Rattle.msg.specs.declared.body.Message.{Message}
use Rattle.model.specs.declared.event.Event.{Event}
use Rattle.model.specs.declared.event.Answer.TheVariants as answer
use Rattle.model.specs.declared.step.Step.{Step}
use Rattle.model.specs.declared.step.Step.TheVariants as step
use Rattle.model.specs.declared.step.Outcome.{Outcome}
use Rattle.model.specs.declared.step.Outcome.TheVariants as outcome
use Rattle.model.specs.State.{Object, Occupied, slot_at}
use Rattle.model.specs.Counting.{is_reference}
use Rattle.model.specs.World.{World, new_world, take_step, happens, run, is_node, outcome_of, released}
use Rattle.model.specs.Cuts.{Cut, cut, Reachable}
use Rattle.model.specs.Agreement.{in_flight}
use Rattle.model.specs.Heaps.{heap_bytes}
use Rattle.laws.specs.Objects.{Thing, Space, new_space, is_program, bytes_told, Sight, told, came, IsRun, after}

-- ---- what is observed of a step

-- what a program was told about its event
abbrev pub told_of : ℕ → Event → Result Outcome Refusal → List Sight
told_of i e (Ok (outcome.Answer a)) = told i e (Ok a) ∷ []
told_of i e (Ok o) = []
told_of i e (Err r) = told i e (Err r) ∷ []

-- a program's message that was received; the collector's messages aren't observed
abbrev pub came_of : ℕ → ℕ → Result Outcome Refusal → Option Message → List Sight
came_of from to (Ok (outcome.Answer answer.Received)) (Some x) =
    cond (is_reference x.body) (came from to ∷ []) []
came_of from to r found = []

-- What is observed of a step, by its outcome. If the choice takes a node's saved state, neither
-- what its program is told nor what the node receives is in the cut.
abbrev pub observed_in_step : World → (ℕ → Bool) → Step → Result Outcome Refusal → List Sight
observed_in_step w choice (step.Act i e) r =
    cond (is_node w i && (is_program e && not (choice i))) (told_of i e r) []
observed_in_step w choice (step.Deliver from to number) r =
    cond (choice to) [] (came_of from to r (released w from to number))
observed_in_step w choice s r = []

-- ---- what is observed of a run

-- The choice before a step that picks the same states as the choice after it. For a node that is
-- saved, it is the current state; for a node that is restarted, the saved one.
abbrev pub choosing : (ℕ → Bool) → ℕ → Bool → ℕ → Bool
choosing choice i b k = cond (k == i) b (choice k)

abbrev pub choice_before : Step → (ℕ → Bool) → ℕ → Bool
choice_before (step.Save i) choice = choosing choice i false
choice_before (step.Restart i) choice = choosing choice i true
choice_before s choice = choice

-- the same before a list of steps
abbrev pub choice_at_start : List Step → (ℕ → Bool) → ℕ → Bool
choice_at_start [] choice = choice
choice_at_start (s ∷ ss) choice = choice_before s (choice_at_start ss choice)

-- What is observed in a run, as far as it belongs to the cut that the choice picks at its end. What
-- a restart has undone, or what a saved state lacks, is left out. If nothing was restarted and all
-- states are current, nothing is left out.
--
-- Three runs of two steps, in one of which node 0 makes an object (`proofs/rows/SightRows.antt`):
-- * made, then node 0 is restarted: no cut has it, since the restart took the object back;
-- * made, then node 0 is saved: every cut has it;
-- * node 0 is saved, then made: only the cuts of node 0's current state have it.
abbrev pub observed_in_cut : World → List Step → (ℕ → Bool) → List Sight
observed_in_cut w [] choice = []
observed_in_cut w (s ∷ ss) choice =
    observed_in_step w (choice_at_start ss choice) s (outcome_of (take_step w s))
    ++ observed_in_cut (happens w s) ss choice

-- ---- the theorem

abbrev pub thing_of : Object → Thing
thing_of o = record { word = o.word; bytes = o.bytes; places = o.places }

abbrev pub body_of : Message → Body
body_of x = x.body

-- the messages of programs
abbrev pub programs : List Message → List Body
programs xs = filter is_reference (map body_of xs)

-- The space without a collector has the cut's registers, letters and messages of programs, and the
-- same word, bytes and places in every object that is reachable in the cut. Whoever reads bytes is
-- told the same.
pub record LooksLike (s : Space) (c : Cut) : Type 0 where
  pub registers : (i : ℕ) → (s.desk i).registers ≡ (c i).local.heap.registers
  pub letters : (i : ℕ) → (s.desk i).letters ≡ (c i).local.heap.letters
  pub messages : (from to : ℕ) → s.under_way from to ≡ programs (in_flight c from to)
  pub objects : (r : Ref) → Reachable c r
      → (o : Object) × (slot_at (c r.node).local.heap r.slot ≡ Occupied r.generation o)
      × (s.objects r ≡ Some (thing_of o))
  pub bytes : (i object offset count : ℕ)
      → heap_bytes (c i).local.own (c i).local.heap object offset count
      ≡ bytes_told s i object offset count

-- The collector can't be seen, in any cut of any run. Take all that programs were told and
-- received, except what restarts have undone. That is a run of a space in which no object is ever
-- freed, and at its end that space looks like the cut.
abbrev pub CollectorIsUnseen : Type 0
CollectorIsUnseen =
    (shape : Shaped) → IsShape shape → (steps : List Step) (choice : ℕ → Bool)
    → IsRun shape (new_space shape) (observed_in_cut (new_world shape) steps choice)
    × LooksLike (after (new_space shape) (observed_in_cut (new_world shape) steps choice))
    (cut (run (new_world shape) steps) choice)
