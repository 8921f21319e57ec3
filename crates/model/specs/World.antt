-- A space of nodes: the current state of each node, and the one last saved ("A space" in
-- docs/RULES.md).
use Rattle.std.specs.Prelude.{◌++◌, ◌≡◌, ◌≢◌, ℕ, ◌-◌, ◌<◌, ◌≤◌, Bool, true, false, cond, nat_lt, nat_le, ◌==◌, ◌&&◌, ◌||◌, not, List, [], ◌∷◌, length, map, Option, Some, None, Result, Ok, Err, IsOk, slice_get, slice_set}
use Rattle.std.specs.List.{range_with_len}
use Rattle.ids.specs.Limits.{Shaped}
use Rattle.ids.specs.declared.refusal.Refusal.{Refusal}
use Rattle.ids.specs.declared.refusal.Refusal.TheVariants.{NoNode, AckBeyond, WrongNode, ImageTooLarge}
use Rattle.msg.specs.Frames.{Plain, data_frame, ack_frame}
use Rattle.msg.specs.Limits.{is_post}
use Rattle.msg.specs.declared.body.Message.{Message}
use Rattle.model.specs.declared.event.Answer.{Answer}
use Rattle.model.specs.declared.step.Step.{Step}
use Rattle.model.specs.declared.step.Step.TheVariants as step
use Rattle.model.specs.declared.step.Outcome.{Outcome}
use Rattle.model.specs.declared.step.Outcome.TheVariants as outcome
use Rattle.model.specs.Checks.{guarded, IsFirstRefusal}
use Rattle.model.specs.Effects.{is_change}
use Rattle.model.specs.State.{LocalState, NodeState, new_node, node_at, got_from, sent_to}
use Rattle.model.specs.Steps.{act, receive, is_own, is_addressed, is_early, is_next, is_memory_free, is_shading}

pub record World : Type 0 where
  pub current : List NodeState
  pub saved : List NodeState

abbrev pub new_nodes : Shaped → List NodeState
new_nodes shape = map (new_node shape) (range_with_len 0 shape.nodes)

abbrev pub new_world : Shaped → World
new_world shape = record { current = new_nodes shape; saved = new_nodes shape }

-- the message of this number among those sent; numbers start at 1
abbrev pub numbered : List Message → ℕ → Option Message
numbered sent number = cond (nat_lt 0 number) (slice_get sent (number - 1)) None

-- A message to another node is released once a saved state of its sender holds it. Saved lists only
-- grow, so a released message stays released.
abbrev pub released : World → ℕ → ℕ → ℕ → Option Message
released w from to number =
    cond (from == to) None (numbered (sent_to (node_at w.saved from) to) number)

-- the space with the node's new state, and the node's answer
abbrev pub moved : World → ℕ → Result (NodeState × Answer) Refusal
    → Result (World × Outcome) Refusal
moved w i (Ok x) = Ok (record w { current = slice_set w.current i x.0 }, outcome.Answer x.1)
moved w i (Err e) = Err e

abbrev pub delivery : World → ℕ → ℕ → ℕ → Option Message → Result (World × Outcome) Refusal
delivery w from to number None = Ok (w, outcome.NoFrame)
delivery w from to number (Some x) =
    moved w to (receive (node_at w.current to) from to number x.stamp x.body)

-- The messages that a node has received from another are acknowledged once its saved state counts
-- them as received.
abbrev pub acknowledged : World → ℕ → ℕ → ℕ
acknowledged w from to = got_from (node_at w.saved to).local from

-- how many messages from one node to another are released
abbrev pub release_count : World → ℕ → ℕ → ℕ
release_count w from to = length (sent_to (node_at w.saved from) to)

-- An acknowledgement is handed to the sender, which tests it like its event Ack. It changes no
-- state.
abbrev pub handing : World → ℕ → ℕ → Result (World × Outcome) Refusal
handing w from to =
    guarded
    ((is_addressed (node_at w.current from).local to from, WrongNode)
    ∷ (nat_le (acknowledged w from to) (release_count w from to), AckBeyond) ∷ [])
    (w, outcome.Handed (acknowledged w from to))

abbrev pub is_node : World → ℕ → Bool
is_node w i = nat_lt i (length w.current)

-- a step of the space: the new space and the outcome, or the refusal
unfoldable pub take_step : World → Step → Result (World × Outcome) Refusal
take_step w (step.Act i e) =
    cond (is_node w i) (cond (is_own e) (moved w i (act (node_at w.current i) e)) (Err WrongNode))
    (Err NoNode)
take_step w (step.Save i) =
    cond (is_node w i)
    (Ok (record w { saved = slice_set w.saved i (node_at w.current i) }, outcome.Done)) (Err NoNode)
take_step w (step.Restart i) =
    cond (is_node w i)
    (Ok (record w { current = slice_set w.current i (node_at w.saved i) }, outcome.Done))
    (Err NoNode)
take_step w (step.Deliver from to number) =
    cond (is_node w from && is_node w to) (delivery w from to number (released w from to number))
    (Err NoNode)
take_step w (step.Hand from to) =
    cond (is_node w from && is_node w to)
    (cond (from == to) (Ok (w, outcome.NoFrame)) (handing w from to)) (Err NoNode)

abbrev pub world_after : World → Result (World × Outcome) Refusal → World
world_after w (Ok x) = x.0
world_after w (Err e) = w

-- a refused step leaves the space as it was
abbrev pub happens : World → Step → World
happens w s = world_after w (take_step w s)

-- the space after a list of steps
abbrev pub run : World → List Step → World
run w [] = w
run w (s ∷ ss) = run (happens w s) ss

abbrev pub outcome_of : Result (World × Outcome) Refusal → Result Outcome Refusal
outcome_of (Ok x) = Ok x.1
outcome_of (Err e) = Err e

-- the outcome of each step of a list
abbrev pub outcomes : World → List Step → List (Result Outcome Refusal)
outcomes w [] = []
outcomes w (s ∷ ss) = outcome_of (take_step w s) ∷ outcomes (happens w s) ss

-- all that a node's saved state sent, its current state sent too, perhaps followed by more
pub record KeepsSent (w : World) : Type 0 where
  pub width : length w.saved ≡ length w.current
  pub sent : (i j : ℕ)
      → (more : List Message)
      × (sent_to (node_at w.current i) j ≡ sent_to (node_at w.saved i) j ++ more)

-- any step except an Act with an event that comes from another node
abbrev pub is_own_step : Step → Bool
is_own_step (step.Act i e) = is_own e
is_own_step (step.Save i) = true
is_own_step (step.Restart i) = true
is_own_step (step.Deliver from to number) = true
is_own_step (step.Hand from to) = true

-- a step whose event shades
abbrev pub is_shading_step : Step → Bool
is_shading_step (step.Act i e) = is_shading e
is_shading_step (step.Save i) = false
is_shading_step (step.Restart i) = false
is_shading_step (step.Deliver from to number) = true
is_shading_step (step.Hand from to) = false

-- No message, or one that needs no memory: it isn't received, nor is it a letter with references
-- and bytes that comes early.
abbrev pub is_free_message : LocalState → ℕ → ℕ → Option Message → Bool
is_free_message p from number None = true
is_free_message p from number (Some x) =
    not (is_next p from number) && not (is_post x.body && is_early p from number)

-- a step that never fails for lack of memory
abbrev pub is_step_memory_free : World → Step → Bool
is_step_memory_free w (step.Act i e) =
    not (is_node w i) || is_memory_free (node_at w.current i).local e
is_step_memory_free w (step.Save i) = not (is_node w i)
is_step_memory_free w (step.Restart i) = not (is_node w i)
is_step_memory_free w (step.Deliver from to number) =
    not (is_node w from && is_node w to)
    || is_free_message (node_at w.current to).local from number (released w from to number)
is_step_memory_free w (step.Hand from to) = true

-- Why a step was refused: for the first reason that applies. The definitions can't say that a
-- node's image is too large: an image leaves out acknowledged messages, and no state records which
-- these are. Only a save fails with `ImageTooLarge`, and only instead of an answer.
abbrev pub IsStepRefusal : World → Step → Refusal → Type 0
IsStepRefusal w (step.Save i) ImageTooLarge = IsOk (take_step w (step.Save i))
IsStepRefusal w s e = IsFirstRefusal (is_shading_step s) e (take_step w s)

-- The result of a step of the code, and the space after it, compared with the step of the
-- definitions. `shows` says which space of the definitions a space of the code shows. An answer is
-- the definition's, and the code then shows the definition's new space. After a refusal it shows
-- the same space as before.
abbrev pub FollowsStep : {S : Type 0} → (S → World → Type 0) → World → Step
    → Result Outcome Refusal → S → Type 0
FollowsStep shows w s (Ok o) new = (v : World) × (take_step w s ≡ Ok (v, o)) × shows new v
FollowsStep shows w s (Err e) new = IsStepRefusal w s e × shows new w

-- Whether the outcome of a step makes it an event of the space. Not events are: reading a word, a
-- repeat, an early message, a message that isn't there, an acknowledgement, and a refusal. The same
-- test applies to the code's own result, which may also be a failed allocation.
abbrev pub is_eventful : Result Outcome Refusal → Bool
is_eventful (Ok (outcome.Answer a)) = is_change a
is_eventful (Ok outcome.Done) = true
is_eventful (Ok (outcome.Handed number)) = false
is_eventful (Ok outcome.NoFrame) = false
is_eventful (Err e) = false

-- A step of the space that is an event. The definitions never fail for lack of memory.
abbrev pub is_event : World → Step → Bool
is_event w s = is_eventful (outcome_of (take_step w s))

-- The frames ever released: all messages that saved states have sent, and between any two nodes the
-- acknowledgements of every number up to what a saved state has received. An acknowledgement names
-- the acknowledging node first.
abbrev pub IsInNet : World → Plain → Type 0
IsInNet w (data_frame from to number stamp body) =
    released w from to number ≡ Some (record { stamp = stamp; body = body })
IsInNet w (ack_frame by of number) =
    (by < length w.current) × (of < length w.current) × (by ≢ of) × (number ≤ acknowledged w of by)
