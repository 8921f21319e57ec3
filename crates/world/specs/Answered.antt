-- The answers of the code's space to a list of steps, as its programs see them.
use Rattle.std.specs.Prelude.{ℕ, Bool, true, false, cond, List, [], ◌∷◌, ◌++◌, Result, Err}
use Rattle.ids.specs.Limits.{Shaped, IsShape}
use Rattle.ids.specs.declared.refusal.Refusal.{Refusal}
use Rattle.ids.specs.declared.refusal.Refusal.TheVariants.{Memory, ImageTooLarge}
use Rattle.model.specs.declared.step.Step.{Step}
use Rattle.model.specs.declared.step.Outcome.{Outcome}
use Rattle.model.specs.World.{World, new_world, happens, run}
use Rattle.model.specs.Cuts.{cut}
use Rattle.laws.specs.Objects.{new_space, Sight, IsRun, after}
use Rattle.laws.specs.Sights.{observed_in_step, choice_at_start, LooksLike}
use Rattle.world.specs.Spaces.{SpaceView, ShowsSpace, FollowsSpace, step_met}

-- a call of `Sim::step`: the step, the result, and the space of the code afterwards
pub record Call : Type 0 where
  pub step : Step
  pub result : Result Outcome Refusal
  pub space : SpaceView

-- calls one after another, each of which meets the clause `follows` of `Sim::step`
abbrev pub AreCalls : SpaceView → List Call → Type 0
AreCalls old [] = Unit {0}
AreCalls old (k ∷ ks) =
    FollowsSpace k.result old k.space k.step × AreCalls k.space ks

-- the space of the code after them
abbrev pub space_after : SpaceView → List Call → SpaceView
space_after old [] = old
space_after old (k ∷ ks) = space_after k.space ks

-- Whether a call took a step of the definitions. Only the code fails for lack of memory, or because
-- an image is too large.
abbrev pub is_taken : Result Outcome Refusal → Bool
is_taken (Err Memory) = false
is_taken (Err ImageTooLarge) = false
is_taken r = true

-- The steps that were taken, as the definitions have them. Next of a frame that waits is its
-- delivery.
abbrev pub steps_of : SpaceView → List Call → List Step
steps_of old [] = []
steps_of old (k ∷ ks) =
    cond (is_taken k.result) (step_met old.early k.step ∷ steps_of k.space ks) (steps_of k.space ks)

-- What was seen, by the answers of the calls, as far as it belongs to the cut that the choice picks
-- at the end. The space of the definitions says which message was delivered.
abbrev pub sights : World → SpaceView → List Call → (ℕ → Bool) → List Sight
sights w old [] choice = []
sights w old (k ∷ ks) choice =
    cond (is_taken k.result)
    (observed_in_step w (choice_at_start (steps_of k.space ks) choice) (step_met old.early k.step)
    k.result
    ++ sights (happens w (step_met old.early k.step)) k.space ks choice)
    (sights w k.space ks choice)

-- What programs see of the code. In each choice of current and saved states, the sights that the
-- calls' answers give are a run of a space without a collector. The space of the code then shows
-- the definitions' space after these steps, and the run ends like the choice's cut of that space.
abbrev pub AnswersAreUnseen : Type 0
AnswersAreUnseen =
    (shape : Shaped) → IsShape shape
    → (old : SpaceView) (calls : List Call) (choice : ℕ → Bool)
    → ShowsSpace old (new_world shape) → AreCalls old calls
    → IsRun shape (new_space shape) (sights (new_world shape) old calls choice)
    × ShowsSpace (space_after old calls) (run (new_world shape) (steps_of old calls))
    × LooksLike (after (new_space shape) (sights (new_world shape) old calls choice))
    (cut (run (new_world shape) (steps_of old calls)) choice)
