-- What playing the collector's strategy gives ("Progress" in docs/PROOF.md).
use Rattle.std.specs.Prelude.{◌≡◌, ℕ, ◌<◌, ◌≤◌, ◌⊎◌, List, ◌∷◌, ◌++◌, Result, Ok, Err, IsOk}
use Rattle.std.specs.List.{AllByRecursion}
use Rattle.ids.specs.declared.refusal.Refusal.{Refusal}
use Rattle.ids.specs.declared.refusal.Refusal.TheVariants.{LinkSpent, Memory, ImageTooLarge}
use Rattle.ids.specs.declared.names.Ref.{Ref}
use Rattle.ids.specs.declared.limits.TheConstants.{GREATEST_NUMBER, GREATEST_CYCLE}
use Rattle.model.specs.declared.step.Step.{Step}
use Rattle.model.specs.World.{World, IsStepRefusal, run, outcomes}
use Rattle.laws.specs.Strategy.{now, next_steps, play}
use Rattle.laws.specs.Progress.{current_cycle, IsSwept, IsGone, saves}
use Rattle.laws.specs.Bounds.{both_moves, cycle_room, both_room, HasRoom}
use Rattle.world.specs.Shows.{HasTooLarge}
use Rattle.world.specs.Spaces.{SpaceView, ShowsSpace}

-- Only the code fails for lack of memory, or because an image is too large.
abbrev pub IsOfCode : Refusal → Type 0
IsOfCode e = (e ≡ Memory) ⊎ (e ≡ ImageTooLarge)

-- The first of these steps was refused in this space; the others weren't tried.
pub record StopsAt (e : Refusal) (w : World) (rest : List Step) : Type 0 where
  pub step : Step
  pub later : List Step
  pub first : rest ≡ step ∷ later
  pub refused : IsStepRefusal w step e

-- A list of steps was broken off at one that was refused: the code shows the space after those
-- before it. If the definitions answer all of them, the code ran out of memory, or an image is too
-- large.
pub record BreaksOff (e : Refusal) (w : World) (new : SpaceView) (steps : List Step) : Type 0 where
  pub done : List Step
  pub rest : List Step
  pub parts : steps ≡ done ++ rest
  pub shown : ShowsSpace new (run w done)
  pub stop : StopsAt e (run w done) rest
  pub cause : AllByRecursion IsOk (outcomes w steps) → IsOfCode e

-- these steps one after another, from a space of the definitions that was shown before
abbrev pub TakesAll : Result Unit Refusal → World → SpaceView → List Step → Type 0
TakesAll (Ok x) w new steps = ShowsSpace new (run w steps)
TakesAll (Err e) w new steps = BreaksOff e w new steps

-- The strategy was played up to the first space in which each node has swept the cycle, and node 0
-- was told so.
pub record Collects (n cycle moves : ℕ) (w : World) (new : SpaceView) : Type 0 where
  pub shown : ShowsSpace new (play n moves w)
  pub swept : IsSwept n cycle (now (play n moves w))
  pub first : (k : ℕ) → k < moves → IsSwept n cycle (now (play n k w)) → ⊥

-- It was broken off in some move, at a step that was refused, and there was no such space before.
-- `LinkSpent` also ends it after `GREATEST_NUMBER` moves.
pub record StopsShort (n cycle : ℕ) (e : Refusal) (w : World) (new : SpaceView) : Type 0 where
  pub moves : ℕ
  pub few : moves ≤ GREATEST_NUMBER
  pub before : (k : ℕ) → k ≤ moves → k < GREATEST_NUMBER → IsSwept n cycle (now (play n k w)) → ⊥
  pub done : List Step
  pub rest : List Step
  pub parts : next_steps n (play n moves w) ≡ done ++ rest
  pub shown : ShowsSpace new (run (play n moves w) done)
  pub stop : moves < GREATEST_NUMBER → StopsAt e (run (play n moves w) done) rest
  pub spent : moves ≡ GREATEST_NUMBER → e ≡ LinkSpent
  pub cause : moves < GREATEST_NUMBER
      → AllByRecursion IsOk (outcomes (play n moves w) (next_steps n (play n moves w))) → IsOfCode e

abbrev pub PlaysUntil : Result ℕ Refusal → (n cycle : ℕ) → World → SpaceView → Type 0
PlaysUntil (Ok moves) n cycle w new = Collects n cycle moves w new
PlaysUntil (Err e) n cycle w new = StopsShort n cycle e w new

-- No link runs out of numbers before the cycle is swept; nor before the next one is, if there is
-- one.
abbrev pub CanFinish : ℕ → World → Type 0
CanFinish n w = HasRoom (cycle_room n (now w)) (now w)

pub record CanCollect (n : ℕ) (w : World) : Type 0 where
  pub cycle : current_cycle w < GREATEST_CYCLE
  pub room : HasRoom (both_room n (now w)) (now w)

-- No image gets too large while the strategy is played: neither after some moves, nor after some
-- steps of a move. (A program keeps to it if what it leaves to the collector stays far below the
-- limit: messages and marks that wait take less than 64 bytes each.)
abbrev pub ImagesFit : ℕ → World → Type 0
ImagesFit n w =
    (moves : ℕ) (done : List Step) (v : SpaceView) → ShowsSpace v (run (play n moves w) done)
    → HasTooLarge v.sites → ⊥

-- Once each node is saved after these moves, none has an object that was garbage before them, saved
-- or not, in any choice of current and saved states.
pub record HasCollected (n moves : ℕ) (w : World) : Type 0 where
  pub few : moves ≤ both_moves n (now w)
  pub gone : (r : Ref) → IsGone w (run (play n moves w) (saves n)) r
