-- The strategy of the collector on the code ("Progress" in docs/PROOF.md).
use Rattle.std.specs.Prelude.{◌≡◌, ℕ, true, List, map, IsOk}
use Rattle.std.specs.List.{AllByRecursion}
use Rattle.model.specs.declared.step.Step.{Step}
use Rattle.model.specs.World.{World}
use Rattle.laws.specs.Strategy.{played, play, IsPlayed}
use Rattle.world.specs.Spaces.{SpaceView, ShowsSpace}
use Rattle.world.specs.Answered.{Call, AreCalls, space_after, is_taken}

abbrev pub step_of : Call → Step
step_of k = k.step

-- The code answers what the strategy plays. Take a space of the code that shows one of the
-- definitions, and the calls of the steps that k moves have there, if the definitions answer all of
-- these. If no call fails with `Memory` or `ImageTooLarge`, none fails, and the code's space then
-- shows the space after the k moves.
abbrev pub PlayedIsAnswered : Type 0
PlayedIsAnswered =
    (n k : ℕ) (w : World) (old : SpaceView) (calls : List Call)
    → ShowsSpace old w → AreCalls old calls
    → IsPlayed n k w → map step_of calls ≡ played n k w
    → AllByRecursion (λ c. is_taken c.result ≡ true) calls
    → AllByRecursion (λ c. IsOk c.result) calls × ShowsSpace (space_after old calls) (play n k w)
