-- Runs of a space, one after another.
use Rattle.std.proofs.Common.{◌≡◌, List, [], ◌∷◌, ◌++◌, refl}
use Rattle.model.specs.declared.step.Step.{Step}
use Rattle.model.specs.World.{World, happens, run}

pub run-append : (w : World) (steps more : List Step)
    → run w (steps ++ more) ≡ run (run w steps) more
run-append w [] more = refl
run-append w (s ∷ ss) more = run-append (happens w s) ss more

-- one more step
pub run-push : (w : World) (steps : List Step) (s : Step)
    → run w (steps ++ s ∷ []) ≡ happens (run w steps) s
run-push w steps s = run-append w steps (s ∷ [])
