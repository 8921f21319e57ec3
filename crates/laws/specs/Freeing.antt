-- Which steps free objects, and that what is gone doesn't come back. So a list of what each Sweep
-- and each Reclaim freed is a list of all that went.
use Rattle.std.specs.Prelude.{◌≡◌, Bool, true, false, List, ◌∷◌}
use Rattle.ids.specs.declared.names.Ref.{Ref}
use Rattle.model.specs.declared.step.Step.{Step}
use Rattle.model.specs.declared.step.Step.TheVariants as step
use Rattle.model.specs.Steps.{frees}
use Rattle.model.specs.World.{World, happens, run}
use Rattle.model.specs.Cuts.{cut, IsLive}
use Rattle.laws.specs.Statements.{StaysUp}

-- its owner's current state has the object
abbrev pub Exists : World → Ref → Type 0
Exists w r = IsLive (cut w (λ _. false)) r

-- A Sweep and a Reclaim may free objects, and a restart may lose those that were made since the
-- save.
abbrev pub may_lose : Step → Bool
may_lose (step.Act i e) = frees e
may_lose (step.Restart i) = true
may_lose s = false

-- No other step loses an object: no other event, and no message that is received.
abbrev pub OthersLoseNothing : World → Type 0
OthersLoseNothing w =
    (s : Step) (r : Ref) → may_lose s ≡ false → Exists w r → Exists (happens w s) r

-- An object that a step frees doesn't come back, and no other object gets its reference, as long
-- as its owner doesn't restart.
abbrev pub GoneForGood : World → Type 0
GoneForGood w =
    (s : Step) (later : List Step) (r : Ref) → Exists w r → (Exists (happens w s) r → ⊥)
    → StaysUp r.node (s ∷ later) → Exists (run (happens w s) later) r → ⊥
