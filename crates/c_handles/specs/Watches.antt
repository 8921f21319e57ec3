-- A watch with its wire, as C uses it: what the call does.
use Rattle.std.specs.Prelude.{◌≡◌, ℕ, ◌≤◌, max, [], ◌∷◌, ◌++◌, Result, Ok, Err}
use Rattle.wire.specs.Plays.{HasEnded, WasEnded}
use Rattle.wire.specs.Readers.{heard, loaded, loads_of, watch_opening, IsSameWatch}
use Rattle.c_values.specs.declared.fault.Fault.{Fault}
use Rattle.c_handles.specs.declared.watching.SeatedWatch.{SeatedWatch}

-- What `Wire::look` ensures, with the number of the cycle.
pub record Looked (old new : SeatedWatch) (number : ℕ) : Type 0 where
  pub wire : new.wire ≡ old.wire
  pub same : IsSameWatch old.watch new.watch
  pub is : number ≡ max (loaded new.watch) (heard old.watch)
  pub found : loads_of new.watch ≡ loads_of old.watch ++ loaded new.watch ∷ []
  pub heard : heard new.watch ≡ heard old.watch
  pub later : loaded old.watch ≤ loaded new.watch
  pub ended : HasEnded (watch_opening old.watch) (loaded new.watch)
  pub was_ended : WasEnded (watch_opening old.watch) number

abbrev pub Looks : SeatedWatch → SeatedWatch → Result ℕ Fault → Type 0
Looks old new (Ok number) = Looked old new number
Looks old new (Err e) = ⊥
