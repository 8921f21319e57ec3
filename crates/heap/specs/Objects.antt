-- What holds of every object.
use Rattle.std.specs.Prelude.{ℕ, ◌≤◌, List, length, Option}
use Rattle.ids.specs.declared.limits.TheConstants.{GREATEST_BYTES, GREATEST_PLACES}
use Rattle.ids.specs.declared.names.Ref.{Ref}

-- these bytes and these places are within the limits
pub record IsBounded (held : List ℕ) (references : List (Option Ref)) : Type 0 where
  pub places : length references ≤ GREATEST_PLACES
  pub bytes : length held ≤ GREATEST_BYTES
