-- What was appended to a piece.
use Rattle.std.specs.Prelude.{◌≡◌, ◌≤◌, ◌+◌, ℕ, List, ◌++◌, length}
use Rattle.std.specs.List.{flat_map, AllByRecursion}
use Rattle.codec.specs.Formats.{Format}

-- a text of at most `most` bytes, and a fact that is known about it
pub record Gains (old new text : List ℕ) (most : ℕ) (fact : Type 0) : Type 0 where
  pub is : new ≡ old ++ text
  pub few : length new ≤ length old + most
  pub known : fact

-- the spelling of a value
abbrev pub Adds : {A : Type 0} → Format A → ℕ → List ℕ → List ℕ → A → Type 0
Adds F most old new x = Gains old new (F.spell x) most (F.IsWide x)

-- the spellings of values, one after another
abbrev pub AddsAll : {A : Type 0} → Format A → ℕ → List ℕ → List ℕ → List A → Type 0
AddsAll F most old new xs = Gains old new (flat_map F.spell xs) most (AllByRecursion F.IsWide xs)
