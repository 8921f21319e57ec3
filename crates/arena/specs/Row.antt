-- The view of a `Store` that contracts use.
use Rattle.std.specs.Prelude.{ℕ, List}

-- the items, and how many there may be
pub record Row (E : Type 0) : Type 0 where
  pub items : List E
  pub capacity : ℕ

abbrev pub row : {E : Type 0} → List E → ℕ → Row E
row items capacity = record { items = items; capacity = capacity }
