-- Cells at one moment: one list of events leads to what all of them know.
use Rattle.std.specs.Prelude.{ℕ, List, refl}
use Rattle.model.specs.World.{World}
use Rattle.wire.specs.Moments as moments
use Rattle.wire.specs.Moments.{Seating}
use Rattle.cell.specs.Cells.{CellView}

-- a property holds of each cell and its place
abbrev pub EachCell : {D : Type 0} → (ℕ → CellView D → Type 0) → List (CellView D) → Type 0
EachCell Is cells = moments.EachAt Is cells

-- how a cell has its seat
abbrev pub seating : {D : Type 0} → Seating (CellView D)
seating = record {
  seat = λ c. c.seat;
  at = λ c s. record c { seat = s };
  with_own = λ c. refl;
  with_last = λ c s t. refl;
}

-- One list of events from this world leads to what the seat of each cell knows.
abbrev pub AreAtOnce : {D : Type 0} → World → List (CellView D) → Type 0
AreAtOnce opening cells = moments.AreAtOnce seating opening cells

-- The cell is the same, except that its seat learned a list of events.
abbrev pub HasLearned : {D : Type 0} → CellView D → CellView D → Type 0
HasLearned old new = moments.HasLearned seating old new

abbrev pub HaveLearned : {D : Type 0} → List (CellView D) → List (CellView D) → Type 0
HaveLearned old new = moments.HaveLearned seating old new
