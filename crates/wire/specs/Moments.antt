-- What has seats of one wire, at one moment: one list of events leads to what all the seats know.
use Rattle.std.specs.Prelude.{◌≡◌, ◌≢◌, ℕ, List, length, slice_get, Some}
use Rattle.model.specs.declared.step.Step.{Step}
use Rattle.model.specs.World.{World}
use Rattle.wire.specs.Plays.{LeadsTo, Learns}
use Rattle.wire.specs.Readers.{known, IsSame}
use Rattle.wire.specs.Rule.{AreEvents}
use Rattle.wire.specs.Views.{learns}
use Rattle.wire.specs.declared.seats.NodeSeat.{NodeSeat}

-- how something has a seat: which seat that is, and what it is with another seat but else the same
pub record Seating (T : Type 0) : Type 0 where
  pub seat : T → NodeSeat
  pub at : T → NodeSeat → T
  pub with_own : (x : T) → at x (seat x) ≡ x
  pub with_last : (x : T) (s t : NodeSeat) → at (at x s) t ≡ at x t

-- a property holds of each item of a list and its place
abbrev pub EachAt : {T : Type 0} → (ℕ → T → Type 0) → List T → Type 0
EachAt {T} Is items = (k : ℕ) (x : T) → slice_get items k ≡ Some x → Is k x

-- One list of events from this world leads to what the seat of each item knows.
pub record AreAtOnce {T : Type 0} (s : Seating T) (opening : World) (items : List T) : Type 0 where
  pub log : List Step
  pub events : AreEvents opening log
  pub each : EachAt (λ k x. LeadsTo (known (s.seat x)) log) items

-- It is the same, except that its seat learned a list of events.
pub record HasLearned {T : Type 0} (s : Seating T) (old new : T) : Type 0 where
  pub same : IsSame (s.seat old) (s.seat new)
  pub stays : new ≡ s.at old (s.seat new)
  pub known : known (s.seat new) ≡ learns (known (s.seat new)).seen (known (s.seat old))

pub record HaveLearned {T : Type 0} (s : Seating T) (old new : List T) : Type 0 where
  pub count : length new ≡ length old
  pub each : (k : ℕ) (x y : T) → slice_get old k ≡ Some x → slice_get new k ≡ Some y
      → HasLearned s x y

-- The item in the place `to` learned a list of events that leads to what it knows, and that begins
-- with the one which the item in the place `from` had learned.
pub record LearnedFrom {T : Type 0} (s : Seating T) (to from : ℕ) (old new : List T) : Type 0 where
  pub learned : HaveLearned s old new
  pub others : (k : ℕ) (x y : T) → slice_get old k ≡ Some x → slice_get new k ≡ Some y → k ≢ to
      → known (s.seat y) ≡ known (s.seat x)
  pub leads : (w x y : T) → slice_get old from ≡ Some w → slice_get old to ≡ Some x
      → slice_get new to ≡ Some y
      → Learns (known (s.seat w)).seen (known (s.seat x)) (known (s.seat y))
