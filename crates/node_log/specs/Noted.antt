-- What becomes of a log if an event is added.
use Rattle.std.specs.Prelude.{◌≡◌, ℕ, List, ◌++◌, Option, Some}
use Rattle.codec.specs.Formats.{Fits}
use Rattle.model.specs.declared.event.Event.{Event}
use Rattle.event_bytes.specs.Entries.{entry}
use Rattle.event_bytes.specs.Events.{entry_of}

-- the event was added to the log, or the log is lost
pub record Noted (old new : Option (List ℕ)) (e : Event) : Type 0 where
  pub more : (bytes : List ℕ) → new ≡ Some bytes
      → Fits entry (entry_of e) × ((before : List ℕ) × (old ≡ Some before)
      × (bytes ≡ before ++ entry.spell (entry_of e)))
