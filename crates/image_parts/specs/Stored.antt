-- What an image says about a node's slots, links and phases.
use Rattle.std.specs.Prelude.{ℕ, List, map}
use Rattle.std.specs.List.{zip}
use Rattle.arena_slot.specs.declared.Slot.TheVariants as slot
use Rattle.model.specs.State.{Slot, Free, Occupied, Retired, Phases}
use Rattle.model.specs.View.{Link}
use Rattle.image_parts.specs.declared.parts.PhasesParts.{PhasesParts}
use Rattle.image_parts.specs.Links.{StoredLink, StoredSlot}

-- a slot of the heap, as the arena has it
abbrev pub stored_slot : Slot → StoredSlot
stored_slot (Free generation) = slot.Free generation
stored_slot (Occupied generation object) = slot.Occupied generation object
stored_slot Retired = slot.Retired

-- the links to other nodes, each with the number of the last message received from there
abbrev pub stored_link : Link × ℕ → StoredLink
stored_link x = record {
  base = x.0.base;
  unacknowledged = x.0.unacknowledged;
  received = x.1;
}

abbrev pub stored_links : List Link → List ℕ → List StoredLink
stored_links links got = map stored_link (zip links got)

abbrev pub phases_by : Phases → PhasesParts
phases_by p =
    record { cycle = p.cycle; ended = p.ended; swept = p.swept; cursor = p.cursor }
