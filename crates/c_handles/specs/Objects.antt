-- The objects of a node, found by their slots, as C sees them.
use Rattle.std.specs.Prelude.{ℕ, ◌==◌, List, cond, drop, length, take, Option, Some, None, Result, Ok, Err, slice_get}
use Rattle.ids.specs.declared.names.Ref.{Ref}
use Rattle.ids.specs.declared.refusal.Refusal.TheVariants.{NoBytes, NoField}
use Rattle.model.specs.Heaps.{has_range}
use Rattle.model.specs.State.{LocalState, Object, Slot, Free, Occupied, Retired, slot_at}
use Rattle.c_values.specs.Fields.{age_number, bit}
use Rattle.c_values.specs.declared.fault.Fault.{Fault}
use Rattle.c_values.specs.declared.fault.Fault.TheVariants as fault
use Rattle.c_values.specs.declared.fields.CObject.{CObject}

-- what a read finds in a slot, given the object there and its generation
abbrev pub found_in : {A : Type 0} → (ℕ → Object → Result A Fault) → Slot → Result A Fault
found_in read (Occupied g o) = read g o
found_in read (Free g) = Err fault.Nothing
found_in read Retired = Err fault.Nothing

-- The same for the node's slot with this number. One that was never used has no object.
abbrev pub at_slot : {A : Type 0} → LocalState → ℕ → (ℕ → Object → Result A Fault)
    → Result A Fault
at_slot p slot read = found_in read (slot_at p.heap slot)

abbrev pub object_fields : LocalState → ℕ → ℕ → Object → CObject
object_fields p slot generation o = record {
  reference = record { node = p.own; slot = slot; generation = generation };
  word = o.word;
  bytes = length o.bytes;
  places = length o.places;
  marked = bit (o.mark == p.phases.cycle);
  shared = bit o.shared;
  age = age_number o.age;
}

-- the object in a slot
abbrev pub object_of : LocalState → ℕ → Result CObject Fault
object_of p slot = at_slot p slot (λ g o. Ok (object_fields p slot g o))

abbrev pub content_of : Option (Option Ref) → Result (Option Ref) Fault
content_of (Some r) = Ok r
content_of None = Err (fault.Refused NoField)

-- what a place of it holds
abbrev pub place_at : LocalState → ℕ → ℕ → Result (Option Ref) Fault
place_at p slot place = at_slot p slot (λ g o. content_of (slice_get o.places place))

abbrev pub range_of : List ℕ → ℕ → ℕ → Result (List ℕ) Fault
range_of xs offset count =
    cond (has_range xs offset count) (Ok (take count (drop offset xs)))
    (Err (fault.Refused NoBytes))

-- this many of its bytes, from this offset on
abbrev pub bytes_at : LocalState → ℕ → ℕ → ℕ → Result (List ℕ) Fault
bytes_at p slot offset count = at_slot p slot (λ g o. range_of o.bytes offset count)

-- how many slots were ever used
abbrev pub slots_of : LocalState → ℕ
slots_of p = length p.heap.slots
