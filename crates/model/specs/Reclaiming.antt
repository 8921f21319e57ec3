-- Freeing the private objects that nothing needs any more ("Reclaiming" in docs/RULES.md). Other
-- nodes can't know a private object, so its node frees it without asking them. A Reclaim may be
-- limited to the objects that were made since the last one.
use Rattle.std.specs.Prelude.{ℕ, zero, suc, Bool, true, false, cond, not, ◌&&◌, ◌||◌, List, [], ◌∷◌, length, map, filter, Option}
use Rattle.std.specs.List.{list_any}
use Rattle.ids.specs.declared.names.Ref.{Ref}
use Rattle.ids.specs.declared.refusal.Refusal.{Refusal}
use Rattle.ids.specs.declared.refusal.Refusal.TheVariants.{NothingToDo}
use Rattle.model.specs.declared.age.Age.{Age}
use Rattle.model.specs.declared.age.Age.TheVariants as age
use Rattle.model.specs.declared.age.Scope.{Scope}
use Rattle.model.specs.declared.age.Scope.TheVariants as scope
use Rattle.model.specs.State.{Object, Slot, Free, Occupied, Retired, Heap, slot_at}
use Rattle.model.specs.Shading.{is_in, filled, roots}
use Rattle.model.specs.Heaps.{is_old}
use Rattle.model.specs.Collecting.{generation_in, places_in, Sweeping, free_some}

abbrev pub is_occupied : Slot → Bool
is_occupied (Free g) = false
is_occupied (Occupied g o) = true
is_occupied Retired = false

-- the slot has an object that other nodes may know
abbrev pub is_shared : Slot → Bool
is_shared (Free g) = false
is_shared (Occupied g o) = o.shared
is_shared Retired = false

-- the slot has a private object
abbrev pub is_private : Slot → Bool
is_private (Free g) = false
is_private (Occupied g o) = not o.shared
is_private Retired = false

-- a node's reference to what is in a slot, by the generation that the slot has
abbrev pub reference_in : ℕ → Heap → ℕ → Ref
reference_in own h k =
    record { node = own; slot = k; generation = generation_in (slot_at h k) }

-- the object in the slot is among those that these references name
abbrev pub is_named : ℕ → Heap → ℕ → List (Option Ref) → Bool
is_named own h k vs = is_in (reference_in own h k) (filled vs)

-- one of the numbers below this one passes the test
abbrev pub any_below : ℕ → (ℕ → Bool) → Bool
any_below zero test = false
any_below (suc n) test = test n || any_below n test

-- What is in the slot is needed: it is shared; or a register or a letter names it; or a place of an
-- object that is needed. The first number says over how many places at most.
abbrev pub is_needed_in : ℕ → ℕ → Heap → ℕ → Bool
is_needed_in zero own h k = is_shared (slot_at h k) || is_named own h k (roots h)
is_needed_in (suc n) own h k =
    is_needed_in n own h k
    || any_below (length h.slots)
    (λ j. is_needed_in n own h j && is_named own h k (places_in (slot_at h j)))

-- No path is longer than there are slots.
abbrev pub is_needed : ℕ → Heap → ℕ → Bool
is_needed own h k = is_needed_in (length h.slots) own h k

-- An object as a search for young garbage sees it. All that isn't young counts as needed. What an
-- old one names isn't followed: it isn't young, or it is remembered or shared.
abbrev pub is_young : Age → Bool
is_young age.Young = true
is_young age.Remembered = false
is_young age.Old = false

abbrev pub seen_young : Object → Object
seen_young o = record o {
  shared = o.shared || not (is_young o.age);
  places = cond (is_old o.age) [] o.places;
}

abbrev pub slot_seen_young : Slot → Slot
slot_seen_young (Free g) = Free g
slot_seen_young (Occupied g o) = Occupied g (seen_young o)
slot_seen_young Retired = Retired

-- the heap as a search of this scope sees it
abbrev pub seen : Scope → Heap → Heap
seen scope.All h = h
seen scope.Young h = record h { slots = map slot_seen_young h.slots }

-- the slot has an object that isn't needed
abbrev pub is_lost : (ℕ → Bool) → ℕ → Slot → Bool
is_lost needed k s = is_occupied s && not (needed k)

-- all objects within the scope that aren't needed are freed, in the order of their slots
abbrev pub reclaiming : Scope → ℕ → Heap → Sweeping
reclaiming scope own h =
    free_some (is_lost (is_needed own (seen scope h))) 0 (length h.slots)
    (record { heap = h; freed = 0 })

-- freed objects leave the grey list
abbrev pub left_grey : Heap → List ℕ
left_grey h = filter (λ k. is_occupied (slot_at h k)) h.grey

-- the other objects become old
abbrev pub aging : Object → Object
aging o = record o { age = age.Old }

abbrev pub slot_aged : Slot → Slot
slot_aged (Free g) = Free g
slot_aged (Occupied g o) = Occupied g (aging o)
slot_aged Retired = Retired

abbrev pub aged : Heap → Heap
aged h = record h { slots = map slot_aged h.slots }

abbrev pub freed_within : Scope → ℕ → Heap → Heap
freed_within scope own h =
    record (reclaiming scope own h).heap { grey = left_grey (reclaiming scope own h).heap }

abbrev pub reclaimed : Scope → ℕ → Heap → Heap
reclaimed scope own h = aged (freed_within scope own h)

-- the slot has an object that isn't old
abbrev pub is_recent : Slot → Bool
is_recent (Free g) = false
is_recent (Occupied g o) = not (is_old o.age)
is_recent Retired = false

abbrev pub is_in_scope : Scope → Slot → Bool
is_in_scope scope.All s = is_private s
is_in_scope scope.Young s = is_recent s

-- A node that has no private object, or no recent one, has nothing to reclaim.
abbrev pub reclaim_tests : Scope → Heap → List (Bool × Refusal)
reclaim_tests scope h = (list_any (is_in_scope scope) h.slots, NothingToDo) ∷ []
