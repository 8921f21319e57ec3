-- The heap of given parts, and the arena of its objects.
use Rattle.std.proofs.Common.{◌≡◌, ℕ, ◌<◌, ◌≤◌, List, map, get_or, Some, subst, arith}
use Rattle.std.proofs.lemmas.List.{length-map}
use Rattle.std.proofs.Math.ListN.{get_or-map}
use Rattle.ids.specs.Limits.{Shaped}
use Rattle.ids.specs.declared.names.Ref.{Ref}
use Rattle.ids.specs.declared.limits.TheConstants.{GREATEST_SLOTS}
use Rattle.arena.specs.Arena.{plain, IsSound}
use Rattle.arena_slot.specs.Slot as entries
use Rattle.arena_slot.specs.declared.Slot as stored
use Rattle.arena_slot.specs.declared.Slot.TheVariants.{Free, Occupied, Retired}
use Rattle.model.specs.State.{Object, Slot, Heap, slot_at}
use Rattle.model.specs.State as state
use Rattle.model.specs.Heaps.{object_at}
use Rattle.model.proofs.Slots.{found-object, occupied-within}
use Rattle.heap.specs.Heap.{IsFree, IsBorn, IsSlotted, IsHeapFor, slot_of}

slot_seen : (ss : List (stored.Slot Object)) (i : ℕ)
    → get_or (map slot_of ss) i state.Retired ≡ slot_of (get_or ss i Retired)
slot_seen ss i = get_or-map slot_of ss i Retired

free_seen : (s : stored.Slot Object) → entries.IsFree s → IsFree (slot_of s)
free_seen (Free g) free = tt
free_seen (Occupied g o) free = absurd free
free_seen Retired free = absurd free

free_stored : (s : stored.Slot Object) → IsFree (slot_of s) → entries.IsFree s
free_stored (Free g) free = tt
free_stored (Occupied g o) free = absurd free
free_stored Retired free = absurd free

born_seen : (s : stored.Slot Object) → entries.IsBorn s → IsBorn (slot_of s)
born_seen (Free g) born = born
born_seen (Occupied g o) born = born
born_seen Retired born = tt

born_stored : (s : stored.Slot Object) → IsBorn (slot_of s) → entries.IsBorn s
born_stored (Free g) born = born
born_stored (Occupied g o) born = born
born_stored Retired born = tt

-- a heap whose slots are these
pub record Shows (h : Heap) (ss : List (stored.Slot Object)) (ks : List ℕ) : Type 0 where
  pub slots : h.slots ≡ map slot_of ss
  pub free : h.free ≡ ks

slot_shown : {h : Heap} {ss : List (stored.Slot Object)} {ks : List ℕ} → Shows h ss ks → (i : ℕ)
    → slot_at h i ≡ slot_of (get_or ss i Retired)
slot_shown {h} {ss} shows i = rw (shows.slots) (slot_seen ss i)

-- what holds of an arena holds of the heap whose objects it has
pub slotted : {h : Heap} {ss : List (stored.Slot Object)} {ks : List ℕ} {limit : ℕ}
    → Shows h ss ks → IsSound (plain ss ks limit) → IsSlotted h limit
slotted {h} {ss} {ks} {limit} shows sound =
    record {
      within = rw (shows.slots, length-map) sound.within;
      named = λ i has.
          rw (slot_shown shows i)
          (free_seen (get_or ss i Retired) (sound.named i (rw shows.free at has)));
      listed = λ i free.
          rw shows.free
          (sound.listed i (free_stored (get_or ss i Retired) (rw (slot_shown shows i) at free)));
      once = rw shows.free sound.once;
    }

pub born : {h : Heap} {ss : List (stored.Slot Object)} {ks : List ℕ} {limit : ℕ} → Shows h ss ks
    → IsSound (plain ss ks limit) → (i : ℕ) → IsBorn (slot_at h i)
born {ss = ss} shows sound i =
    rw (slot_shown shows i) (born_seen (get_or ss i Retired) (sound.born i))

-- a reference that names an object there is within the limits
pub within-limits : {h : Heap} {ss : List (stored.Slot Object)} {ks : List ℕ} {limit : ℕ}
    → Shows h ss ks → IsSound (plain ss ks limit) → (r : Ref) (o : Object)
    → object_at h r ≡ Some o → (r.slot < limit) × (1 ≤ r.generation)
within-limits {h} shows sound r o found =
    let there = found-object h r o found in
    let used = occupied-within h.slots r.slot r.generation o there in (
      omega (arith, used, (slotted shows sound).within),
      subst IsBorn there (born shows sound r.slot),
    )

-- and conversely
pub sound_from : {h : Heap} {ss : List (stored.Slot Object)} {ks : List ℕ} {shape : Shaped}
    → Shows h ss ks → shape.slots ≤ GREATEST_SLOTS → IsHeapFor shape h
    → IsSound (plain ss ks shape.slots)
sound_from {h} {ss} {ks} {shape} shows small is =
    record {
      small = omega arith;
      within = rw (shows.slots, length-map) at is.slots.within;
      born = λ i.
          born_stored (get_or ss i Retired) (rw (slot_shown shows i) at (is.born i));
      named = λ i has.
          free_stored (get_or ss i Retired)
          (rw (slot_shown shows i) at (is.slots.named i (rw (shows.free) has)));
      listed = λ i free.
          rw shows.free at
          (is.slots.listed i (rw (slot_shown shows i) (free_seen (get_or ss i Retired) free)));
      once = rw shows.free at is.slots.once;
    }
