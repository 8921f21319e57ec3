-- The view of a `Heap` that contracts use.
use Rattle.std.specs.List.{list_all}
use Rattle.std.specs.Prelude.{◌≡◌, ℕ, ◌+◌, ◌≤◌, ◌==◌, Bool, true, false, List, [], ◌∷◌, length, Option, Result, slice_index_or, slice_set, ⊤}
pub use Rattle.arena.specs.Arena.{Has, Once}
use Rattle.arena_slot.specs.declared.Slot as stored
use Rattle.arena_slot.specs.declared.Slot.TheVariants as variant
use Rattle.ids.specs.Limits.{Shaped}
use Rattle.ids.specs.declared.names.Ref.{Ref}
use Rattle.ids.specs.declared.refusal.Refusal.{Refusal}
use Rattle.model.specs.declared.age.Scope.{Scope}
use Rattle.model.specs.State.{Object, Slot, Free, Occupied, Retired, Heap, slot_at}
use Rattle.model.specs.Collecting.{Sweeping, free_some, places_in, sweep_some}
use Rattle.model.specs.Shading.{filled, is_calm, last_grey, make_all_grey, without_last_grey}
use Rattle.model.specs.Checks.{guarded}
use Rattle.model.specs.Reclaiming.{slot_aged, reclaim_tests, reclaiming, reclaimed}
use Rattle.model.specs.Searching.{is_missed}

-- the heap as plain data, how many slots there may be, and how much can be added without allocating
pub record HeapView : Type 0 where
  pub heap : Heap
  pub limit : ℕ
  -- this many objects may turn grey
  pub room : ℕ
  -- this many letters may arrive
  pub letter_room : ℕ

-- this heap and this limit, whatever room there is
pub record Holds (v : HeapView) (h : Heap) (slots : ℕ) : Type 0 where
  pub heap : v.heap ≡ h
  pub limit : v.limit ≡ slots

-- there is room for this many more grey objects and letters
pub record HasRoom (v : HeapView) (greys letters : ℕ) : Type 0 where
  pub room : greys ≤ v.room
  pub letter_room : letters ≤ v.letter_room

-- there is no less room than before
pub record KeepsRoom (before after : HeapView) : Type 0 where
  pub room : before.room ≤ after.room
  pub letter_room : before.letter_room ≤ after.letter_room

-- the heap is now `h`, and at most `most` objects turned grey for it
pub record Became (before after : HeapView) (h : Heap) (most : ℕ) : Type 0 where
  pub heap : after.heap ≡ h
  pub limit : after.limit ≡ before.limit
  pub room : before.room ≤ after.room + most
  pub letter_room : after.letter_room ≡ before.letter_room

-- what the places of the object hold that is scanned next
abbrev pub next_held : Heap → List (Option Ref)
next_held h = places_in (slot_at h (last_grey h))

abbrev pub are_own : ℕ → List Ref → Bool
are_own own rs = list_all (λ r. r.node == own) rs

-- An object is to be scanned. It has at most two places, which name only objects of this node, and
-- there is room for two that turn grey.
pub record IsSimple (own : ℕ) (v : HeapView) : Type 0 where
  pub grey : is_calm v.heap ≡ false
  pub few : length (next_held v.heap) ≤ 2
  pub named : are_own own (filled (next_held v.heap)) ≡ true
  pub room : 2 ≤ v.room

-- the heap after it was scanned
abbrev pub scanned_own : ℕ → ℕ → Heap → Heap
scanned_own own cycle h =
    make_all_grey own cycle (without_last_grey h) (filled (next_held h))

-- as how many a letter with these references waits
abbrev pub entries : List (Option Ref) → ℕ
entries [] = 1
entries (r ∷ rs) = length rs + 1

abbrev pub IsFree : Slot → Type 0
IsFree (Free g) = ⊤
IsFree (Occupied g o) = ⊥
IsFree Retired = ⊥

-- what holds of every heap with this limit
pub record IsSlotted (h : Heap) (limit : ℕ) : Type 0 where
  pub within : length h.slots ≤ limit
  -- the list names exactly the free slots, each once
  pub named : (i : ℕ) → Has h.free i → IsFree (slot_at h i)
  pub listed : (i : ℕ) → IsFree (slot_at h i) → Has h.free i
  pub once : Once h.free

abbrev pub IsBorn : Slot → Type 0
IsBorn (Free g) = 1 ≤ g
IsBorn (Occupied g o) = 1 ≤ g
IsBorn Retired = ⊤

-- what holds of the heap of a node of this shape
pub record IsHeapFor (shape : Shaped) (h : Heap) : Type 0 where
  pub registers : length h.registers ≡ shape.registers
  pub slots : IsSlotted h shape.slots
  -- a slot's first generation is 1
  pub born : (i : ℕ) → IsBorn (slot_at h i)

-- a slot of the arena of objects
abbrev pub slot_of : stored.Slot Object → Slot
slot_of (variant.Free g) = Free g
slot_of (variant.Occupied g o) = Occupied g o
slot_of variant.Retired = Retired

-- a heap after `count` slots are swept, from slot `cursor` on, and how many objects that frees
abbrev pub swept : ℕ → ℕ → ℕ → Heap → Sweeping
swept cycle cursor count h = sweep_some cycle cursor count (record { heap = h; freed = 0 })

-- a heap after all objects within the scope are freed but those that the list says are needed, and
-- how many that frees
abbrev pub freed_unless : Scope → List Bool → Heap → Sweeping
freed_unless scope needed h =
    free_some (is_missed scope (λ k. slice_index_or needed k false)) 0 (length h.slots)
    (record { heap = h; freed = 0 })

-- the heap after the object in a slot, if there is one, becomes old
abbrev pub aged_at : Heap → ℕ → Heap
aged_at h k = record h { slots = slice_set h.slots k (slot_aged (slot_at h k)) }

-- the event that reclaims: the heap and how many objects it frees, or the refusal
abbrev pub heap_reclaim : Scope → ℕ → Heap → Result (Heap × ℕ) Refusal
heap_reclaim scope own h =
    guarded (reclaim_tests scope h) (reclaimed scope own h, (reclaiming scope own h).freed)
