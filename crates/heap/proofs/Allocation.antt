-- The heap after an insertion into the arena of its objects.
use Rattle.std.proofs.Common.{◌≡◌, ◌==◌, ℕ, ◌<◌, ◌≤◌, true, false, ◌&&◌, ◌||◌, not, nat_lt, nat_le}
use Rattle.std.proofs.Common.{List, [], ◌∷◌, length, map, drop, Some, Ok, set, get_or}
use Rattle.std.proofs.Common.{refl, sym, ap, ◌∙◌, arith}
use Rattle.std.proofs.lemmas.Bool.{lt-ltb, le-leb}
use Rattle.std.proofs.lemmas.Bool.Decides.{nat_tests}
use Rattle.std.proofs.lemmas.List.{map_push, map-set, length-map}
use Rattle.std.proofs.Math.ListN.{get_or-map}
use Rattle.ids.specs.Limits.{Shaped}
use Rattle.ids.specs.declared.names.Ref.{Ref}
use Rattle.arena.specs.Arena.{Arena, plain, next_key, inserted, is_full}
use Rattle.arena_slot.specs.Slot.{generation_of}
use Rattle.arena_slot.specs.declared.Slot.{Slot}
use Rattle.arena_slot.specs.declared.Slot.TheVariants.{Free, Occupied, Retired}
use Rattle.model.specs.Checks.{AllPass}
use Rattle.model.specs.State.{Object, Heap}
use Rattle.model.specs.State as state
use Rattle.model.specs.Heaps.{has_slot, next_generation, next_slot, generation_for, slots_with}
use Rattle.model.specs.Heaps.{new_object, alloc_tests, heap_alloc}
use Rattle.model.proofs.Checks.{guarded-pass}
use Rattle.heap.specs.Heap.{slot_of}
use Rattle.heap.specs.Stored.{heap_of, view_of}
use Rattle.heap.specs.declared.heap.Heap.TheInside.{Inside}

-- the reference of the next object, at the node with this number
abbrev next_reference : ℕ → Inside → Ref
next_reference own h =
    record {
      node = own;
      slot = (next_key h.objects).slot;
      generation = (next_key h.objects).generation;
    }

-- the heap after the insertion of an object whose reference goes into the register
abbrev heap_with : Inside → Object → ℕ → Ref → Heap
heap_with h o register r =
    let registers = set h.registers.items register (Some r) in
    heap_of (inserted h.objects o) registers h.letters.items h.grey.items

either_room : (free used limit : ℕ) → (free == 0) && nat_le limit used ≡ false
    → nat_lt 0 free || nat_lt used limit ≡ true
either_room free used limit h = grind (arith, nat_tests)

-- a heap whose arena isn't full has a slot
has_slot-stored : (h : Inside) → is_full h.objects ≡ false
    → has_slot h.objects.limit (view_of h).heap ≡ true
has_slot-stored h room =
    let a : Arena Object = h.objects in
    rw length-map (either_room (length a.free) (length a.slots) a.limit room)

generation-stored : (s : Slot Object) → generation_of s ≡ next_generation (slot_of s)
generation-stored (Free g) = refl
generation-stored (Occupied g o) = refl
generation-stored Retired = refl

-- one object goes into the arena
pub record Inserts (a : Arena Object) (o : Object) : Type 0 where
  pub slots : map slot_of (inserted a o).slots ≡ slots_with a.free (map slot_of a.slots) o
  pub free : (inserted a o).free ≡ drop 1 a.free
  pub slot : (next_key a).slot ≡ next_slot a.free (map slot_of a.slots)
  pub generation : (next_key a).generation ≡ generation_for a.free (map slot_of a.slots)

pub inserts : (slots : List (Slot Object)) (free : List ℕ) (limit : ℕ) (o : Object)
    → Inserts (plain slots free limit) o
inserts slots [] limit o =
    record {
      slots = map_push slot_of slots (Occupied 1 o);
      free = refl;
      slot = sym (length-map slots slot_of);
      generation = refl;
    }
inserts slots (k ∷ ks) limit o =
    let s : Slot Object = get_or slots k Retired in
    let there : slot_of s ≡ get_or (map slot_of slots) k state.Retired =
    sym (get_or-map slot_of slots k Retired) in
    let same : generation_of s ≡ next_generation (get_or (map slot_of slots) k state.Retired) =
    generation-stored s ∙ ap next_generation there in
    record {
      slots = map-set slot_of slots k (Occupied (generation_of s) o)
          ∙ ap (λ (g : ℕ). set (map slot_of slots) k (state.Occupied g o)) same;
      free = refl;
      slot = refl;
      generation = same;
    }

-- an object with these places can be made for this register
pub record CanAlloc (h : Inside) (shape : Shaped) (register places : ℕ) : Type 0 where
  pub there : register < length h.registers.items
  pub few : places ≤ shape.places
  pub room : is_full h.objects ≡ false

-- the insertion, if there is room, has the effect of Alloc
pub heap_alloc-stored : (h : Inside) (shape : Shaped) (own cycle register places : ℕ)
    → CanAlloc h shape register places
    → heap_alloc (record shape { slots = h.objects.limit }) own cycle (view_of h).heap register
    places
    ≡ Ok (
      heap_with h (new_object (not shape.wide) cycle places) register (next_reference own h),
      next_reference own h,
    )
unfolding heap_alloc
heap_alloc-stored h shape own cycle register places can =
    let a : Arena Object = h.objects in
    let i = inserts a.slots a.free a.limit (new_object (not shape.wide) cycle places) in
    let has : has_slot a.limit (view_of h).heap ≡ true = has_slot-stored h can.room in
    let passed : AllPass (alloc_tests a.limit shape.places (view_of h).heap register places) =
    (lt-ltb _ _ can.there, (le-leb _ _ can.few, (has, tt))) in
    guarded-pass (alloc_tests a.limit shape.places (view_of h).heap register places) _ passed
    ∙ rw (i.slots, i.free, i.slot, i.generation)
