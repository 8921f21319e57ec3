-- A search for the objects of a node that are needed ("Reclaiming" in docs/RULES.md): what is true
-- of it between its steps. It finds what is shared, and what the roots name, and then it follows
-- the places of what it found.
use Rattle.std.specs.Prelude.{◌≡◌, ◌⊎◌, ℕ, suc, ◌+◌, ◌<◌, ◌≤◌, Bool, true, false, cond, not, ◌==◌, ◌&&◌, List, [], ◌∷◌, ◌++◌, length, map, take, drop, replicate, Option, is_some, slice_index_or, slice_set}
use Rattle.ids.specs.declared.names.Ref.{Ref}
use Rattle.model.specs.declared.age.Scope.{Scope}
use Rattle.model.specs.declared.age.Scope.TheVariants as scope
use Rattle.model.specs.State.{Slot, Free, Occupied, Retired, Heap, slot_at}
use Rattle.model.specs.Heaps.{is_old, object_at}
use Rattle.model.specs.Shading.{roots}
use Rattle.model.specs.Collecting.{places_in}
use Rattle.model.specs.Reclaiming.{is_occupied, is_shared, is_named, is_needed, seen_young, is_recent, slot_aged}
use Rattle.model.specs.Cuts.{Among}

-- The heap as a search goes through it. A search for young garbage passes over old objects: they
-- are needed, and what they hold isn't followed.
abbrev pub slot_sought_young : Slot → Slot
slot_sought_young (Free g) = Free g
slot_sought_young (Occupied g o) = cond (is_old o.age) (Free g) (Occupied g (seen_young o))
slot_sought_young Retired = Retired

abbrev pub sought : Scope → Heap → Heap
sought scope.All h = h
sought scope.Young h = record h { slots = map slot_sought_young h.slots }

-- the slot has an object that a search of this scope goes through
abbrev pub is_sought : Scope → Slot → Bool
is_sought scope.All s = is_occupied s
is_sought scope.Young s = is_recent s

-- and it wasn't found
abbrev pub is_missed : Scope → (ℕ → Bool) → ℕ → Slot → Bool
is_missed scope found k s = is_sought scope s && not (found k)

-- The objects of this slot and of all later ones become old.
abbrev pub aged_from : ℕ → Heap → Heap
aged_from k h = record h { slots = take k h.slots ++ map slot_aged (drop k h.slots) }

-- no slot from this one on, of this many, has an object that isn't old
abbrev pub AreOld : Heap → ℕ → ℕ → Type 0
AreOld h k n = (j : ℕ) → k ≤ j → j < k + n → is_recent (slot_at h j) ≡ false

-- for each slot, whether it was found; and the found ones whose places are still to be followed
pub record Search : Type 0 where
  pub found : List Bool
  pub left : List ℕ

abbrev pub is_found : Search → ℕ → Bool
is_found s k = slice_index_or s.found k false

-- a search through this many slots that has found nothing
abbrev pub new_search : ℕ → Search
new_search slots = record { found = replicate slots false; left = [] }

-- a slot is found
abbrev pub noted : Search → ℕ → Search
noted s k = record { found = slice_set s.found k true; left = s.left ++ k ∷ [] }

-- this reference names an object of the node that wasn't found
abbrev pub is_new : ℕ → Heap → Search → Ref → Bool
is_new own h s r = (r.node == own) && (not (is_found s r.slot) && is_some (object_at h r))

-- how many slots weren't found
abbrev pub unfound : List Bool → ℕ
unfound [] = 0
unfound (true ∷ bs) = unfound bs
unfound (false ∷ bs) = suc (unfound bs)

-- how many slots are still to be followed, at most
abbrev pub work_of : Search → ℕ
work_of s = unfound s.found + length s.left

-- these references name the object in the slot
pub record IsNamed (own : ℕ) (h : Heap) (os : List (Option Ref)) (k : ℕ) : Type 0 where
  pub there : is_occupied (slot_at h k) ≡ true
  pub named : is_named own h k os ≡ true

-- The search went on from one state to another: it found what these references name and no more,
-- and what it found is still to be followed.
pub record Finds (own : ℕ) (h : Heap) (os : List (Option Ref)) (before after : Search) : Type 0
  where
    pub width : length after.found ≡ length before.found
    pub keeps : (k : ℕ) → is_found before k ≡ true → is_found after k ≡ true
    pub waits : (k : ℕ) → Among k before.left → Among k after.left
    pub all : (k : ℕ) → IsNamed own h os k → is_found after k ≡ true
    pub new : (k : ℕ) → is_found after k ≡ true
        → (is_found before k ≡ true) ⊎ (IsNamed own h os k × Among k after.left)
    pub left : (k : ℕ) → Among k after.left
        → Among k before.left ⊎ (is_found after k ≡ true)
    pub work : work_of after ≡ work_of before

-- It has found those of the first slots that have a shared object, and follows all of them.
pub record Begins (h : Heap) (slots : ℕ) (s : Search) : Type 0 where
  pub width : length s.found ≡ length h.slots
  pub all : (k : ℕ) → k < slots → is_shared (slot_at h k) ≡ true → is_found s k ≡ true
  pub shared : (k : ℕ) → is_found s k ≡ true → is_shared (slot_at h k) ≡ true
  pub waits : (k : ℕ) → is_found s k ≡ true → Among k s.left
  pub found : (k : ℕ) → Among k s.left → is_found s k ≡ true

-- What it found is needed. What the places of a found object name is found, unless that object is
-- still to be followed.
pub record IsSearch (own : ℕ) (h : Heap) (s : Search) : Type 0 where
  pub width : length s.found ≡ length h.slots
  pub needed : (k : ℕ) → is_found s k ≡ true → is_needed own h k ≡ true
  pub found : (k : ℕ) → Among k s.left → is_found s k ≡ true
  pub followed : (j : ℕ) → is_found s j ≡ true
      → Among j s.left
      ⊎ ((k : ℕ) → IsNamed own h (places_in (slot_at h j)) k → is_found s k ≡ true)

-- It has found all that is shared, and all that the roots name.
pub record Rooted (own : ℕ) (h : Heap) (s : Search) : Type 0 where
  pub search : IsSearch own h s
  pub shared : (k : ℕ) → is_shared (slot_at h k) ≡ true → is_found s k ≡ true
  pub rooted : (k : ℕ) → IsNamed own h (roots h) k → is_found s k ≡ true

-- The list says of each object whether it is needed.
abbrev pub Tells : ℕ → Heap → List Bool → Type 0
Tells own h found =
    (k : ℕ) → is_occupied (slot_at h k) ≡ true
    → slice_index_or found k false ≡ is_needed own h k
