-- What is true of the parts of every node: of its heap, of what it asked for, of its token, of its
-- reports, and of its link to itself ("Well-formed nodes" in docs/RULES.md). The references that it
-- holds are treated in `References`.
use Rattle.std.specs.Prelude.{◌≡◌, ◌≢◌, ℕ, true, false, eqb, ◌<◌, ◌≤◌, List, [], ◌∷◌, length, Option, Some, None, slice_index_or}
use Rattle.std.specs.List.{AllByRecursion, IsDistinct}
use Rattle.ids.specs.Limits.{Shaped}
use Rattle.ids.specs.declared.names.Ref.{Ref}
use Rattle.msg.specs.declared.body.Token.{Token}
use Rattle.model.specs.declared.age.Age.TheVariants.{Old}
use Rattle.model.specs.declared.event.Letter.{Letter}
use Rattle.model.specs.State.{Object, Slot, Free, Occupied, Retired, Heap, slot_at}
use Rattle.model.specs.Shading.{is_same}
use Rattle.model.specs.References.{IsWithin, no_message}
use Rattle.model.specs.View.{Link, no_link}

-- another node of the shape
abbrev pub IsOther : Shaped → ℕ → ℕ → Type 0
IsOther shape own i = (i < shape.nodes) × (i ≢ own)

-- An object of this generation, with no more places and bytes than the space allows, at a node in
-- this cycle. In a plain space all objects are shared and old.
pub record IsObject (shape : Shaped) (cycle generation : ℕ) (o : Object) : Type 0 where
  pub born : 1 ≤ generation
  pub places : length o.places ≤ shape.places
  pub bytes : length o.bytes ≤ shape.bytes
  pub mark : o.mark ≤ cycle
  pub shared : shape.wide ≡ false → o.shared ≡ true
  pub age : shape.wide ≡ false → o.age ≡ Old

-- A slot becomes free when its first object is freed, so its next object has at least generation 2.
abbrev pub IsSlotOf : Shaped → ℕ → Slot → Type 0
IsSlotOf shape cycle (Free g) = 2 ≤ g
IsSlotOf shape cycle (Occupied g o) = IsObject shape cycle g o
IsSlotOf shape cycle Retired = Unit {0}

-- the slot has an object that this cycle marked
abbrev pub HasMarked : ℕ → Slot → Type 0
HasMarked cycle (Free g) = ⊥
HasMarked cycle (Occupied g o) = o.mark ≡ cycle
HasMarked cycle Retired = ⊥

-- a letter behind which this many letters wait; in a plain space it has at most one reference, and
-- no bytes
abbrev pub IsFollowed : Shaped → ℕ → Letter → Type 0
IsFollowed shape n l = (l.more ≤ n) × (shape.wide ≡ false → (l.more ≡ 0) × (l.bytes ≡ []))

-- the letters that wait: each is another node's, and as many follow as it says
abbrev pub AreLetters : Shaped → ℕ → List Letter → Type 0
AreLetters shape own [] = Unit {0}
AreLetters shape own (l ∷ ls) =
    IsOther shape own l.from × IsFollowed shape (length ls) l × AreLetters shape own ls

-- The heap of a node: its registers, its letters, its slots, and its grey objects. Once marking has
-- ended there are no grey objects.
pub record IsStocked (shape : Shaped) (own cycle ended : ℕ) (h : Heap) : Type 0 where
  pub registers : length h.registers ≡ shape.registers
  pub letters : AreLetters shape own h.letters
  pub slots : (k : ℕ) → IsSlotOf shape cycle (slot_at h k)
  pub grey : AllByRecursion (λ (k : ℕ). HasMarked cycle (slot_at h k)) h.grey
  pub once : IsDistinct eqb h.grey
  pub calm : ended ≡ cycle → h.grey ≡ []

-- a node asks only for other nodes' objects, with each reference once
pub record AreAsked (shape : Shaped) (own : ℕ) (asked : List Ref) : Type 0 where
  pub within : AllByRecursion (IsWithin shape) asked
  pub others : AllByRecursion (λ (r : Ref). r.node ≢ own) asked
  pub once : IsDistinct is_same asked

-- the token is held only while marking goes on
abbrev pub IsHeld : ℕ → ℕ → Option Token → Type 0
IsHeld cycle ended None = Unit {0}
IsHeld cycle ended (Some token) = ended < cycle

-- only node 0 has reports, and none of its own sweeps
pub record AreReports (own : ℕ) (reports : List ℕ) : Type 0 where
  pub first : slice_index_or reports 0 0 ≡ 0
  pub others : own ≢ 0 → (i : ℕ) → slice_index_or reports i 0 ≡ 0

-- A node sends nothing to itself and receives nothing from itself. No message that it keeps is of a
-- later cycle.
pub record AreTimely (own cycle : ℕ) (links : List Link) (got : List ℕ) : Type 0 where
  pub unused : slice_index_or links own no_link ≡ no_link
  pub unheard : slice_index_or got own 0 ≡ 0
  pub stamps : (i k : ℕ)
      → (slice_index_or (slice_index_or links i no_link).unacknowledged k no_message).stamp ≤ cycle
