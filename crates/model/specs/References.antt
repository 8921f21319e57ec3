-- The places in which a node holds references, and what it means that all of these references have
-- some property ("Well-formed nodes" in docs/RULES.md).
use Rattle.std.specs.Prelude.{◌≡◌, ℕ, ◌+◌, ◌<◌, ◌≤◌, true, length, Option, Some, None, slice_index_or}
use Rattle.std.specs.List.{AllByRecursion}
use Rattle.ids.specs.Limits.{Shaped}
use Rattle.ids.specs.declared.names.Ref.{Ref}
use Rattle.ids.specs.declared.limits.TheConstants.{GREATEST_CYCLE, GREATEST_LETTER, WORD_BYTES}
use Rattle.msg.specs.declared.body.Body.{Body}
use Rattle.msg.specs.declared.body.Body.TheVariants as body
use Rattle.msg.specs.declared.body.Message.{Message}
use Rattle.model.specs.State.{Object, Occupied, Heap, register_at, slot_at}
use Rattle.model.specs.Heaps.{no_letter}
use Rattle.model.specs.Steps.{mentioned}

-- the reference, if there is one, has the property
abbrev pub IfAny : (P : Ref → Type 0) → Option Ref → Type 0
IfAny P None = Unit {0}
IfAny P (Some r) = P r

-- every reference that the heap holds has the property
pub record HoldsOnly (P : Ref → Type 0) (h : Heap) : Type 0 where
  pub registers : (k : ℕ) → IfAny P (register_at h k)
  pub letters : (k : ℕ) → IfAny P (slice_index_or h.letters k no_letter).reference
  pub places : (k g : ℕ) (o : Object) (j : ℕ) → slot_at h k ≡ Occupied g o
      → IfAny P (slice_index_or o.places j None)

-- a reference that the shape has room for
pub record IsWithin (shape : Shaped) (r : Ref) : Type 0 where
  pub node : r.node < shape.nodes
  pub slot : r.slot < shape.slots
  pub generation : 1 ≤ r.generation

-- what a look-up past the end of a list of messages gives
abbrev pub no_message : Message
no_message = record { stamp = 0; body = body.Give 0 None }

-- If the message names a place, an object of the space can have such a place. If it is a letter, or
-- asks for one, the space has letters of that size.
abbrev pub IsPlaced : Shaped → Body → Type 0
IsPlaced shape (body.Put target place reference) = place < shape.places
IsPlaced shape (body.Get target place label) = place < shape.places
IsPlaced shape (body.Post label references bytes) =
    (shape.wide ≡ true) × (length references ≤ shape.places) × (length bytes ≤ GREATEST_LETTER)
IsPlaced shape (body.Fetch target label offset count) =
    (shape.wide ≡ true) × (WORD_BYTES + count ≤ GREATEST_LETTER)
IsPlaced shape b = Unit {0}

-- a message whose stamp is a valid cycle, whose references the shape has room for, and whose place
-- an object can have, or whose references and bytes a letter can have
pub record IsSendable (shape : Shaped) (x : Message) : Type 0 where
  pub stamp : x.stamp ≤ GREATEST_CYCLE
  pub references : AllByRecursion (IsWithin shape) (mentioned x.body)
  pub place : IsPlaced shape x.body
