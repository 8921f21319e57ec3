-- A new node: how its image is spelled, and that the spelling says this node. An object: how it is
-- spelled in spaces of both kinds.
use Rattle.std.proofs.Common.{◌≡◌, ℕ, Bool, List, [], ◌∷◌, ◌++◌, None, true, false, replicate, refl}
use Rattle.ids.specs.Limits.{plain_shape, wide_shape}
use Rattle.model.specs.View.{NodeView, new_view}
use Rattle.image_parts.specs.declared.layout.Layout.TheVariants as layout
use Rattle.model.specs.State.{Object, Occupied}
use Rattle.model.specs.declared.age.Age.{Age}
use Rattle.model.specs.declared.age.Age.TheVariants.{Young, Old}
use Rattle.codec.specs.Formats.{number2, number4, number8, signed8, bytes4}
use Rattle.frames.specs.Formats.{colour, token, optional}
use Rattle.frames.specs.declared.version.Version.TheVariants.{Second}
use Rattle.image_parts.specs.Grammar.{spelling, layout_format, start_format, nodes_format, head_format}
use Rattle.image_parts.specs.Grammar.{phases_format, held_format, ring_format, link_format, front_format}
use Rattle.image_parts.specs.Grammar.{told_format, slots_format, others_format, lists_format}
use Rattle.image_parts.specs.Grammar.{slot_format, parts_format, places_format, width_format}
use Rattle.image_parts.specs.Grammar.{stored_format, image_format}
use Rattle.image_parts.specs.Stored.{stored_slot}
use Rattle.image.specs.Images.{image_of, stored_by}
use Rattle.image.specs.Nodes.{node_of}

-- node 1 of two
abbrev new : NodeView
new = new_view (plain_shape 2 1 2) 1

is_said : node_of layout.Second (stored_by new) ≡ new
is_said = refl

is_spelled : image_of new
    ≡ (0x4D ∷ 0x52 ∷ 2 ∷ 2 ∷ 1 ∷ 0 ∷ 1 ∷ 0 ∷ 0 ∷ 0 ∷ 2 ∷ []) ++ replicate 87 0
unfolding spelling image_format stored_format layout_format front_format head_format start_format
    nodes_format phases_format ring_format held_format lists_format told_format slots_format
    others_format link_format number2 number4 number8 signed8 colour token optional
is_spelled = refl

-- the same of a wide space, whose objects have at most 9 places and 16 bytes
abbrev new_wide : NodeView
new_wide = new_view (wide_shape 2 1 2 9 16) 1

is_said_wide : node_of (layout.Wide 9 16) (stored_by new_wide) ≡ new_wide
is_said_wide = refl

is_spelled_wide : image_of new_wide
    ≡ (0x4D ∷ 0x52 ∷ 4 ∷ 9 ∷ 0 ∷ 0 ∷ 0 ∷ 16 ∷ 2 ∷ 1 ∷ 0 ∷ 1 ∷ 0 ∷ 0 ∷ 0 ∷ 2 ∷ [])
    ++ replicate 87 0
unfolding spelling image_format stored_format layout_format front_format head_format start_format
    nodes_format phases_format ring_format held_format lists_format told_format slots_format
    others_format link_format number2 number4 number8 signed8 colour token optional
is_spelled_wide = refl

-- an object with one place, in a slot of its first generation
abbrev object : Bool → Age → List ℕ → Object
object shared age bytes =
    record { word = 5; bytes = bytes; places = None ∷ []; mark = 3; shared = shared; age = age }

-- in a wide space its bytes follow the word, behind their number
is_object : (slot_format true Second).spell
    (stored_slot (Occupied 1 (object true Old (0xA ∷ 0xB ∷ []))))
    ≡ 1 ∷ 0 ∷ 0 ∷ 0 ∷ 0 ∷ 0 ∷ 0 ∷ 0 ∷ 1 ∷ 0 ∷ 0 ∷ 0 ∷ 0 ∷ 0 ∷ 0 ∷ 0 ∷ 3
    ∷ 0 ∷ 0 ∷ 0 ∷ 0 ∷ 0 ∷ 0 ∷ 0 ∷ 5 ∷ 0 ∷ 0 ∷ 0 ∷ 2 ∷ 0xA ∷ 0xB ∷ 1 ∷ 0 ∷ []
unfolding slot_format parts_format places_format width_format optional bytes4 number4 number8
is_object = refl

-- a private object begins with another byte
is_private_object : (slot_format true Second).spell (stored_slot (Occupied 1 (object false Old [])))
    ≡ 3 ∷ 0 ∷ 0 ∷ 0 ∷ 0 ∷ 0 ∷ 0 ∷ 0 ∷ 1 ∷ 0 ∷ 0 ∷ 0 ∷ 0 ∷ 0 ∷ 0 ∷ 0 ∷ 3
    ∷ 0 ∷ 0 ∷ 0 ∷ 0 ∷ 0 ∷ 0 ∷ 0 ∷ 5 ∷ 0 ∷ 0 ∷ 0 ∷ 0 ∷ 1 ∷ 0 ∷ []
unfolding slot_format parts_format places_format width_format optional bytes4 number4 number8
is_private_object = refl

-- so does a young one
is_young_object : (slot_format true Second).spell
    (stored_slot (Occupied 1 (object false Young [])))
    ≡ 4 ∷ 0 ∷ 0 ∷ 0 ∷ 0 ∷ 0 ∷ 0 ∷ 0 ∷ 1 ∷ 0 ∷ 0 ∷ 0 ∷ 0 ∷ 0 ∷ 0 ∷ 0 ∷ 3
    ∷ 0 ∷ 0 ∷ 0 ∷ 0 ∷ 0 ∷ 0 ∷ 0 ∷ 5 ∷ 0 ∷ 0 ∷ 0 ∷ 0 ∷ 1 ∷ 0 ∷ []
unfolding slot_format parts_format places_format width_format optional bytes4 number4 number8
is_young_object = refl

-- and in a plain one it has none
is_plain_object : (slot_format false Second).spell (stored_slot (Occupied 1 (object true Old [])))
    ≡ 1 ∷ 0 ∷ 0 ∷ 0 ∷ 0 ∷ 0 ∷ 0 ∷ 0 ∷ 1 ∷ 0 ∷ 0 ∷ 0 ∷ 0 ∷ 0 ∷ 0 ∷ 0 ∷ 3
    ∷ 0 ∷ 0 ∷ 0 ∷ 0 ∷ 0 ∷ 0 ∷ 0 ∷ 5 ∷ 1 ∷ 0 ∷ []
unfolding slot_format parts_format places_format width_format optional number8
is_plain_object = refl
