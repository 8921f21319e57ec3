-- The layouts of images.
use Rattle.std.specs.Prelude.{ℕ, ◌≡◌, ◌<◌, ◌==◌, ◌||◌, Bool, true, false, cond, List, ◌∷◌}
use Rattle.ids.specs.Limits.{Shaped}
use Rattle.ids.specs.declared.limits.TheConstants.{GREATEST_IMAGE, PLAIN_PLACES}
use Rattle.frames.specs.declared.version.Version.{Version}
use Rattle.frames.specs.declared.version.Version.TheVariants.{First, Second}
use Rattle.image_parts.specs.declared.layout.Layout.{Layout}
use Rattle.image_parts.specs.declared.layout.Layout.TheVariants as layout
use Rattle.image_parts.specs.declared.parts.Head.{Head}

-- how references and messages are spelled
abbrev pub widths : Layout → Version
widths layout.First = First
widths layout.Second = Second
widths (layout.Wide places bytes) = Second

-- the layout in which the nodes of a space are written
abbrev pub layout_for : Shaped → Layout
layout_for shape = cond shape.wide (layout.Wide shape.places shape.bytes) layout.Second

-- how many places an object has at most
abbrev pub most_places : Layout → ℕ
most_places layout.First = PLAIN_PLACES
most_places layout.Second = PLAIN_PLACES
most_places (layout.Wide places bytes) = places

-- and how many bytes
abbrev pub most_bytes : Layout → ℕ
most_bytes layout.First = 0
most_bytes layout.Second = 0
most_bytes (layout.Wide places bytes) = bytes

abbrev pub is_wide : Layout → Bool
is_wide layout.First = false
is_wide layout.Second = false
is_wide (layout.Wide places bytes) = true

-- An image of this many bytes is too long, if it is that of a node of a plain space. Images of
-- nodes of wide spaces may have any number of bytes.
abbrev pub IsTooLong : Bool → ℕ → Type 0
IsTooLong wide bytes = (wide ≡ false) × (GREATEST_IMAGE < bytes)

-- whether bytes that are an image are that of a node of a wide space, as their version says
abbrev pub says_wide : List ℕ → Bool
says_wide (a ∷ b ∷ v ∷ rest) = v == 4 || v == 5
says_wide others = false

-- the sizes and the kind of the space
abbrev pub shape_of : Layout → Head → Shaped
shape_of l h = record {
  nodes = h.nodes;
  registers = h.registers;
  slots = h.slots;
  places = most_places l;
  bytes = most_bytes l;
  wide = is_wide l;
}
