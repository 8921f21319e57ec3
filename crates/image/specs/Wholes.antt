-- The image of a node with its early messages is that of its core. The early messages are lost.
use Rattle.std.specs.Prelude.{◌≡◌, ℕ, List}
use Rattle.model.specs.View.{kept_view}
use Rattle.node.specs.Keeping.{WholeNode, alone}
use Rattle.image.specs.Images.{IsTooLarge, image_of}
use Rattle.image.specs.Nodes.{IsImageOf}

abbrev pub whole_image : WholeNode → List ℕ
whole_image n = image_of n.core

-- the node isn't saved, since its image is too long for its kind of space
abbrev pub IsWholeTooLarge : WholeNode → Type 0
IsWholeTooLarge n = IsTooLarge n.core

-- the bytes are read as the node
abbrev pub IsWholeOf : List ℕ → WholeNode → Type 0
IsWholeOf bytes n = IsImageOf bytes n.core × (n ≡ alone n.core)

-- the node that is read back after this one was saved
abbrev pub saved_whole : WholeNode → WholeNode
saved_whole n = alone (kept_view n.core)
