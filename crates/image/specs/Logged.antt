-- The images of nodes behind which a log of events follows.
use Rattle.std.specs.Prelude.{◌≡◌, ℕ, List, Bool, true, false}
use Rattle.model.specs.View.{NodeView}
use Rattle.node.specs.Keeping.{WholeNode, alone}
use Rattle.image_parts.specs.Logs.{begins_logged, logged, unlogged}
use Rattle.image.specs.Images.{image_of}
use Rattle.image.specs.Nodes.{IsImageOf}

-- the bytes of the node's image, if a log follows it
abbrev pub logged_image : NodeView → List ℕ
logged_image n = logged (image_of n)

-- the bytes say that a log follows, and without that they are an image of the node
pub record IsLoggedOf (bytes : List ℕ) (n : NodeView) : Type 0 where
  pub begins : begins_logged bytes ≡ true
  pub plain : IsImageOf (unlogged bytes) n

abbrev pub IsEither : Bool → List ℕ → NodeView → Type 0
IsEither true bytes n = IsLoggedOf bytes n
IsEither false bytes n = IsImageOf bytes n

-- the bytes are an image of the node, whether a log follows it or not
abbrev pub IsAnyImageOf : List ℕ → NodeView → Type 0
IsAnyImageOf bytes n = IsEither (begins_logged bytes) bytes n

-- the bytes are read as the node, which keeps no early message
abbrev pub IsAnyWholeOf : List ℕ → WholeNode → Type 0
IsAnyWholeOf bytes n = IsAnyImageOf bytes n.core × (n ≡ alone n.core)
