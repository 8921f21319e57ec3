-- Nodes as values that a journal keeps.
use Rattle.std.specs.Prelude.{◌≡◌, ℕ, Bool, true, false, List}
use Rattle.model.specs.View.{NodeView}
use Rattle.node.specs.Keeping.{WholeNode, alone}
use Rattle.image.specs.Images.{image_of}
use Rattle.image.specs.Logged.{logged_image}
use Rattle.node_store.specs.Logs.{Leads}

-- the bytes of the node's image, if a log is to follow it, and if none is
abbrev pub image_by : Bool → NodeView → List ℕ
image_by true n = logged_image n
image_by false n = image_of n

abbrev pub whole_image_by : Bool → WholeNode → List ℕ
whole_image_by logged n = image_by logged n.core

-- the node keeps no early message
abbrev pub IsAlone : WholeNode → Type 0
IsAlone n = n ≡ alone n.core

abbrev pub LeadsWhole : List ℕ → WholeNode → WholeNode → Type 0
LeadsWhole batch first last = Leads batch first.core last.core × IsAlone last
