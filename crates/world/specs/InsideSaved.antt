-- How the bytes of an image show the node that was saved.
use Rattle.model.specs.View.{NodeView}
use Rattle.image.specs.Nodes.{IsImageOf}
use Rattle.world.specs.declared.saved.SavedNode.TheInside.{Inside}

abbrev pub view_of : Inside → NodeView
view_of s = s.says.value

abbrev pub IsSpelled : Inside → Type 0
IsSpelled s = IsImageOf s.image.items s.says.value
