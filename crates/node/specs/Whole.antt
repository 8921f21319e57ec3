-- How a node's fields are seen as a node together with what it keeps.
use Rattle.node.specs.declared.node.Node.TheInside.{Inside}
use Rattle.node.specs.Keeping.{WholeNode, AreKeptIn}

abbrev pub whole_of : Inside → WholeNode
whole_of n = record { core = n.core; early = n.early.items }

abbrev pub IsWhole : Inside → Type 0
IsWhole n = AreKeptIn (whole_of n)
