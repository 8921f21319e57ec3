-- `swap` exchanges two pointers, with what they own. Assumes `Logic`.
use Rattle.c_handles.proofs.Swapping.{node, swapped}
use Rattle.c_handles.specs.contracts.lone.LoneNode.{the_row as T}
use Rattle.c_handles.specs.contracts.nodes.NodeHandle.swap.Key.{name as #self}
use Rattle.c_handles.proofs.nodes.NodeHandle.swap.Statement.{statement}
use Rattle.c_handles.proofs.nodes.NodeHandle.swap.Code as code

pub swap_spec : {M : Type 1} → statement M
swap_spec 𝓤 𝓛 𝓜 𝓡 wired = swapped T node 𝓤 𝓛 𝓜 𝓡 #self (code.unfolded 𝓤 𝓛.H 𝓜 𝓡 wired)
