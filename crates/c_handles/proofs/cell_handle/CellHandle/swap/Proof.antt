-- `swap` exchanges two pointers, with what they own. Assumes `Logic`.
use Rattle.c_handles.proofs.Swapping.{cell, swapped}
use Rattle.c_handles.specs.contracts.seated.SeatedCell.{the_row as T}
use Rattle.c_handles.specs.contracts.cell_handle.CellHandle.swap.Key.{name as #self}
use Rattle.c_handles.proofs.cell_handle.CellHandle.swap.Statement.{statement}
use Rattle.c_handles.proofs.cell_handle.CellHandle.swap.Code as code

pub swap_spec : {M : Type 1} → statement M
swap_spec 𝓤 𝓛 𝓜 𝓡 wired = swapped T cell 𝓤 𝓛 𝓜 𝓡 #self (code.unfolded 𝓤 𝓛.H 𝓜 𝓡 wired)
