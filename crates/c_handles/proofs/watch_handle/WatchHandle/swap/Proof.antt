-- `swap` exchanges two pointers, with what they own. Assumes `Logic`.
use Rattle.c_handles.proofs.Swapping.{watch, swapped}
use Rattle.c_handles.specs.contracts.watching.SeatedWatch.{the_row as T}
use Rattle.c_handles.specs.contracts.watch_handle.WatchHandle.swap.Key.{name as #self}
use Rattle.c_handles.proofs.watch_handle.WatchHandle.swap.Statement.{statement}
use Rattle.c_handles.proofs.watch_handle.WatchHandle.swap.Code as code

pub swap_spec : {M : Type 1} → statement M
swap_spec 𝓤 𝓛 𝓜 𝓡 wired = swapped T watch 𝓤 𝓛 𝓜 𝓡 #self (code.unfolded 𝓤 𝓛.H 𝓜 𝓡 wired)
