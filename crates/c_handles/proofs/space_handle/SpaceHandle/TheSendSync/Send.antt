-- A handle may go to another thread, with what it holds.
use denote.Param.Send.{IsSend}
use Rattle.c_handles.proofs.Swapping.{space, sends}
use Rattle.c_handles.proofs.Sent.{space-send}
use Rattle.c_handles.specs.contracts.space.SeatedSpace.{the_row as T}
use Rattle.c_handles.specs.contracts.space_handle.SpaceHandle.{the_row}

pub send : IsSend the_row
send = sends T space space-send
