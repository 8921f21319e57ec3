-- A handle may go to another thread, with what it holds.
use denote.Param.Send.{IsSend}
use Rattle.c_handles.proofs.Swapping.{cell, sends}
use Rattle.c_handles.proofs.Sent.{seated-send}
use Rattle.c_handles.specs.contracts.seated.SeatedCell.{the_row as T}
use Rattle.c_handles.specs.contracts.cell_handle.CellHandle.{the_row}

pub send : IsSend the_row
send = sends T cell seated-send
