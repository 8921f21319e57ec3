-- A handle may go to another thread, with what it holds.
use denote.Param.Send.{IsSend}
use Rattle.c_handles.proofs.Swapping.{node, sends}
use Rattle.c_handles.proofs.lone.LoneNode.TheSendSync.{the_send}
use Rattle.c_handles.specs.contracts.lone.LoneNode.{the_row as T}
use Rattle.c_handles.specs.contracts.nodes.NodeHandle.{the_row}

pub send : IsSend the_row
send = sends T node the_send
