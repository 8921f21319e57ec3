-- A handle may go to another thread, with what it holds.
use denote.Param.Send.{IsSend}
use Rattle.c_handles.proofs.Swapping.{watch, sends}
use Rattle.c_handles.proofs.Sent.{watch-send}
use Rattle.c_handles.specs.contracts.watching.SeatedWatch.{the_row as T}
use Rattle.c_handles.specs.contracts.watch_handle.WatchHandle.{the_row}

pub send : IsSend the_row
send = sends T watch watch-send
