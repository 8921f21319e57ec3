use denote.Exit.{no}
use denote.Param.Send.{arg_send, param_send, sendable}
use Rattle.cell.proofs.Sent.{shared-send, shared-sync}
use Rattle.supervisor.proofs.space.SpaceOn.start.Goals as goal

pub start-requires-send-S : goal.start-requires-send-S
start-requires-send-S g c κs within =
    param_send _ _ (arg_send _ no _ (shared-send _ _ _ _ c.type_bounds.send-D))

pub start-requires-sync-S : goal.start-requires-sync-S
start-requires-sync-S g c κs within =
    let sent = c.type_bounds.send-D in search (shared-sync, sent, sendable) depth 20
