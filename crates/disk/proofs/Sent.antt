-- A disk in memory may go to another thread.
use denote.Param.Send.{IsSend, recorded_send, sendable, struct_send}
use denote.Struct.Declared.{shape}
use denote.Struct.Struct.{Struct}
use Rattle.std.proofs.Crossing.{crosses}
use Rattle.disk.proofs.device.Area.TheSendSync as Area
use Rattle.disk.proofs.plan.Plan.TheSendSync as Plan
use Rattle.disk.proofs.state.Contents.TheSendSync as Contents
use Rattle.disk.specs.contracts.account.Account as Account
use Rattle.disk.specs.contracts.memory.MemoryDisk as MemoryDisk
use Rattle.disk.specs.contracts.state.State as State
use Rattle.disk.specs.contracts.state.Range as Range
use Rattle.disk.specs.contracts.undo.Undo as Undo

range-send : IsSend (Range.the_field).row
range-send =
    struct_send (shape Range.the_type) (
      Area.the_field_send,
      (search sendable, (search sendable, (search (crosses, sendable), tt))),
    )

undo-send : IsSend (Undo.the_field).row
undo-send =
    struct_send (shape Undo.the_type) (
      Area.the_field_send,
      (search sendable, (search (crosses, sendable) depth 20, (search sendable, tt))),
    )

state-send : IsSend (State.the_field).row
state-send =
    struct_send (shape State.the_type) (
      Contents.the_field_send,
      (
        search (crosses, sendable) depth 20,
        (search (range-send, crosses, sendable) depth 20, tt),
      ),
    )

account-send : IsSend (Account.the_field).row
account-send =
    struct_send (shape Account.the_type) (
      search (crosses, sendable),
      (state-send, (search (crosses, sendable), (search sendable, tt))),
    )

pub memory-send : IsSend MemoryDisk.the_row
memory-send =
    let d = MemoryDisk.the_type in
    recorded_send (Struct (shape d)) d.D d.to d.to_one
    (struct_send (shape d) (
      account-send,
      (search (undo-send, crosses, sendable) depth 20, (Plan.the_field_send, tt)),
    ))
