-- What the handles hold may go to another thread.
use denote.Param.Send.{IsSend, recorded_send, sendable, struct_send}
use denote.Struct.Declared.{shape}
use denote.Struct.Struct.{Struct}
use Rattle.std.proofs.Crossing.{crosses, Arc-send}
use Rattle.ids.proofs.shape.Shape.TheSendSync as Shape
use Rattle.disk.specs.contracts.memory.MemoryDisk as MemoryDisk
use Rattle.disk.specs.contracts.memory.MemoryDiskDisk.TheImpl.{ghosts}
use Rattle.disk.proofs.Sent.{memory-send}
use Rattle.wire.proofs.seats.Watch.TheSendSync as Watch
use Rattle.wire.proofs.seats.Wire.TheSendSync as Wire
use Rattle.cell.proofs.Sent.{cell-send}
use Rattle.c_handles.proofs.gone.GoneList.TheSendSync as GoneList
use Rattle.c_handles.specs.contracts.seated.SeatedCell as SeatedCell
use Rattle.c_handles.specs.contracts.space.SeatedSpace as SeatedSpace
use Rattle.c_handles.specs.contracts.watching.SeatedWatch as SeatedWatch

pub seated-send : IsSend SeatedCell.the_row
seated-send =
    let d = SeatedCell.the_type in
    recorded_send (Struct (shape d)) d.D d.to d.to_one
    (struct_send (shape d) (
      cell-send MemoryDisk.the_row ghosts memory-send,
      (
        Arc-send _ Wire.the_send Wire.the_sync,
        (
          search sendable,
          (search sendable, (search (crosses, sendable), (GoneList.the_send, tt))),
        ),
      ),
    ))

pub watch-send : IsSend SeatedWatch.the_row
watch-send =
    let d = SeatedWatch.the_type in
    recorded_send (Struct (shape d)) d.D d.to d.to_one
    (struct_send (shape d)
    (Watch.the_field_send, (Arc-send _ Wire.the_send Wire.the_sync, tt)))

pub space-send : IsSend SeatedSpace.the_row
space-send =
    let d = SeatedSpace.the_type in
    recorded_send (Struct (shape d)) d.D d.to d.to_one
    (struct_send (shape d) (
      Shape.the_send,
      (
        search sendable,
        (
          search sendable,
          (
            search (crosses, sendable) depth 20,
            (
              search (seated-send, crosses, sendable) depth 20,
              (search (watch-send, crosses, sendable) depth 20, tt),
            ),
          ),
        ),
      ),
    ))
