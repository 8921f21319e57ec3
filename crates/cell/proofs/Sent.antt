-- A shared cell may be sent to, and shared with, other threads if its disk may be sent.
use denote.RattleType.{RattleType}
use denote.Struct.Declared.{shape}
use denote.Struct.Struct.{Struct}
use denote.Param.Send.{IsSend, IsSync, recorded_send, recorded_sync, struct_send, struct_sync, sendable, view_send}
use Rattle.std.proofs.Crossing.{crosses, Arc-send}
use Rattle.ids.proofs.names.Cycle.TheSendSync as Cycle
use Rattle.node_store.proofs.logged.LoggedNode.TheSendSync as LoggedNode
use Rattle.node_store.proofs.store.Store.TheSendSync as Store
use Rattle.cell.proofs.trace.Trace.TheSendSync as Trace
use Rattle.wire.proofs.seats.NodeSeat.TheSendSync as Seat
use Rattle.wire.proofs.seats.Wire.TheSendSync as Wire
use Rattle.disk.specs.declared.device.Disk as disk
use Rattle.cell.specs.declared.shared.Naming as naming
use Rattle.cell.specs.contracts.desk.Desk as Desk
use Rattle.cell.specs.contracts.desk.Desk.TheInside as DeskInside
use Rattle.cell.specs.contracts.cell.Cell as Cell
use Rattle.cell.specs.contracts.cell.Cell.TheInside as Inside
use Rattle.cell.specs.contracts.shared.Held as Held
use Rattle.cell.specs.contracts.shared.SharedOn as SharedOn

desk-send : IsSend (Desk.the_field).row
desk-send =
    let inside = DeskInside.the_type in
    view_send _ _ _ _ _
    (recorded_send (Struct (shape inside)) inside.D inside.to inside.to_one
    (struct_send (shape inside) (
      search sendable,
      (
        search sendable,
        (
          LoggedNode.the_field_send,
          (
            search (crosses, sendable),
            (
              Cycle.the_field_send,
              (
                Seat.the_field_send,
                (search sendable, (search sendable, tt)),
              ),
            ),
          ),
        ),
      ),
    )))

module _ (D : RattleType) (g : disk.Ghosts D.Denot) where
  pub cell-send : IsSend D → IsSend (Cell.the_field D g).row
  cell-send s =
      let inside = Inside.the_type D g in
      view_send _ _ _ _ _
      (recorded_send (Struct (shape inside)) inside.D inside.to inside.to_one
      (struct_send (shape inside) (
        search sendable,
        (
          desk-send,
          (Store.the_field_send D g s, (Trace.the_send, (search (crosses, sendable), tt))),
        ),
      )))

  module _ (W : RattleType) (w : naming.Ghosts W.Denot) where
    held-send : IsSend D → IsSend (Held.the_row D W g w)
    held-send s =
        let held = Held.the_type D W g w in
        recorded_send (Struct (shape held)) held.D held.to held.to_one
        (struct_send (shape held)
        (cell-send s, (Arc-send _ Wire.the_send Wire.the_sync, (search sendable, tt))))

    pub shared-send : IsSend D → IsSend (SharedOn.the_row D W g w)
    shared-send s =
        let lock = SharedOn.the_type D W g w in
        let sent = held-send s in
        recorded_send (Struct (shape lock)) lock.D lock.to lock.to_one
        (struct_send (shape lock)
        (search (sent, crosses), (search (crosses, sendable), tt)))

    pub shared-sync : IsSend D → IsSync (SharedOn.the_row D W g w)
    shared-sync s =
        let lock = SharedOn.the_type D W g w in
        let sent = held-send s in
        recorded_sync (Struct (shape lock)) lock.D lock.to lock.to_one
        (struct_sync (shape lock)
        (search (sent, crosses), (search (crosses, sendable), tt)))
