use Rattle.std.specs.Prelude.{◌≡◌, IsErrOf}
use Rattle.ids.specs.declared.refusal.Refusal.TheVariants.{Closed}
use Rattle.cell.specs.Locked.{IsLocked, WasShut}
use Rattle.cell.specs.Reading.{node_bytes_len}
use Rattle.cell.proofs.Bytes.{told-or-shut}
use Rattle.cell.proofs.shared.SharedOn.bytes_len.Goals as goal

pub returns : goal.returns
returns g c =
    let held = c.deref-held.result.now in
    let cell = held.cell in
    let locked : IsLocked g.D.Disk.may_leave g.W.Naming.wire cell =
    record { sound = c.node-node.ensures.sound; name = held.named } in
    record {
      read = told-or-shut
          (λ v. c.bytes_len.result ≡ node_bytes_len v.node c.args.object)
          (IsErrOf c.bytes_len.result Closed × WasShut g.D.Disk.may_leave g.W.Naming.wire)
          cell.is_open
          (λ ready. record {
            cell = cell;
            locked = locked;
            ready = ready;
            told = c.bytes_len.ensures.read ready;
          })
          (λ shut. (
            c.bytes_len.ensures.closed shut,
            record { before = cell; locked = locked; shut = shut },
          ));
    }
