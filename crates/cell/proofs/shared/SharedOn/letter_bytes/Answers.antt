use Rattle.std.proofs.Common.{length}
use Rattle.std.specs.Prelude.{◌≡◌, IsErrOf}
use Rattle.ids.specs.declared.refusal.Refusal.TheVariants.{Closed}
use Rattle.cell.specs.Locked.{IsLocked, WasShut}
use Rattle.cell.specs.Reading.{Fills, node_letter_part}
use Rattle.cell.proofs.Bytes.{told-or-shut}
use Rattle.cell.proofs.shared.SharedOn.letter_bytes.Goals as goal

pub returns : goal.returns
returns g c =
    let held = c.deref-held.result.now in
    let cell = held.cell in
    let old = c.args.buffer.now in
    let locked : IsLocked g.D.Disk.may_leave g.W.Naming.wire cell =
    record { sound = c.node-node.ensures.sound; name = held.named } in
    record {
      read = told-or-shut
          (λ v. Fills (node_letter_part v.node (length old)) old
          c.letter_bytes.new.buffer c.letter_bytes.result)
          (IsErrOf c.letter_bytes.result Closed × (c.letter_bytes.new.buffer ≡ old)
          × WasShut g.D.Disk.may_leave g.W.Naming.wire)
          cell.is_open
          (λ ready. record {
            cell = cell;
            locked = locked;
            ready = ready;
            told = c.letter_bytes.ensures.read ready;
          })
          (λ shut. let refused = c.letter_bytes.ensures.closed shut in
          (refused.0, refused.1, record { before = cell; locked = locked; shut = shut }));
    }
