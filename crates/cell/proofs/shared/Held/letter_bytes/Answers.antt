use Rattle.std.proofs.Common.{sym}
use Rattle.cell.proofs.Bytes.{letter-count}
use Rattle.cell.proofs.shared.Held.letter_bytes.Goals as goal

pub copy_from_slice-requires : goal.copy_from_slice-requires
copy_from_slice-requires g c =
    let n = c.args.self.now.cell.node.core.local in
    sym (letter-count n.heap _ c.in_ok-bytes.bytes.now c.in_ok-bytes.ensures.value)
