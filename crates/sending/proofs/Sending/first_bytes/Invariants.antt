use Rattle.std.proofs.Common.{◌≡◌, ◌*◌, ◌≤◌, sum, take}
use Rattle.sending.proofs.Sending.first_bytes.Given as goal

abbrev pub invariant-loop-length : goal.invariant-loop-length
invariant-loop-length l =
    (l.bytes ≡ sum (take l.length-index l.length-items)) × (l.bytes ≤ 4294967296 * l.length-index)
