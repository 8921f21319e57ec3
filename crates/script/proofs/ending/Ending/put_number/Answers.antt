use Rattle.std.proofs.Common.{ℕ, ◌^◌, ◌<◌, ◌≤◌, length, decimal, arith}
use Rattle.std.proofs.lemmas.Fmt.{length-decimal-le}
use Rattle.script.proofs.ending.Ending.put_number.Goals as goal

short : (n : ℕ) → n < 2 ^ 64 → length (decimal n) ≤ 20
short n fits = length-decimal-le 20 n (omega arith) (omega arith) fits

pub write_digits-self-requires : goal.write_digits-self-requires
write_digits-self-requires c =
    let few = short c.args.number (omega arith) in (omega (arith, few), omega arith)

pub returns-clause-room : goal.returns-clause-room
returns-clause-room c =
    let few = short c.args.number (omega arith) in
    let start = c.write_digits-self.ensures.start in
    (omega (arith, few, start), omega (arith, few, start))
