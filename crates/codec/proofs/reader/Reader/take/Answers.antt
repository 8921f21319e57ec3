use Rattle.std.proofs.Common.{◌≡◌, Some, refl, rules}
use Rattle.codec.specs.Readers.{left}
use Rattle.codec.proofs.Readers.{number_taken}
use Rattle.codec.proofs.reader.Reader.take.Goals as goal

pub returns-in-Some-clause-value : goal.returns-in-Some-clause-value
returns-in-Some-clause-value c =
    let before : left c.args.self.now ≡ Some c.in-Some.bytes.now = search rules in
    number_taken c.args.count before refl c.if-count-bytes.true c.split_at.ensures.front
    c.split_at.ensures.back
