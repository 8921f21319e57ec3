use Rattle.std.proofs.Common.{arith}
use Rattle.codec.specs.Formats.{whole_at}
use Rattle.frames.specs.Grammar.{frame}
use Rattle.frames.proofs.Frames.{is_found, is_letter_then, is_read, is_refused}
use Rattle.frames.proofs.reading.decode.Goals as goal

pub returns : goal.returns
returns c = record {
  found = is_found c.args.bytes.now c.whole.result (λ i. omega (arith, c.type_inv.bytes i))
      c.whole.ensures;
  only = λ f fits same. is_read c.args.bytes.now c.whole.result f c.whole.ensures fits same;
  refused = is_refused c.whole.result (whole_at frame.read c.args.bytes.now) c.whole.ensures;
  last = is_letter_then c.args.bytes.now c.whole.result (λ i. omega (arith, c.type_inv.bytes i))
      c.whole.ensures;
}
