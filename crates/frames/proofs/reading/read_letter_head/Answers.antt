use Rattle.std.proofs.Common.{ap, length}
use Rattle.codec.proofs.Readers.{both_read}
use Rattle.frames.proofs.Heads.{Lettered, head_read, taken_all}
use Rattle.frames.proofs.reading.read_letter_head.Goals as goal

pub returns-clause-value : goal.returns-clause-value
returns-clause-value c =
    λ from to number stamp label references text fits same.
    let took = both_read c.u8-first.ensures (both_read c.read_head-from.ensures
    (both_read c.u64-stamp.ensures
    (both_read c.u8-tag.ensures c.read_letter-label.ensures.value))) in
    let is = head_read (from, (to, number)) stamp (label, (references, text)) c.new-reader.ensures
    took fits same in (
      record {
        from = ap (λ (z : Lettered). z.1.0.0) is;
        to = ap (λ (z : Lettered). z.1.0.1.0) is;
        number = ap (λ (z : Lettered). z.1.0.1.1) is;
        stamp = ap (λ (z : Lettered). z.1.1.0) is;
        references = taken_all _ _ c.read_letter-label.ensures.within
            (ap (λ (z : Lettered). z.1.1.1.1.1.0) is);
        bytes = ap (λ (z : Lettered). length z.1.1.1.1.1.1) is;
      },
      ap (λ (z : Lettered). z.1.1.1.1.1.0) is,
    )
