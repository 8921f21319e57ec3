use Rattle.std.proofs.Common.{◌≡◌, ◌-◌, length}
use Rattle.codec.proofs.Readers.{ReadsFirst}
use Rattle.image_parts.proofs.lists.many.Given as goal

abbrev pub invariant-loop-part : goal.invariant-loop-part
invariant-loop-part g l = record {
  read : ReadsFirst (g.T.Readable.format l.wide l.version) l.initial.reader l.reader l.parts.items
      (l.count - l._part) l.count;
  count : length l.parts.items ≡ l._part;
}
