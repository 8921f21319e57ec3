use Rattle.std.proofs.Common.{◌≡◌, ◌-◌, length, take}
use Rattle.codec.proofs.Readers.{ReadsFirst}
use Rattle.frames.specs.Formats.{optional}
use Rattle.frames.proofs.reading.read_each.Given as goal

abbrev pub invariant-loop-place : goal.invariant-loop-place
invariant-loop-place l = record {
  read : ReadsFirst (optional l.version) l.initial.reader l.reader (take l.place l.row)
      (l.count - l.place) l.count;
  count : length l.row ≡ length l.initial.row;
}
