use Rattle.std.proofs.Common.{◌≡◌, length, All}
use Rattle.disk.specs.Record.{IsUnsynced}
use Rattle.disk.proofs.file.open_parts.Given as goal

abbrev pub invariant-loop-part : goal.invariant-loop-part
invariant-loop-part g l = record {
  count : length l.disks.items ≡ l.part;
  seals : All (λ d. d.seals ≡ l.seals) l.disks.items;
  unsynced : All (λ d. IsUnsynced d.account.state) l.disks.items;
}
