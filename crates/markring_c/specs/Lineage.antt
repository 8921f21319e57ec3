-- What the calls on the processes of a node say to C.
use Rattle.std.specs.Prelude.{◌≡◌, ℕ, ℤ, pos}
use Rattle.lineage.specs.Senders.{known_after, sender_of}
use Rattle.lineage.specs.declared.senders.Process.{Process}
use Rattle.lineage.specs.declared.senders.Sender.{Sender}
use Rattle.lineage.specs.declared.senders.Sender.TheVariants as sender
use Rattle.lineage.specs.declared.Verdict.{Verdict}
use Rattle.lineage.specs.declared.Verdict.TheVariants as verdict

-- the verdicts of markring_lineage.h
abbrev pub verdict_number : Verdict → ℤ
verdict_number verdict.Fits = pos 0
verdict_number verdict.Known = pos 1
verdict_number verdict.Older = pos 2

abbrev pub sender_number : Sender → ℤ
sender_number sender.Latest = pos 0
sender_number sender.Behind = pos 1
sender_number sender.Later = pos 2
sender_number sender.Outdated = pos 3

-- a packet of a process came
pub record Meets (old sender : Process) (heard : ℕ) (new : Process) (number : ℤ) : Type 0 where
  pub says : number ≡ sender_number (sender_of old sender heard)
  pub known : new ≡ known_after old sender (sender_of old sender heard)
