-- What holds of every run.
use Rattle.std.specs.Prelude.{◌⊎◌, ◌≡◌, ◌≢◌, ℕ, ◌-◌, ◌<◌, ◌≤◌, List, Some, length, slice_get, true}
use Rattle.lineage.specs.Runs.{Among, AreNew, AreOfNewest, has_process, IsTrueOf, State, Step, Word, new_system, run, verdict}
use Rattle.lineage.specs.Senders.{AreInOrder, IsSame, Packet, known_by, sender_of, word}
use Rattle.lineage.specs.declared.senders.Process.{Process}
use Rattle.lineage.specs.declared.senders.Sender.TheVariants.{Later, Outdated}
use Rattle.lineage.specs.declared.Verdict.TheVariants.{Older}

-- No process ends without cause: if it does, the word isn't true of what it has saved.
abbrev pub EndsWithCause : Type 0
EndsWithCause =
    (room : ℕ) (steps : List Step) (s : State) → Among s (run room new_system steps).states
    → (w : Word) → verdict s w ≡ Older → IsTrueOf s w → ⊥

-- A process of an older copy ends at the first word that shows it, unless its line is full, or it
-- has forgotten who made that save.
abbrev pub FindsOlder : Type 0
FindsOlder =
    (room : ℕ) → 2 < room → (steps : List Step) → AreNew room new_system steps → (s : State)
    → Among s (run room new_system steps).states → has_process s ≡ true → length s.line < room
    → (w : Word) → Among w (run room new_system steps).words → s.known_from ≤ w.save
    → (IsTrueOf s w → ⊥)
    → verdict s w ≡ Older

-- If nothing older is ever put back, and one process at a time runs the node, none ends.
abbrev pub NewestGoesOn : Type 0
NewestGoesOn =
    (room : ℕ) (steps : List Step) → AreOfNewest room new_system steps → (s : State)
    → slice_get (run room new_system steps).states (length (run room new_system steps).states - 1)
    ≡ Some s
    → (w : Word) → Among w (run room new_system steps).words → verdict s w ≢ Older

-- ---- Of other nodes' processes

-- What is known never goes back: it stays that process, with as many saves or more, or it is a
-- process that began after all the saves that were known.
abbrev pub NeverBack : Type 0
NeverBack =
    (known : Process) (ps : List Packet) → AreInOrder ps
    → IsSame known (known_by known ps) ⊎ (known.saves < (known_by known ps).run)

-- Once a later process is known, nothing of an earlier one is taken.
abbrev pub LatestAlone : Type 0
LatestAlone =
    (known : Process) (ps : List Packet) (p : Packet)
    → p.sender.nonce ≢ (known_by known ps).nonce → p.sender.run ≤ (known_by known ps).saves
    → sender_of (known_by known ps) p.sender p.heard ≡ Outdated

-- A process that began after all saves that are known, and has heard of them, is known from its
-- first packet on.
abbrev pub NewestIsMet : Type 0
NewestIsMet =
    (known : Process) (ps : List Packet) (p : Packet)
    → p.sender.nonce ≢ (known_by known ps).nonce → (known_by known ps).saves < p.sender.run
    → p.heard ≡ word (known_by known ps)
    → sender_of (known_by known ps) p.sender p.heard ≡ Later
