-- A worker's run and its report.
use Rattle.std.specs.Prelude.{◌≡◌, ◌≤◌, ◌⊎◌, ℕ, Option, IsSome}
use Rattle.workers.specs.Turns.{freed_over, received_over, whole_turns, AreTurns}
use Rattle.workers.specs.declared.run.Report.{Report}
use Rattle.workers.specs.declared.run.Turns.{Turns}
use Rattle.workers.specs.declared.stop.Asked.{Asked}

-- A worker's run for a node of a space of this many nodes, ordered to take this many turns. The
-- report agrees with the turns. There are fewer only if the gate ended the worker, or if the
-- workers were found to have been asked to end.
pub record IsRun (node nodes turns : ℕ) (r : Report) (asked : Option Asked) (past : Turns)
    : Type 0 where
  pub own : r.node ≡ node
  pub taken : AreTurns node nodes r.ended_at past
  pub counted : r.turns ≡ whole_turns r.ended_at past
  pub most : r.turns ≤ turns
  pub all : (r.turns ≡ turns) ⊎ (IsSome r.ended_at ⊎ IsSome asked)
  pub received : r.received ≡ received_over past
  pub freed : r.freed ≡ freed_over past

-- the report of some such run
abbrev pub IsReport : ℕ → ℕ → ℕ → Report → Type 0
IsReport node nodes turns r =
    (asked : Option Asked) × (past : Turns) × IsRun node nodes turns r asked past
