-- A disk in memory, as its callers see it.
use Rattle.std.specs.Prelude.{◌≡◌, ℕ, []}
use Rattle.disk.specs.Areas.{Areas}
use Rattle.disk.specs.Crashes.{Only}
use Rattle.disk.specs.Record.{areas_of, leaves, filled}
use Rattle.disk.specs.declared.memory.MemoryDisk.{MemoryDisk}
use Rattle.disk.specs.declared.plan.Plan.TheVariants.{Never}

-- three areas with no bytes
abbrev pub blank : Areas
blank = record { select = []; a = []; b = [] }

-- what a read gives
abbrev pub held_by : MemoryDisk → Areas
held_by d = areas_of d.account.state.held

-- what a crash now may leave
abbrev pub left_by : MemoryDisk → Areas → Type 0
left_by d = leaves d.account.state

-- what a crash now leaves if each byte that was written since the last sync became this one
abbrev pub filled_by_crash : ℕ → MemoryDisk → Areas
filled_by_crash fill d = filled fill d.account.state

-- no call of it has failed, and none will
abbrev pub IsFaultless : MemoryDisk → Type 0
IsFaultless d = (d.plan ≡ Never) × (d.account.failures ≡ 0)

-- The disk that a crash leaves if each byte that was written since the last sync became this one.
-- It is one that the crash may leave. Another crash leaves it as it is, and none of its calls fail.
pub record AfterCrash (fill : ℕ) (before left : MemoryDisk) : Type 0 where
  pub filled : held_by left ≡ filled_by_crash fill before
  pub possible : left_by before (held_by left)
  pub durable : Only (held_by left) (left_by left)
  pub faultless : IsFaultless left
