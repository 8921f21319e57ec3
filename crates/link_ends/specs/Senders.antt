-- What holds of every `Sender`, which contracts see as a `Link` of the definitions.
use Rattle.std.specs.Prelude.{ℕ, ◌+◌, ◌≤◌, List, length}
use Rattle.ids.specs.declared.limits.TheConstants.{GREATEST_NUMBER}
use Rattle.msg.specs.declared.body.Message.{Message}
use Rattle.model.specs.View.{Link, used}

-- no more is acknowledged than a saved state holds, and no more is held than was appended
pub record IsLink (l : Link) : Type 0 where
  pub base : l.base ≤ l.kept
  pub kept : l.kept ≤ used l
  pub used : used l ≤ GREATEST_NUMBER

-- what was sent, if a saved state holds all of it
abbrev pub sent : ℕ → List Message → Link
sent base messages =
    record { base = base; unacknowledged = messages; kept = base + length messages }
