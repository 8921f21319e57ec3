use Rattle.std.proofs.Common.{ℕ, ap, ◌∙◌}
use Rattle.wire.specs.Readers.{known}
use Rattle.wire.specs.Views.{raises}
use Rattle.cell.proofs.desk.Desk.raise.Goals as goal

pub returns-clause-cycle : goal.returns-clause-cycle
returns-clause-cycle c =
    rw (← c.self.view_is) (c.raise.ensures.cycle.0 ∙ c.self.inside.ended_is)

pub returns-clause-known : goal.returns-clause-known
returns-clause-known c =
    rw (← c.self.view_is)
    (c.raise.ensures.raised
    ∙ ap (λ (k : ℕ). raises k (known c.self.inside.seat)) c.self.inside.ended_is)
