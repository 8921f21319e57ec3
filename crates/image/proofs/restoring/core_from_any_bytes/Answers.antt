use Rattle.std.proofs.Common.{sym, ◌∙◌}
use Rattle.image.proofs.restoring.core_from_any_bytes.Goals as goal

pub returns-then-begins_logged-clause-refused : goal.returns-then-begins_logged-clause-refused
returns-then-begins_logged-clause-refused c =
    rw (sym c.begins_logged.ensures ∙ c.if-begins_logged.true) c.core_from_logged.ensures.refused
