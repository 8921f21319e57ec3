-- What node 0 concludes from the token once it has gone round.
use Rattle.std.specs.Prelude.{cond}
use Rattle.msg.specs.declared.body.Colour.TheVariants.{White}
use Rattle.model.specs.State.{Ring}
use Rattle.model.specs.Collecting.{without_token, new_token, is_concluded}
use Rattle.cycles.specs.declared.verdict.Verdict.{Verdict}
use Rattle.cycles.specs.declared.verdict.Verdict.TheVariants.{Ended, Probe}

-- marking has ended, or another probe starts
abbrev pub verdict_of : Ring → Verdict
verdict_of r = cond (is_concluded r) Ended (Probe new_token)

-- The token has left. If another probe starts, the node is white.
abbrev pub judged_ring : Ring → Ring
judged_ring r = record (without_token r) { colour = cond (is_concluded r) r.colour White }
