use Rattle.std.proofs.Common.{ap, ◌∙◌}
use Rattle.node.specs.Keeping.{WholeNode}
use Rattle.world.proofs.SiteLemmas.{site_restarted}
use Rattle.world.proofs.site.Site.restart.Goals as goal

pub invariant_of-self : goal.invariant_of-self
invariant_of-self c =
    site_restarted _ _ _ _ c.self.invariant
    (ap (λ (w : WholeNode). w.core) c.in_ok-self-inside.ensures.made ∙ c.in_ok-core.ensures.same)
