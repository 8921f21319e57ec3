use Rattle.std.proofs.Common.{ap, ◌∙◌}
use Rattle.world.specs.Outboxes.{numbered_bytes}
use Rattle.world.specs.Sites.{SiteView, frames_to}
use Rattle.world.proofs.Held.{site-read-in}
use Rattle.world.proofs.sim.Sim.released.Goals as goal

pub returns : goal.returns
returns c =
    c.frame.ensures
    ∙ ap (λ (q : SiteView). numbered_bytes (frames_to q c.args.to) c.args.number)
    (site-read-in c.self.inside.sites.items c.self.view_is c.from.ensures c.requires
    c.index.ensures)
