use Rattle.world.proofs.Held.{keeping-read-in}
use Rattle.world.proofs.sim.Sim.site.Goals as goal

pub returns : goal.returns
returns c =
    keeping-read-in c.self.inside.sites.items c.self.view_is c.from.ensures c.requires
    c.index.ensures
