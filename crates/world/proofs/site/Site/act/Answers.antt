use Rattle.world.proofs.SiteLemmas.{acts, site_acted}
use Rattle.world.proofs.site.Site.act.Goals as goal

pub invariant_of-self : goal.invariant_of-self
invariant_of-self c =
    site_acted c.self.invariant c.act.ensures.leaves
    (record { performs = c.act.ensures.performs; unchanged = c.act.ensures.unchanged })

pub returns : goal.returns
returns c =
    rw (← c.self.view_is)
    (record {
      acted = acts c.self.invariant c.act.ensures.leaves
          (record { performs = c.act.ensures.performs; unchanged = c.act.ensures.unchanged })
          c.act.ensures.memory_free;
      early = c.act.ensures.early;
      turn = c.act.ensures.turn;
      kept = c.act.ensures.kept;
    })
