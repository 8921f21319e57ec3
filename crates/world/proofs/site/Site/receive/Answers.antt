use Rattle.model.proofs.Leaving.{act-leaves}
use Rattle.node.proofs.Held.{handled-kept, handled-turn}
use Rattle.world.proofs.SiteLemmas.{acts, site_acted}
use Rattle.world.proofs.site.Site.receive.Goals as goal

pub invariant_of-self : goal.invariant_of-self
invariant_of-self c =
    site_acted c.self.invariant (act-leaves _ _ _ _ c.receive.ensures.performed)
    c.receive.ensures.performed

pub returns : goal.returns
returns c =
    rw (← c.self.view_is)
    (record {
      acted = acts c.self.invariant (act-leaves _ _ _ _ c.receive.ensures.performed)
          c.receive.ensures.performed c.receive.ensures.memory_free;
      early = c.receive.ensures.early;
      turn = handled-turn _ _ _ _ c.receive.ensures;
      kept = handled-kept _ _ _ _ c.receive.ensures;
    })
