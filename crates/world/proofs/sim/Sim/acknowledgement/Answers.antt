use Rattle.std.proofs.Common.{get_or, ap, ◌∙◌, subst}
use Rattle.world.specs.Sites.{SiteView}
use Rattle.world.specs.Shows.{IsSim}
use Rattle.world.proofs.Acks.{addressed-to, is-another}
use Rattle.world.specs.Spaces.{SpaceView}
use Rattle.world.proofs.Held.{site-read-in}
use Rattle.world.proofs.sim.Sim.acknowledgement.Goals as goal

pub acknowledgement-requires : goal.acknowledgement-requires
acknowledgement-requires c =
    is-another (subst (λ (n : SpaceView). IsSim n.sites) c.self.view_is c.self.invariant)
    c.requires.from c.requires.to c.requires.apart
    (site-read-in c.self.inside.sites.items c.self.view_is c.from.ensures c.requires.to
    c.index.ensures)

pub returns : goal.returns
returns c =
    let there = site-read-in c.self.inside.sites.items c.self.view_is c.from.ensures c.requires.to
    c.index.ensures in
    let sim = subst (λ (n : SpaceView). IsSim n.sites) c.self.view_is c.self.invariant in
    let by = c.acknowledgement.ensures.by ∙ ap (λ (q : SiteView). q.current.local.own) there
    ∙ (sim.current c.args.to c.requires.to).own in
    record {
      by = by;
      of = c.acknowledgement.ensures.of;
      number = c.acknowledgement.ensures.number
          ∙ ap (λ (q : SiteView). get_or q.saved.acks c.args.from 0) there;
      addressed = rw (by, c.acknowledgement.ensures.of)
          (addressed-to sim c.requires.from c.requires.to c.requires.apart);
    }
