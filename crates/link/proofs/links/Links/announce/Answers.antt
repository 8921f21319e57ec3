use Rattle.std.proofs.Common.{sym, ap, ◌∙◌}
use Rattle.model.specs.View.{append_to}
use Rattle.link.specs.Links.{LinksView, for_other}
use Rattle.link.proofs.Announcing.{announced-next}
use Rattle.link.proofs.links.Links.announce.Goals as goal

pub loop-to-preserved : goal.loop-to-preserved
loop-to-preserved c =
    let old = c.loop-to.invariant in
    let own = c.args.own in
    let to = c.loop-to.to in
    let with = λ (w : LinksView). record w {
      links = append_to w.links (for_other own c.args.message.now to);
    } in
    record {
      last = old.last;
      below = c.in-Ok.ensures.done
          ∙ ap with old.below
          ∙ sym (announced-next c.args.self.now own to c.args.message.now);
      sound = c.append_other.ensures.sound old.sound;
    }
