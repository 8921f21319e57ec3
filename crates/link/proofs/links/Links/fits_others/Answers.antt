use Rattle.std.proofs.Common.{Bool, ◌&&◌, map, sym, ap, ◌∙◌}
use Rattle.model.specs.Steps.{fits}
use Rattle.model.specs.View.{used}
use Rattle.link.specs.Links.{for_other}
use Rattle.link.proofs.Announcing.{fits-next}
use Rattle.link.proofs.links.Links.fits_others.Goals.{then-fits, else-fits}
use Rattle.link.proofs.links.Links.fits_others.Goals as goal

pub loop-to-preserved : goal.loop-to-preserved
loop-to-preserved c =
    let links = c.args.self.now.links in
    let own = c.args.own in
    let to = c.loop-to.to in
    record {
      last = c.loop-to.invariant.last;
      below = λ x.
          let here = fits (map used links) (for_other own x to) in
          let before = sym (c.loop-to.invariant.below x) in
          let next = fits-next links own to x in
          elim c.if-fits.branch [
            | then-fits w ↦
                w.fits-is
                ∙ w.fits_other-fits.ensures x
                ∙ sym (next ∙ ap (λ (b : Bool). b && here) (before ∙ w.if-fits.true))
            | else-fits w ↦
                w.fits-is
                ∙ w.if-fits.false
                ∙ sym (next ∙ ap (λ (b : Bool). b && here) (before ∙ w.if-fits.false))
          ];
    }
