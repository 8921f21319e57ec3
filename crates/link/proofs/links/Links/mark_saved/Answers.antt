use Rattle.std.proofs.Common.{set, sym, ap, ◌∙◌, subst}
use Rattle.std.proofs.lemmas.List.Edits.{map_over_more}
use Rattle.link.specs.Links.{IsLinks, kept_links}
use Rattle.link.specs.Ends.{kept_ends, view_of}
use Rattle.link.proofs.Ends.{all_written}
use Rattle.link.proofs.EveryLink.{links-kept}
use Rattle.link.proofs.links.Links.mark_saved.Goals as goal

pub loop-ends-preserved : goal.loop-ends-preserved
loop-ends-preserved c =
    let loop = c.loop-ends in
    let within = c.loop-ends-test.true in
    ap (set loop.ends-items loop.ends-index)
    (c.mark_saved.ensures ∙ ap kept_ends (sym c.ends-item.is))
    ∙ map_over_more kept_ends _ _ _ _ within loop.invariant c.ends-item.is

pub invariant_of-self : goal.invariant_of-self
invariant_of-self c =
    let es = c.self.inside.by_node in
    let first = c.deref_mut-ends-items.ensures.value in
    let now = all_written es _ _ _ first c.loop-ends.invariant c.loop-ends-test.false in
    subst IsLinks (sym now) (links-kept (view_of es.items) c.self.invariant)

pub returns : goal.returns
returns c =
    let es = c.self.inside.by_node in
    let first = c.deref_mut-ends-items.ensures.value in
    let now = all_written es _ _ _ first c.loop-ends.invariant c.loop-ends-test.false in
    record {
      done = now ∙ ap kept_links c.self.view_is;
      sound = subst IsLinks (sym now) (links-kept (view_of es.items) c.self.invariant);
    }
