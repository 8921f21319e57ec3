use Rattle.std.proofs.Common.{List, length, map, ap, sym, ◌∙◌, ℕ, subst}
use Rattle.std.proofs.lemmas.List.{with_items_is, length-map}
use Rattle.std.proofs.lemmas.Result.{err_from_is_err_and}
use Rattle.world.specs.Outboxes.{released_frames}
use Rattle.node.specs.Keeping.{WholeNode}
use Rattle.world.specs.Sites.{KeepingSite, IsSite}
use Rattle.world.proofs.SiteLemmas.{site-saved}
use Rattle.world.proofs.site.Site.save.Goals as goal

-- once everything counts as saved, the image spells the node
pub renew-requires : goal.renew-requires
renew-requires c =
    rw (c.in_ok-image.ensures.written, c.core-2.ensures.value, c.mark_saved.ensures)
    c.in_ok-image.ensures.image

-- frames that were made but not released show nowhere
pub invariant_of-self-in_err-release_all : goal.invariant_of-self-in_err-release_all
invariant_of-self-in_err-release_all c =
    let wrote = with_items_is c.self.inside.outboxes c.release_all.new.row
    (c.release_all.auto.row ∙ c.deref_mut.ensures.len) in
    let same = c.in_err-release_all.ensures.unchanged
    ∙ ap (map released_frames) c.deref_mut.ensures.value in
    rw (wrote, c.take_spare-spare.ensures)
    (subst
    (λ (rows : List (List (List ℕ))).
    IsSite (record {
      current = c.self.inside.current.core;
      saved = c.self.inside.saved;
      released = rows;
    }))
    (sym same) c.self.invariant)

pub returns-in_err-release_all-clause-unchanged : goal.returns-in_err-release_all-clause-unchanged
returns-in_err-release_all-clause-unchanged c =
    let wrote = with_items_is c.self.inside.outboxes c.release_all.new.row
    (c.release_all.auto.row ∙ c.deref_mut.ensures.len) in
    let same = c.in_err-release_all.ensures.unchanged
    ∙ ap (map released_frames) c.deref_mut.ensures.value in
    let site : List (List (List ℕ)) → KeepingSite = λ rows. record {
      site = record {
        current = c.self.inside.current.core;
        saved = c.self.inside.saved;
        released = rows;
      };
      early = c.self.inside.current.early;
    } in
    let p = err_from_is_err_and c.from_residual-in_err-release_all.result
    c.from_residual-in_err-release_all.ensures.1 in
    rw (← c.self.view_is, wrote, p.1, c.take_spare-spare.ensures) (ap site same)

pub invariant_of-self-2 : goal.invariant_of-self-2
invariant_of-self-2 c =
    let wrote = with_items_is c.self.inside.outboxes c.release_all.new.row
    (c.release_all.auto.row ∙ c.deref_mut.ensures.len) in
    rw wrote
    (site-saved _ _ c.self.invariant
    (simp length-map (c.release_all.auto.row ∙ ap length c.deref_mut.ensures.value))
    (record {
      current = ap (λ (w : WholeNode). w.core) c.mark_saved.ensures;
      saved = c.renew.ensures ∙ c.core-2.ensures.value
          ∙ ap (λ (w : WholeNode). w.core) c.mark_saved.ensures;
      frames = rw (c.deref_mut.ensures.value, c.core.ensures.value) at
          c.in_ok-release_all.ensures.done;
    }))

pub returns-clause-done : goal.returns-clause-done
returns-clause-done c =
    let wrote = with_items_is c.self.inside.outboxes c.release_all.new.row
    (c.release_all.auto.row ∙ c.deref_mut.ensures.len) in
    rw (← c.self.view_is, wrote)
    (record {
      current = ap (λ (w : WholeNode). w.core) c.mark_saved.ensures;
      saved = c.renew.ensures ∙ c.core-2.ensures.value
          ∙ ap (λ (w : WholeNode). w.core) c.mark_saved.ensures;
      frames = rw (c.deref_mut.ensures.value, c.core.ensures.value) at
          c.in_ok-release_all.ensures.done;
    })
