-- A save fails with `ImageTooLarge` only if the image of some node that shows the state is too
-- large.
use Rattle.std.proofs.Common.{◌≡◌, List, Result, Ok, Err, ap}
use Rattle.std.specs.Prelude.{IfErr, ◌↔◌}
use Rattle.ids.specs.declared.refusal.Refusal.{Refusal}
use Rattle.ids.specs.declared.refusal.Refusal.TheVariants.{ImageTooLarge}
use Rattle.model.specs.World.{World}
use Rattle.model.specs.declared.step.Step.{Step}
use Rattle.model.specs.declared.step.Step.TheVariants as step
use Rattle.model.specs.declared.step.Outcome.{Outcome}
use Rattle.world.specs.Sites.{SiteView}
use Rattle.world.specs.Shows.{SavesTooLarge, ShowsWorld, site_at}
use Rattle.commands.specs.Script.{MayBeTooLarge}

may-be : (n : List SiteView) (w : World) (s : Step) → ShowsWorld n w → SavesTooLarge n s
    → MayBeTooLarge w s
may-be n w (step.Save i) h saves = ((site_at n i).current, (h.each i).current, saves.1)
may-be n w (step.Act i e) h saves = absurd saves
may-be n w (step.Restart i) h saves = absurd saves
may-be n w (step.Deliver from to number) h saves = absurd saves
may-be n w (step.Hand from to) h saves = absurd saves

pub refused_too_large : (n : List SiteView) (w : World) (s : Step) (r : Result Outcome Refusal)
    → ShowsWorld n w → (r ≡ Err ImageTooLarge ↔ SavesTooLarge n s)
    → IfErr r (λ e. e ≡ ImageTooLarge → MayBeTooLarge w s)
refused_too_large n w s (Ok o) h large = tt
refused_too_large n w s (Err e) h large =
    λ is. may-be n w s h (large.0 (ap (λ z. Err z) is))
