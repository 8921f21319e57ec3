-- A step after a run.
use Rattle.std.proofs.Common.{◌≡◌, List, [], ◌∷◌, ◌++◌, Result, Ok, Err, refl, ap, sym, ◌∙◌, subst}
use Rattle.ids.specs.declared.refusal.Refusal.{Refusal}
use Rattle.model.specs.declared.step.Step.{Step}
use Rattle.model.specs.declared.step.Outcome.{Outcome}
use Rattle.model.specs.World.{World, new_world, world_after, happens, run}
use Rattle.world.specs.Spaces.{SpaceView, ShowsSpace, FollowsSpace, ExtendsSpace, step_met}
use Rattle.model.proofs.Refusals.{refused-as}
use Rattle.world.proofs.Refusals.{step-first}

run-push : (w : World) (steps : List Step) (s : Step)
    → run w (steps ++ s ∷ []) ≡ happens (run w steps) s
run-push w [] s = refl
run-push w (t ∷ ts) s = run-push (happens w t) ts s

pub extends_space : (r : Result Outcome Refusal) (n m : SpaceView) (s : Step)
    → FollowsSpace r n m s → ExtendsSpace r n m s
extends_space (Ok o) n m s follows shape steps h taken short =
    let w : World = run (new_world shape) steps in
    let after = follows w h in
    subst (ShowsSpace m)
    (sym (run-push (new_world shape) steps (step_met n.early s) ∙ ap (world_after w) after.1))
    after.2
extends_space (Err e) n m s follows shape steps h taken short =
    let w : World = run (new_world shape) steps in
    let t : Step = step_met n.early s in
    let after = follows w h in
    let first = step-first w e (λ size. short (ap (λ z. Err z) size)) t after.0 in
    let stepped = refused-as first
    (λ memory. taken (ap (λ z. Err z) memory)) in
    subst (ShowsSpace m) (sym (run-push (new_world shape) steps t ∙ ap (world_after w) stepped))
    after.1
