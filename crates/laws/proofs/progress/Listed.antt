-- Lists of steps that change nothing.
use Rattle.std.proofs.Common.{◌≡◌, List, [], ◌∷◌, refl, sym, ◌∙◌, subst, inl, inr}
use Rattle.model.specs.declared.step.Step.{Step}
use Rattle.model.specs.World.{World, happens, run}
use Rattle.model.specs.Cuts.{Cut, Among}
use Rattle.laws.specs.Strategy.{now}
use Rattle.laws.proofs.progress.Turning.{Excuse}

-- each step leaves the current states as they are
abbrev pub AllRest : World → List Step → Type 0
AllRest w [] = Unit {0}
AllRest w (s ∷ ss) = (now (happens w s) ≡ now w) × Excuse (now w) s × AllRest (happens w s) ss

pub rest-same : (w : World) (ss : List Step) → AllRest w ss → now (run w ss) ≡ now w
rest-same w [] all = refl
rest-same w (s ∷ ss) all = rest-same (happens w s) ss all.2 ∙ all.0

pub rest-excuse : (w : World) (ss : List Step) (s : Step) → AllRest w ss → Among s ss
    → Excuse (now w) s
rest-excuse w [] s all never = absurd never
rest-excuse w (t ∷ ts) s all (inl is) = subst (λ (z : Step). Excuse (now w) z) (sym is) all.1
rest-excuse w (t ∷ ts) s all (inr later) =
    subst (λ (c : Cut). Excuse c s) all.0 (rest-excuse (happens w t) ts s all.2 later)
