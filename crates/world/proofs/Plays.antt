-- The code answers what the strategy plays.
use Rattle.std.proofs.Common.{◌≡◌, true, List, [], ◌∷◌, map, Result, Ok, Err, IsOk, refl, ap, sym, ◌∙◌, subst}
use Rattle.std.specs.List.{AllByRecursion}
use Rattle.ids.specs.declared.refusal.Refusal.{Refusal}
use Rattle.model.specs.declared.event.Event.TheVariants as event
use Rattle.model.specs.declared.step.Step.{Step}
use Rattle.model.specs.declared.step.Step.TheVariants as step
use Rattle.model.specs.declared.step.Outcome.{Outcome}
use Rattle.model.specs.World.{World, FollowsStep, take_step, outcome_of, world_after, happens, run, outcomes}
use Rattle.node.specs.Keeping.{Rings}
use Rattle.laws.specs.Strategy.{is_collectors, played}
use Rattle.world.specs.Spaces.{SpaceView, ShowsSpace, step_met}
use Rattle.world.specs.Answered.{Call, AreCalls, space_after, is_taken}
use Rattle.world.specs.Played.{step_of, PlayedIsAnswered}
use Rattle.model.proofs.Refusals.{refused-as}
use Rattle.world.proofs.Refusals.{step-first}
use Rattle.world.proofs.Answers.{not-memory, not-large}

-- none of these steps is Next
pub met-same : (all : List Rings) (s : Step) → is_collectors s ≡ true → step_met all s ≡ s
met-same all (step.Act i event.Begin) is = refl
met-same all (step.Act i event.Scan) is = refl
met-same all (step.Act i event.Pass) is = refl
met-same all (step.Act i (event.Sweep count)) is = refl
met-same all (step.Act i e) is = absurd cc
met-same all s is = refl

-- a step that the definitions answer
pub record Goes (w : World) (s : Step) (r : Result Outcome Refusal) (new : SpaceView) : Type 0 where
  pub ok : IsOk r
  pub shown : ShowsSpace new (happens w s)

one-goes : (w : World) (s : Step) (r : Result Outcome Refusal) (new : SpaceView)
    → FollowsStep ShowsSpace w s r new → is_taken r ≡ true → IsOk (outcome_of (take_step w s))
    → Goes w s r new
one-goes w s (Ok o) new f taken ok = record {
  ok = refl;
  shown = subst (ShowsSpace new) (sym (ap (world_after w) f.1)) f.2;
}
one-goes w s (Err e) new f taken ok =
    absurd
    (let refused : take_step w s ≡ Err e =
    refused-as (step-first w e (not-large e taken) s f.0)
    (not-memory e taken) in
    let never : IsOk (outcome_of (Err e)) =
    subst (λ z. IsOk (outcome_of z)) refused ok in
    cc)

all-go : (ks : List Call) (ss : List Step) {w : World} {old : SpaceView} → ShowsSpace old w
    → AreCalls old ks → map step_of ks ≡ ss → AllByRecursion (λ s. is_collectors s ≡ true) ss
    → AllByRecursion IsOk (outcomes w ss) → AllByRecursion (λ c. is_taken c.result ≡ true) ks
    → AllByRecursion (λ c. IsOk c.result) ks × ShowsSpace (space_after old ks) (run w ss)
all-go [] [] shown calls same are oks taken = (tt, shown)
all-go [] (s ∷ ss) shown calls same are oks taken = absurd cc
all-go (k ∷ ks) [] shown calls same are oks taken = absurd cc
all-go (k ∷ ks) (s ∷ ss) {w} {old} shown calls same are oks taken =
    let this : k.step ≡ s = cc in
    let rest : map step_of ks ≡ ss = cc in
    let met : step_met old.early k.step ≡ s =
    ap (step_met old.early) this ∙ met-same old.early s are.0
    in
    let goes : Goes w s k.result k.space =
    one-goes w s k.result k.space
    (subst (λ (z : Step). FollowsStep ShowsSpace w z k.result k.space) met (calls.0 w shown))
    taken.0 oks.0 in
    let later = all-go ks ss goes.shown calls.1 rest are.1 oks.1 taken.1 in
    ((goes.ok, later.0), later.1)

pub played-is-answered : PlayedIsAnswered
played-is-answered n k w old calls shown are plays same taken =
    all-go calls (played n k w) shown are same plays.collectors plays.answered taken
