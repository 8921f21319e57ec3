-- The answers of a space of the code are those of the definitions. So programs see a run of a space
-- without a collector.
use Rattle.std.proofs.Common.{◌≡◌, ◌≢◌, ℕ, Bool, true, false, List, [], ◌∷◌, ◌++◌, Result, Ok, Err, refl, ap, sym, ◌∙◌, subst, ⊎_elim}
use Rattle.std.proofs.lemmas.Bool.{cases_Bool, cond-true, cond-false}
use Rattle.ids.specs.declared.refusal.Refusal.{Refusal}
use Rattle.ids.specs.declared.refusal.Refusal.TheVariants.{Memory, ImageTooLarge}
use Rattle.model.specs.declared.step.Step.{Step}
use Rattle.model.specs.declared.step.Outcome.{Outcome}
use Rattle.model.specs.World.{World, FollowsStep, new_world, take_step, outcome_of, world_after, happens, run}
use Rattle.model.specs.Cuts.{cut}
use Rattle.laws.specs.Objects.{new_space, Sight, IsRun, after}
use Rattle.laws.specs.Sights.{observed_in_step, choice_at_start, observed_in_cut, LooksLike}
use Rattle.laws.proofs.Transparent.{collector-is-unseen}
use Rattle.world.specs.Spaces.{SpaceView, ShowsSpace, step_met}
use Rattle.world.specs.Answered.{Call, AreCalls, space_after, is_taken, steps_of, sights, AnswersAreUnseen}
use Rattle.model.proofs.Refusals.{refused-as}
use Rattle.world.proofs.Refusals.{step-first}

-- the calls' answers are those of the definitions, and the space that they lead to is shown
record Answered (w : World) (old : SpaceView) (ks : List Call) (choice : ℕ → Bool) : Type 0
  where
    seen : sights w old ks choice ≡ observed_in_cut w (steps_of old ks) choice
    shown : ShowsSpace (space_after old ks) (run w (steps_of old ks))

-- one more call, which is this step
module _ (w : World) (old : SpaceView) (k : Call) (ks : List Call) (choice : ℕ → Bool) where
  abbrev met : Step
  met = step_met old.early k.step

  abbrev later : List Step
  later = steps_of k.space ks

  abbrev here : Result Outcome Refusal → List Sight
  here r = observed_in_step w (choice_at_start later choice) met r

  -- a step that was taken
  taken-call : is_taken k.result ≡ true → outcome_of (take_step w met) ≡ k.result
      → Answered (happens w met) k.space ks choice → Answered w old (k ∷ ks) choice
  taken-call is same rest = record {
    seen =
        cond-true (is_taken k.result) (here k.result ++ sights (happens w met) k.space ks choice)
        (sights w k.space ks choice) is
        ∙ ap (λ (z : List Sight). here k.result ++ z) rest.seen
        ∙ ap
        (λ (z : Result Outcome Refusal). here z ++ observed_in_cut (happens w met) later choice)
        (sym same)
        ∙ ap (λ (z : List Step). observed_in_cut w z choice)
        (sym (cond-true (is_taken k.result) (met ∷ later) later is));
    shown = subst (λ (z : List Step). ShowsSpace (space_after k.space ks) (run w z))
        (sym (cond-true (is_taken k.result) (met ∷ later) later is)) rest.shown;
  }

  -- a step that only the code refused
  lost-call : is_taken k.result ≡ false → Answered w k.space ks choice
      → Answered w old (k ∷ ks) choice
  lost-call lost rest = record {
    seen =
        cond-false (is_taken k.result) (here k.result ++ sights (happens w met) k.space ks choice)
        (sights w k.space ks choice) lost
        ∙ rest.seen
        ∙ ap (λ (z : List Step). observed_in_cut w z choice)
        (sym (cond-false (is_taken k.result) (met ∷ later) later lost));
    shown = subst (λ (z : List Step). ShowsSpace (space_after k.space ks) (run w z))
        (sym (cond-false (is_taken k.result) (met ∷ later) later lost)) rest.shown;
  }

pub not-memory : (e : Refusal) → is_taken (Err e) ≡ true → e ≢ Memory
not-memory e is same =
    absurd (let never : is_taken (Err Memory) ≡ true =
    subst (λ (z : Refusal). is_taken (Err z) ≡ true) same is in cc)

pub not-large : (e : Refusal) → is_taken (Err e) ≡ true → e ≢ ImageTooLarge
not-large e is same =
    absurd (let never : is_taken (Err ImageTooLarge) ≡ true =
    subst (λ (z : Refusal). is_taken (Err z) ≡ true) same is in cc)

one-call : (w : World) (old : SpaceView) (k : Call) (ks : List Call) (choice : ℕ → Bool)
    → FollowsStep ShowsSpace w (step_met old.early k.step) k.result k.space
    → ((v : World) → ShowsSpace k.space v → Answered v k.space ks choice)
    → Answered w old (k ∷ ks) choice
one-call w old k ks choice follows rest = by k.result refl follows
  where
    t : Step
    t = step_met old.early k.step

    by : (r : Result Outcome Refusal) → k.result ≡ r → FollowsStep ShowsSpace w t r k.space
        → Answered w old (k ∷ ks) choice
    by (Ok o) is f =
        taken-call w old k ks choice (ap is_taken is) (ap outcome_of f.1 ∙ sym is)
        (subst (λ (z : World). Answered z k.space ks choice) (sym (ap (world_after w) f.1))
        (rest f.0 f.2))
    by (Err e) is f = ⊎_elim {C = Answered w old (k ∷ ks) choice}
        (λ (taken : is_taken (Err e) ≡ true).
        let refused : take_step w t ≡ Err e =
        refused-as (step-first w e (not-large e taken) t f.0) (not-memory e taken) in
        taken-call w old k ks choice (ap is_taken is ∙ taken) (ap outcome_of refused ∙ sym is)
        (subst (λ (z : World). Answered z k.space ks choice)
        (sym (ap (world_after w) refused)) (rest w f.1)))
        (λ (lost : is_taken (Err e) ≡ false).
        lost-call w old k ks choice (ap is_taken is ∙ lost) (rest w f.1))
        (cases_Bool (is_taken (Err e)))

answered : (old : SpaceView) (ks : List Call) (choice : ℕ → Bool) → AreCalls old ks
    → (w : World) → ShowsSpace old w → Answered w old ks choice
answered old [] choice calls w shown = record { seen = refl; shown = shown }
answered old (k ∷ ks) choice calls w shown =
    one-call w old k ks choice (calls.0 w shown) (answered k.space ks choice calls.1)

pub answers-are-unseen : AnswersAreUnseen
answers-are-unseen shape limits old calls choice shown are =
    let w : World = new_world shape in
    let all = answered old calls choice are w shown in
    let unseen = collector-is-unseen shape limits (steps_of old calls) choice in (
      subst (IsRun shape (new_space shape)) (sym all.seen) unseen.0,
      all.shown,
      subst (λ (z : List Sight).
          LooksLike (after (new_space shape) z) (cut (run w (steps_of old calls)) choice))
          (sym all.seen) unseen.1,
    )
