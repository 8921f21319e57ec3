-- Refusals that are the first to apply.
use Rattle.std.proofs.Common.{◌≡◌, ◌≢◌, Bool, true, false, Result, Ok, Err, refl}
use Rattle.std.specs.Prelude.{IsOk}
use Rattle.ids.specs.declared.refusal.Refusal.{Refusal}
use Rattle.ids.specs.declared.refusal.Refusal.TheVariants.{ImageTooLarge}
use Rattle.model.specs.Checks.{IsReplaced, IsFirstRefusal, by_test, by_memory}
use Rattle.model.specs.declared.step.Step.{Step}
use Rattle.model.specs.declared.step.Step.TheVariants as step
use Rattle.model.specs.World.{World, IsStepRefusal, is_shading_step, take_step}

-- If the second call fails whenever the first one does, and with the same refusal, and is answered
-- whenever the first one is, then whatever may replace the first result may replace the second.
replaced-by : {X Y : Type 0} (shading : Bool) (x : Result X Refusal) (y : Result Y Refusal)
    → ((f : Refusal) → x ≡ Err f → y ≡ Err f) → ((v : X) → x ≡ Ok v → IsOk y)
    → IsReplaced shading x → IsReplaced shading y
replaced-by false (Ok v) y refuses answers h = answers v refl
replaced-by false (Err f) y refuses answers h = absurd cc
replaced-by true (Ok v) (Ok w) refuses answers h = tt
replaced-by true (Ok v) (Err g) refuses answers h = let none = answers v refl in absurd cc
replaced-by true (Err f) y refuses answers h = rw (refuses f refl) h

-- the same for the first refusal that applies
pub first-by : {X Y : Type 0} (shading : Bool) (x : Result X Refusal) (y : Result Y Refusal)
    (e : Refusal) → ((f : Refusal) → x ≡ Err f → y ≡ Err f) → ((v : X) → x ≡ Ok v → IsOk y)
    → IsFirstRefusal shading e x → IsFirstRefusal shading e y
first-by shading x y e refuses answers (by_test other is) = by_test other (refuses e is)
first-by shading x y e refuses answers (by_memory memory is) =
    by_memory memory (replaced-by shading x y refuses answers is)

-- ---- refusals of a step

-- a refusal that can be derived from a space
module _ (w : World) (e : Refusal) (told : e ≢ ImageTooLarge) where
  pub step-refused : (s : Step) → IsFirstRefusal (is_shading_step s) e (take_step w s)
      → IsStepRefusal w s e
  step-refused (step.Save i) h = by e told h
    where
      by : (f : Refusal) → f ≢ ImageTooLarge
          → IsFirstRefusal false f (take_step w (step.Save i)) → IsStepRefusal w (step.Save i) f
      by ImageTooLarge other first = absurd (other refl)
      by f other first = first
  step-refused (step.Act i x) h = h
  step-refused (step.Restart i) h = h
  step-refused (step.Deliver from to number) h = h
  step-refused (step.Hand from to) h = h

  pub step-first : (s : Step) → IsStepRefusal w s e
      → IsFirstRefusal (is_shading_step s) e (take_step w s)
  step-first (step.Save i) h = by e told h
    where
      by : (f : Refusal) → f ≢ ImageTooLarge → IsStepRefusal w (step.Save i) f
          → IsFirstRefusal false f (take_step w (step.Save i))
      by ImageTooLarge other first = absurd (other refl)
      by f other first = first
  step-first (step.Act i x) h = h
  step-first (step.Restart i) h = h
  step-first (step.Deliver from to number) h = h
  step-first (step.Hand from to) h = h
