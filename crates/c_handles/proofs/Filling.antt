-- Handles that a call fills.
use Rattle.std.proofs.Common.{◌≡◌, Option, Some, None, Result, Ok, Err, ap, subst, sym}
use Rattle.c_values.specs.Faults.{Filled, empty}
use Rattle.c_values.specs.declared.fault.Fault.{Fault}
use Rattle.c_handles.specs.Spaces.{Moved, TakenTested}
use Rattle.c_handles.specs.declared.space.SeatedSpace.{SeatedSpace}

module _ {X : Type 0} (Makes : Result X Fault → Type 0) where
  pub in_use : (old new : Option X) (e : Fault) → new ≡ old → Err e ≡ empty old
      → Filled Makes old new (Err e)
  in_use (Some x) new e same is = (same, is)
  in_use None new e same is = absurd cc

  pub not_made : (old new : Option X) (e : Fault) → new ≡ old → Ok tt ≡ empty old → Makes (Err e)
      → Filled Makes old new (Err e)
  not_made (Some x) new e same is made = absurd cc
  not_made None new e same is made =
      subst (λ (o : Option X). Filled Makes None o (Err e)) (sym same) made

  pub filled : (old new : Option X) (x : X) → new ≡ Some x → Ok tt ≡ empty old → Makes (Ok x)
      → Filled Makes old new (Ok tt)
  filled (Some z) new x put is made = absurd cc
  filled None new x put is made =
      subst (λ (o : Option X). Filled Makes None o (Ok tt)) (sym put) made

-- what a call that failed answers, whatever it was to answer
abbrev failed : {A : Type 0} → Result A Fault → Result (Unit {0}) Fault
failed (Ok a) = Ok tt
failed (Err e) = Err e

-- a space that stayed, as the handle for what comes out of it did
pub stayed : {X : Type 0} (Takes : SeatedSpace → SeatedSpace → Result X Fault → Type 0)
    (old now : Option SeatedSpace) (held left : Option X) (e : Fault)
    → left ≡ held → TakenTested (empty held) old now (Err e) → Moved Takes old now held left (Err e)
stayed Takes None now None left e same is = (is.0, same, ap failed is.1)
stayed Takes None now (Some x) left e same is = (is.0, same, ap failed is.1)
stayed Takes (Some s) now (Some x) left e same is = (is.0, same, ap failed is.1)
stayed Takes (Some s) now None left e same is = absurd is
