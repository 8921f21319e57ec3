-- Which refusals a call of a journal can't give.
use Rattle.std.proofs.Common.{◌≢◌, Result, Err, IfErr, IsErrOf, refl, subst}
use Rattle.ids.specs.declared.refusal.Refusal.{Refusal}
use Rattle.ids.specs.declared.refusal.Refusal.TheVariants.{Closed, Disk, ImageTooLarge, Memory}

pub disk_not_large : {T : Type 0} → IsErrOf {T = T} (Err Disk) ImageTooLarge → ⊥
disk_not_large is = absurd cc

pub closed_not_large : {T : Type 0} → IsErrOf {T = T} (Err Closed) ImageTooLarge → ⊥
closed_not_large is = absurd cc

pub memory_no_large : Memory ≢ ImageTooLarge
memory_no_large is = absurd cc

pub disk_no_large : Disk ≢ ImageTooLarge
disk_no_large is = absurd cc

-- a refusal is another one
pub not_refused : {T : Type 0} {x : Refusal} {r : Result T Refusal} → IfErr r (λ e. e ≢ x) →
    IsErrOf r x → ⊥
not_refused {x = x} other is = subst (λ s. IfErr s (λ e. e ≢ x)) is other refl
