-- The count of calls that failed, and which fault a call had.
use Rattle.std.proofs.Common.{◌≡◌, ℕ, true, Ok, Err, IsErrOf, refl, subst, arith}
use Rattle.disk.specs.Crashes.{HasCause}
use Rattle.disk.specs.declared.device.DiskFault.{DiskFault}
use Rattle.disk.specs.declared.device.DiskFault.TheVariants.{Device, Memory}

-- a call that failed, or not, when the count was the same before
pub later_cause : {old mid new : ℕ} {Q : Type 0} → mid ≡ old → HasCause mid new Q →
    HasCause old new Q
later_cause {new = new} {Q = Q} same cause = subst (λ n. HasCause n new Q) same cause

-- the same with equivalent propositions
same_cause : {old new : ℕ} {P Q : Type 0} → HasCause old new P → P → Q → HasCause old new Q
same_cause cause p q = record {
  later = cause.later;
  failed = λ _. cause.failed p;
  fine = λ none. absurd (none q);
}

-- the failure of a call that is known to have failed
pub err_cause : {old new : ℕ} {Q : Type 0} → HasCause old new (true ≡ true) → Q →
    HasCause old new Q
err_cause cause q = same_cause cause refl q

-- a failure is counted then
pub counted_cause : {old mid new : ℕ} {P Q : Type 0} → mid ≡ old → HasCause mid new P → P → Q →
    HasCause old new Q
counted_cause same cause p q = same_cause (later_cause same cause) p q

-- nothing failed
pub no_cause : {old new : ℕ} {Q : Type 0} → new ≡ old → (Q → ⊥) → HasCause old new Q
no_cause same none = record {
  later = omega (arith, same);
  failed = λ q. absurd (none q);
  fine = λ _. same;
}

-- what succeeded has no fault, and no fault is another one
pub ok_no_err : {T E : Type 0} {x : T} {e : E} → Ok x ≡ Err e → ⊥
ok_no_err is = absurd cc

pub memory_no_device : {T : Type 0} {e : DiskFault} → e ≡ Memory → IsErrOf {T = T} (Err e) Device
    → ⊥
memory_no_device memory is = absurd cc

pub device_no_memory : {T : Type 0} {e : DiskFault} → e ≡ Device → IsErrOf {T = T} (Err e) Memory
    → ⊥
device_no_memory device is = absurd cc
