-- How a save ends: `was` and `is` say whether the store was open, and whether it is.
use Rattle.std.proofs.Common.{◌≡◌, ◌⊎◌, ◌∙◌, ℕ, Bool, true, false, Ok, Err, IsErrOf}
use Rattle.std.proofs.Common.{inl, inr, refl, sym, ⊎_elim}
use Rattle.std.proofs.lemmas.Bool.{false≢true}
use Rattle.ids.specs.declared.refusal.Refusal.{Refusal}
use Rattle.ids.specs.declared.refusal.Refusal.TheVariants.{Closed, Disk, ImageTooLarge, Memory}
use Rattle.disk.specs.Crashes.{Grew}
use Rattle.disk_shelf.specs.Refusals.{AfterSave}
use Rattle.disk_shelf.proofs.Quiet.{closed_no_disk, ok_no_err}

-- nothing was written for lack of memory, or because the image is too long
unwritten_no : {T : Type 0} {e : Refusal} → (e ≡ Memory) ⊎ (e ≡ ImageTooLarge) →
    (IsErrOf {T = T} (Err e) Disk → ⊥) × (IsErrOf {T = T} (Err e) Closed → ⊥)
unwritten_no others = (
  λ is. ⊎_elim (λ (m : _ ≡ Memory). absurd cc) (λ (l : _ ≡ ImageTooLarge). absurd cc) others,
  λ is. ⊎_elim (λ (m : _ ≡ Memory). absurd cc) (λ (l : _ ≡ ImageTooLarge). absurd cc) others,
)

disk_no_closed : {T : Type 0} → IsErrOf {T = T} (Err Disk) Closed → ⊥
disk_no_closed is = absurd cc

module _ {D T : Type 0} {faults : D → ℕ} {old : D} {was : Bool} where
  -- the store is closed
  pub shut_save : was ≡ false → AfterSave {T = T} faults old old was was (Err Closed)
  shut_save shut = record {
    ready = tt;
    closed = (λ _. shut, λ _. refl);
    failed = λ is. absurd (closed_no_disk is);
    unchanged = λ _. (refl, refl);
    others = inl refl;
  }

  -- nothing is written
  pub unwritten_save : {e : Refusal} → was ≡ true → (e ≡ Memory) ⊎ (e ≡ ImageTooLarge) →
      AfterSave {T = T} faults old old was was (Err e)
  unwritten_save was_open others = record {
    ready = tt;
    closed = (
      λ is. absurd ((unwritten_no others).1 is),
      λ shut. absurd (false≢true (sym shut ∙ was_open)),
    );
    failed = λ is. absurd ((unwritten_no others).0 is);
    unchanged = λ _. (refl, refl);
    others = ⊎_elim (λ memory. inr (inr (inl memory))) (λ large. inr (inl large)) others;
  }

  -- the disk fails
  pub failed_save : {new : D} {is : Bool} → was ≡ true → Grew (faults old) (faults new) →
      is ≡ false → AfterSave {T = T} faults old new was is (Err Disk)
  failed_save was_open grew shut = record {
    ready = tt;
    closed = (
      λ closed. absurd (disk_no_closed closed),
      λ was_shut. absurd (false≢true (sym was_shut ∙ was_open)),
    );
    failed = λ _. (grew, shut);
    unchanged = λ other. absurd (other refl);
    others = inr (inr (inr refl));
  }

  -- everything is written
  pub done_save : {new : D} {is : Bool} {x : T} → was ≡ true → is ≡ true →
      AfterSave faults old new was is (Ok x)
  done_save was_open ready = record {
    ready = ready;
    closed = (λ is. absurd (ok_no_err is), λ shut. absurd (false≢true (sym shut ∙ was_open)));
    failed = λ is. absurd (ok_no_err is);
    unchanged = tt;
    others = tt;
  }
