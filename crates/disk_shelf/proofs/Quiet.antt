-- Calls that change nothing of a disk, and refusals that are passed on.
use Rattle.std.proofs.Common.{◌≡◌, ◌≢◌, ◌∙◌, ℕ, Result, Ok, Err, IsErrOf, OnOk, Option, None, Some}
use Rattle.std.proofs.Common.{ap, inl, inr, refl, sym}
use Rattle.ids.specs.declared.refusal.Refusal.{Refusal}
use Rattle.ids.specs.declared.refusal.Refusal.TheVariants.{BadImage, Closed, Disk, Memory}
use Rattle.disk.specs.Areas.{Areas}
use Rattle.disk.specs.Crashes.{Elapses, HasCause, Only, Unmoved}
use Rattle.disk_shelf.specs.Refusals.{IsReadRefusal, IsUnread}
use Rattle.disk_shelf.specs.Shelf.{opened, SelectsLength}
use Rattle.disk_shelf.proofs.Moments.{goes_on, joined, started, weaker}

module _ {D : Type 0} {seen : D → Areas} {may_leave : D → Areas → Type 0}
    {moment : D → ℕ} {left_since : D → ℕ → Areas → Type 0} where
  -- one call
  pub unmoved : {old new : D} → ((c : Areas) → left_since old (moment old) c → may_leave old c) →
      seen new ≡ seen old → ((c : Areas) → may_leave new c → may_leave old c) →
      Elapses (moment old) (moment new) (left_since old) (left_since new) (may_leave new) →
      Unmoved seen may_leave moment left_since old new
  unmoved here same crash time = record {
    same = same;
    crash = crash;
    any_moment = goes_on (started here) time crash;
  }

  -- one after another
  pub both_unmoved : {old mid new : D} → Unmoved seen may_leave moment left_since old mid →
      Unmoved seen may_leave moment left_since mid new →
      Unmoved seen may_leave moment left_since old new
  both_unmoved first second = record {
    same = second.same ∙ first.same;
    crash = λ c left. first.crash c (second.crash c left);
    any_moment = joined first.any_moment (weaker second.any_moment first.crash);
  }

  -- after a sync
  pub still_only : {T E : Type 0} {mid new : D} (r : Result T E) →
      Unmoved seen may_leave moment left_since mid new → Only (seen mid) (may_leave mid) →
      OnOk r (Only (seen new) (may_leave new))
  still_only (Ok x) quiet only = λ c left. only c (quiet.crash c left) ∙ sym quiet.same
  still_only (Err e) quiet only = tt

-- a refusal is passed on, at another type of value
pub handed_cause : {old new : ℕ} {T U E : Type 0} {e x : E} {r : Result U E} → r ≡ Err e →
    HasCause old new (IsErrOf {T = T} (Err e) x) → HasCause old new (IsErrOf r x)
handed_cause is cause = record {
  later = cause.later;
  failed = λ same. cause.failed (cc);
  fine = λ none. cause.fine (λ same. none (cc));
}

pub handed_err : {T U E : Type 0} {e x : E} {r : Result U E} → r ≡ Err e → IsErrOf r x →
    IsErrOf {T = T} (Err e) x
handed_err is from = cc (is, from)

pub same_err : {T E : Type 0} {x y : E} → IsErrOf {T = T} (Err x) y → x ≡ y
same_err both = cc both

-- what succeeded isn't refused, and `BadImage` is no failure of the disk
pub ok_no_err : {T E : Type 0} {x : T} {e : E} → Ok x ≡ Err e → ⊥
ok_no_err is = absurd cc

pub bad_no_disk : {T : Type 0} {r : Result T Refusal} → r ≡ Err BadImage → IsErrOf r Disk → ⊥
bad_no_disk bad is = absurd cc

pub memory_no_disk : {T : Type 0} → IsErrOf {T = T} (Err Memory) Disk → ⊥
memory_no_disk is = absurd cc

-- nor is `Closed`
pub closed_no_disk : {T : Type 0} → IsErrOf {T = T} (Err Closed) Disk → ⊥
closed_no_disk is = absurd cc

pub memory_no_bad : {T : Type 0} → IsErrOf {T = T} (Err Memory) BadImage → ⊥
memory_no_bad is = absurd cc

pub some_no_none : {A : Type 0} {o : Option A} {x : A} → o ≡ Some x → o ≡ None → ⊥
some_no_none some none = absurd cc

pub same_some : {A : Type 0} {x y : A} → ◌≡◌ {A = Option A} (Some x) (Some y) → x ≡ y
same_some both = cc both

-- a refusal to read an image
pub bad_no_memory : {e : Refusal} → e ≡ BadImage → e ≢ Memory
bad_no_memory bad is = absurd cc

pub read_no_disk : {T X : Type 0} {e : Refusal} → (e ≢ Memory → (e ≡ BadImage) × X) →
    IsErrOf {T = T} (Err e) Disk → ⊥
read_no_disk refused is =
    let bad = (refused (λ was. absurd cc)).0 in absurd cc

pub read_refused : {X : Type 0} (e : Refusal) → (e ≢ Memory → (e ≡ BadImage) × X) →
    IsReadRefusal e
read_refused Memory refused = inl refl
read_refused e refused = inr (inl (refused (λ is. absurd cc)).0)

-- what a disk says if no image was found there
pub unread_none : {T V : Type 0} {holds : V → Areas → Type 0} {d : Areas} {e : Refusal} →
    (IsErrOf {T = T} (Err e) BadImage → opened d ≡ None) →
    (IsErrOf {T = T} (Err e) Memory → SelectsLength d) → IsReadRefusal e →
    ((v : V) → holds v d → opened d ≡ None → ⊥) → IsUnread holds d e
unread_none bad memory others none = record {
  bad = λ is v held. none v held (bad (ap Err is));
  memory = λ is. memory (ap Err is);
  others = others;
}

-- and if one was found that isn't read
pub unread_image : {V W : Type 0} {reads : W → Type 0} {holds : V → Areas → Type 0} {d : Areas}
    {e : Refusal} → (e ≢ Memory → (e ≡ BadImage) × ((w : W) → reads w → ⊥)) → SelectsLength d →
    ((v : V) → holds v d → (w : W) × reads w) → IsUnread holds d e
unread_image {e = e} refused tells first = record {
  bad = λ is v held.
      let read = first v held in (refused (bad_no_memory is)).1 read.0 read.1;
  memory = λ _. tells;
  others = read_refused e refused;
}

-- a failure of the disk is no other refusal
pub disk_no_bad : {T : Type 0} → IsErrOf {T = T} (Err Disk) BadImage → ⊥
disk_no_bad is = absurd cc

pub disk_no_memory : {T : Type 0} → IsErrOf {T = T} (Err Disk) Memory → ⊥
disk_no_memory is = absurd cc
