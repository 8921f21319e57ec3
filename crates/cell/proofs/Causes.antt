-- Why opening a node from its disk fails.
use Rattle.std.proofs.Common.{◌≡◌, ◌≢◌, ◌⊎◌, ℕ, Bool, List, Result, Ok, Err, false, sym, ap, subst, ⊎_elim, arith}
use Rattle.std.proofs.lemmas.Bool.{false≢true}
use Rattle.ids.specs.Limits.{Shaped}
use Rattle.ids.specs.declared.refusal.Refusal.{Refusal}
use Rattle.ids.specs.declared.refusal.Refusal.TheVariants.{BadImage, Closed, Disk, ImageTooLarge, Memory}
use Rattle.model.specs.View.{NodeView}
use Rattle.disk.specs.Areas.{Areas}
use Rattle.disk.specs.Crashes.{Grew, Unmoved}
use Rattle.cell.specs.Ages.{IsWhy}
use Rattle.cell.specs.Opened.{HasAt, HoldsAnother, HoldsNone, IsCause, IsNodeOf, IsTooLarge, IsWhyNot, unsealed}
use Rattle.cell.specs.declared.fault.Unopened.{Unopened}
use Rattle.cell.specs.declared.fault.Unopened.TheVariants as fault

module _ {D : Type 0} (seen : D → Areas) (seals : D → Bool) (moment faults : D → ℕ)
    (shape : Shaped) where
  -- a cause for one node is a cause for the list
  pub why-there : (disks : List D) (k : ℕ) (e : Unopened)
      → HasAt k (λ d. IsWhyNot seen seals moment faults shape k d e) disks
      → IsWhy seen seals moment faults shape disks e
  why-there disks k fault.Disks why = absurd why.is
  why-there disks k (fault.Another node) why =
      subst (λ (i : ℕ). IsWhy seen seals moment faults shape disks (fault.Another i)) (sym why.is.0)
      (record { value = why.value; there = why.there; is = why.is.1 })
  why-there disks k (fault.Ages sender receiver) why = absurd why.is
  why-there disks k (fault.Failed node e) why =
      subst (λ (i : ℕ). IsWhy seen seals moment faults shape disks (fault.Failed i e))
      (sym why.is.0)
      (record { value = why.value; there = why.there; is = why.is.1 })
  why-there disks k fault.Memory why = tt

-- what holds of the fault of a node that wasn't read or created because of this refusal
pub by-refusal : (P : Unopened → Type 0) (k : ℕ) (r : Refusal) (e : Unopened)
    → ((r ≡ Memory) × (e ≡ fault.Memory)) ⊎ ((r ≢ Memory) × (e ≡ fault.Failed k r))
    → P fault.Memory → (r ≢ Memory → P (fault.Failed k r)) → P e
by-refusal P k r e which memory failed =
    ⊎_elim (λ is. subst P (sym is.1) memory) (λ other. subst P (sym other.1) (failed other.0)) which

-- the same refusal, of another call
pub same-error : {A B E : Type 0} (e f : E) → ◌≡◌ {A = Result A E} (Err e) (Err f)
    → ◌≡◌ {A = Result B E} (Err e) (Err f)
same-error e f is = ap Err (let same : e ≡ f = cc in same)

pub ok-no-error : {A E : Type 0} {x : A} {e : E} → Ok x ≡ Err e → ⊥
ok-no-error is = absurd cc

pub same-refusal : {A E : Type 0} {e f : E} → ◌≡◌ {A = Result A E} (Err e) (Err f) → e ≡ f
same-refusal is = cc is

-- other refusals are no failure of the disk
pub closed-no-disk : Closed ≡ Disk → ⊥
closed-no-disk is = absurd cc

pub large-no-disk : ImageTooLarge ≡ Disk → ⊥
large-no-disk is = absurd cc

pub memory-no-disk : Memory ≡ Disk → ⊥
memory-no-disk is = absurd cc

-- what holds of a refusal that isn't for lack of memory: it is this one, or the disk failed
pub by-cause : (P : Refusal → Type 0) (x e : Refusal)
    → (e ≡ Memory) ⊎ ((e ≡ x) ⊎ (e ≡ Disk)) → e ≢ Memory → (e ≡ x → P x) → (e ≡ Disk → P Disk)
    → P e
by-cause P x e which other its disk =
    ⊎_elim (λ is. absurd (other is))
    (⊎_elim (λ is. subst P (sym is) (its is)) (λ is. subst P (sym is) (disk is))) which

-- A disk that opens to no node, whether it seals or not.
none-read : {seen : Areas} (seals : Bool) → HoldsNone false seen → HoldsNone seals seen
none-read seals h = record {
  written = h.written;
  none = λ n opens intact. h.none n opens (λ is. absurd (false≢true is));
}

-- For a disk on which no call failed before. Its seals were compared before, so that no cause comes
-- from them.
pub earlier-cause : {D : Type 0} {seen : D → Areas} {may_leave : D → Areas → Type 0}
    {moment : D → ℕ} {left_since : D → ℕ → Areas → Type 0} {old new : D} (seals : D → Bool)
    (faults : D → ℕ) (shape : Shaped) (own : ℕ) (e : Refusal)
    → Unmoved seen may_leave moment left_since old new → faults new ≡ faults old
    → IsCause seen unsealed moment faults shape own new e
    → IsCause seen seals moment faults shape own old e
earlier-cause seals faults shape own Disk quiet fine is = record {
  after = is.after;
  later = omega (arith, quiet.any_moment.later, is.later);
  failed = subst (λ (n : ℕ). Grew n (faults is.after)) fine is.failed;
}
earlier-cause {old = old} seals faults shape own BadImage quiet fine is =
    none-read (seals old) (subst (HoldsNone false) quiet.same is)
earlier-cause seals faults shape own ImageTooLarge quiet fine is =
    subst (IsTooLarge shape own) quiet.same is
earlier-cause seals faults shape own e quiet fine is = is

-- the same for why the node of this number wasn't read
pub earlier-why : {D : Type 0} {seen : D → Areas} {may_leave : D → Areas → Type 0}
    {moment : D → ℕ} {left_since : D → ℕ → Areas → Type 0} {old new : D} (seals : D → Bool)
    (faults : D → ℕ) (shape : Shaped) (own : ℕ) (e : Unopened)
    → Unmoved seen may_leave moment left_since old new → faults new ≡ faults old
    → IsWhyNot seen unsealed moment faults shape own new e
    → IsWhyNot seen seals moment faults shape own old e
earlier-why seals faults shape own fault.Disks quiet fine is = is
earlier-why seals faults shape own (fault.Another k) quiet fine is =
    (is.0, subst (HoldsAnother shape own) quiet.same is.1)
earlier-why seals faults shape own (fault.Ages i j) quiet fine is = is
earlier-why seals faults shape own (fault.Failed k e) quiet fine is =
    (is.0, earlier-cause seals faults shape own e quiet fine is.1)
earlier-why seals faults shape own fault.Memory quiet fine is = tt

-- what holds of the node of its own shape and number
pub as-node : (P : Shaped → ℕ → Type 0) {shape : Shaped} {own : ℕ} {n : NodeView}
    → IsNodeOf shape own n → P n.local.shape n.local.own → P shape own
as-node P {shape = shape} {n = n} is h =
    subst (P shape) is.numbered (subst (λ (s : Shaped). P s n.local.own) is.shaped h)
