-- What is known of a disk after a call was refused, and of a store after a save.
use Rattle.std.specs.Prelude.{◌≡◌, ◌≢◌, ◌⊎◌, ◌↔◌, Bool, ℕ, true, false}
use Rattle.std.specs.Prelude.{IfErr, IsErrOf, OnOk, Result}
use Rattle.ids.specs.declared.refusal.Refusal.{Refusal}
use Rattle.ids.specs.declared.refusal.Refusal.TheVariants.{BadImage, Closed, Disk, ImageTooLarge, Memory}
use Rattle.disk.specs.Areas.{Areas}
use Rattle.disk.specs.Crashes.{Grew}
use Rattle.disk_shelf.specs.Shelf.{SelectsLength}

-- the refusals of a read
abbrev pub IsReadRefusal : Refusal → Type 0
IsReadRefusal e = (e ≡ Memory) ⊎ ((e ≡ BadImage) ⊎ (e ≡ Disk))

-- the refusals of a first save
abbrev pub IsCreationRefusal : Refusal → Type 0
IsCreationRefusal e = (e ≡ Memory) ⊎ ((e ≡ ImageTooLarge) ⊎ (e ≡ Disk))

-- the refusals of a save
abbrev pub IsSaveRefusal : Refusal → Type 0
IsSaveRefusal e = (e ≡ Closed) ⊎ ((e ≡ ImageTooLarge) ⊎ ((e ≡ Memory) ⊎ (e ≡ Disk)))

-- No value was read from a disk. `BadImage` says that it holds none, and `Memory` that it says at
-- least how long an image is, and as many bytes are there if they are many.
pub record IsUnread {V : Type 0} (holds : V → Areas → Type 0) (d : Areas) (e : Refusal) : Type 0
  where
    pub bad : e ≡ BadImage → (value : V) → holds value d → ⊥
    pub memory : e ≡ Memory → SelectsLength d
    pub others : IsReadRefusal e

-- no bytes were written for a value, which is too large or not
pub record IsUnwritten (large : Type 0) (e : Refusal) : Type 0 where
  pub too_large : e ≡ ImageTooLarge ↔ large
  pub others : (e ≡ Memory) ⊎ (e ≡ ImageTooLarge)

-- A value, which is too large or not, wasn't saved on a new disk, which was handed back. Only a
-- failure of the disk changes it.
pub record IsHandedBack {D : Type 0} (faults : D → ℕ) (large : Type 0) (disk : D)
    (back : D × Refusal) : Type 0 where
  pub failed : back.1 ≡ Disk → Grew (faults disk) (faults back.0)
  pub too_large : back.1 ≡ ImageTooLarge ↔ large
  pub unchanged : back.1 ≢ Disk → back.0 ≡ disk
  pub others : IsCreationRefusal back.1

-- A save of a store, which was open or closed: `was` and `is` say whether it is open. Only a
-- failure of its disk closes it, and any other refusal changes nothing.
pub record AfterSave {D T : Type 0} (faults : D → ℕ) (old new : D) (was is : Bool)
    (result : Result T Refusal) : Type 0 where
  pub ready : OnOk result (is ≡ true)
  pub closed : IsErrOf result Closed ↔ (was ≡ false)
  pub failed : IsErrOf result Disk → Grew (faults old) (faults new) × (is ≡ false)
  pub unchanged : IfErr result (λ e. e ≢ Disk → (new ≡ old) × (is ≡ was))
  pub others : IfErr result IsSaveRefusal
