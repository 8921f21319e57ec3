-- How a disk holds an image and the batches behind it: each batch behind a gate, and a gate behind
-- the last one.
use Rattle.std.specs.Prelude.{◌≡◌, ◌⊎◌, ℕ, ◌+◌, Bool, true, false, List, [], ◌∷◌, ◌++◌, length, drop}
use Rattle.std.specs.Prelude.{Option, Some, None, Vec, is_some}
use Rattle.std.specs.declared.alloc.Global.{Global}
use Rattle.disk.specs.Areas.{Areas, IsBlank, part}
use Rattle.disk.specs.Crashes.{Only}
use Rattle.disk_shelf.specs.Seals.{behind}
use Rattle.disk_shelf.specs.Shelf.{half, opened, record_of, recorded, side}

-- These batches follow one another, each behind an odd gate; an even gate ends them. What follows
-- is ignored.
abbrev pub HasLog : List (List ℕ) → List ℕ → Type 0
HasLog [] rest = side rest ≡ Some false
HasLog (batch ∷ more) rest =
    (side rest ≡ Some true)
    × (recorded (drop 1 rest) ≡ Some batch)
    × HasLog more (drop (9 + length batch) rest)

-- what the gate in front says: no batch follows, or this one
abbrev pub IsNext : List ℕ → Option (Vec ℕ Global) → Type 0
IsNext rest None = side rest ≡ Some false
IsNext rest (Some batch) =
    (side rest ≡ Some true) × (recorded (drop 1 rest) ≡ Some batch.items)

-- what is written for an image or a batch: its record, an even gate, and what is ignored
abbrev pub IsShut : List ℕ → List ℕ → Type 0
IsShut image bytes = bytes ≡ record_of image ++ 0 ∷ drop (9 + length image) bytes

-- what is written for an image that a log follows or not, with a seal or without
abbrev pub IsSpelled : Bool → Bool → List ℕ → List ℕ → Type 0
IsSpelled true seals image bytes = IsShut image bytes
IsSpelled false seals image bytes = bytes ≡ record_of image ++ behind seals image

-- an area holds this image, and these batches right behind it
abbrev pub IsLogged : List ℕ → List (List ℕ) → List ℕ → Type 0
IsLogged image batches held =
    (recorded held ≡ Some image) × HasLog batches (drop (8 + length image) held)

-- the same if a log follows the image; if none does, there are no batches, and what follows is
-- ignored
abbrev pub IsLoggedIf : Bool → List ℕ → List (List ℕ) → List ℕ → Type 0
IsLoggedIf true image batches held = IsLogged image batches held
IsLoggedIf false image batches held = (recorded held ≡ Some image) × (batches ≡ [])

-- the selected area holds this image, and these batches behind it if a log follows the image
pub record OpensIf (logged : Bool) (image : List ℕ) (batches : List (List ℕ)) (d : Areas) : Type 0
  where
    pub in_b : Bool
    pub selected : side d.select ≡ Some in_b
    pub holds : IsLoggedIf logged image batches (part (half in_b) d)

-- the disk opens to this image and these batches
abbrev pub Opens : List ℕ → List (List ℕ) → Areas → Type 0
Opens image batches d = OpensIf true image batches d

-- how many bytes the gates and the batches behind them have, without the last gate
abbrev pub log_length : List (List ℕ) → ℕ
log_length [] = 0
log_length (batch ∷ more) = 9 + length batch + log_length more

-- the last gate of a log is at this offset of an area
pub record EndsAt (end : ℕ) (held : List ℕ) : Type 0 where
  pub image : List ℕ
  pub batches : List (List ℕ)
  pub logged : IsLogged image batches held
  pub offset : end ≡ 8 + length image + log_length batches

-- the disk opens to the old image and batches or to the new ones
abbrev pub OldOrNewLog : List ℕ → List (List ℕ) → List ℕ → List (List ℕ) → Areas → Type 0
OldOrNewLog old before new after c = Opens old before c ⊎ Opens new after c

-- the disk opens to an old image and its batches, or to the new image and none
abbrev pub OldOrWhole : Bool → List ℕ → List (List ℕ) → Bool → List ℕ → Areas → Type 0
OldOrWhole was old before logged new c = OpensIf was old before c ⊎ OpensIf logged new [] c

-- the disk is blank, or opens to the new image, and no batch
abbrev pub NoneOrWhole : Bool → List ℕ → Areas → Type 0
NoneOrWhole logged new c = IsBlank c ⊎ OpensIf logged new [] c

-- a crash leaves what a read gives, this side is selected, and the log of its area ends there
abbrev pub IsLoggedTo : {D : Type 0} (seen : D → Areas) (may_leave : D → Areas → Type 0) →
    D → Bool → ℕ → Type 0
IsLoggedTo seen may_leave disk in_b end =
    Only (seen disk) (may_leave disk)
    × (side (seen disk).select ≡ Some in_b)
    × ∥ EndsAt end (part (half in_b) (seen disk)) ∥₁

-- a crash leaves what a read gives, and this side is selected, with this image and no batch
abbrev pub IsWholeOn : {D : Type 0} (seen : D → Areas) (may_leave : D → Areas → Type 0) →
    D → Bool → Bool → List ℕ → Type 0
IsWholeOn seen may_leave disk in_b logged image =
    Only (seen disk) (may_leave disk)
    × (side (seen disk).select ≡ Some in_b)
    × IsLoggedIf logged image [] (part (half in_b) (seen disk))

-- no log follows the image that the disk opens to
abbrev pub IsPlain : (List ℕ → Bool) → Areas → Type 0
IsPlain logs c = (image : List ℕ) → opened c ≡ Some image → logs image ≡ false

-- nor the image in what a crash leaves
abbrev pub StaysPlain : (List ℕ → Bool) → (Areas → Type 0) → Type 0
StaysPlain logs may_leave = (c : Areas) → may_leave c → IsPlain logs c

-- ---- values

-- the disk opens to this image and these batches, if these are the images that a log follows
abbrev pub Found : (List ℕ → Bool) → List ℕ → List (List ℕ) → Areas → Type 0
Found logs image batches d = OpensIf (logs image) image batches d

-- these batches, one after another, lead from the one value to the other
abbrev pub LeadAll : {V : Type 0} → (List ℕ → V → V → Type 0) → List (List ℕ) → V → V → Type 0
LeadAll leads [] first last = first ≡ last
LeadAll {V} leads (batch ∷ more) first last =
    (next : V) × leads batch first next × LeadAll leads more next last

-- these batches are between the two offsets of an area, with a gate that ends them, and lead from
-- the one value to the other
pub record Reached {V : Type 0} (leads : List ℕ → V → V → Type 0) (at end : ℕ)
    (batches : List (List ℕ)) (held : List ℕ) (first last : V) : Type 0 where
  pub log : HasLog batches (drop at held)
  pub offset : end ≡ at + log_length batches
  pub led : LeadAll leads batches first last

-- the disk opens to an image, and the batches behind it lead from what the image is read as to this
-- value
pub record Restores {V : Type 0} (logs : List ℕ → Bool) (reads : List ℕ → V → Type 0)
    (leads : List ℕ → V → V → Type 0) (value : V) (d : Areas) : Type 0 where
  pub image : List ℕ
  pub batches : List (List ℕ)
  pub first : V
  pub found : Found logs image batches d
  pub read : reads image first
  pub led : LeadAll leads batches first value

-- if the last gate of the log is at an offset, the log is that of an image that a log follows
abbrev pub IsBehind : (List ℕ → Bool) → Option ℕ → List ℕ → Type 0
IsBehind logs last held =
    (end : ℕ) → last ≡ Some end → ∥ EndsAt end held ∥₁
    × ((image : List ℕ) → recorded held ≡ Some image → logs image ≡ true)

-- a crash leaves what a read gives, this side is selected, it holds an image, and there the log
-- ends
pub record IsKept {D : Type 0} (seen : D → Areas) (may_leave : D → Areas → Type 0)
    (logs : List ℕ → Bool) (disk : D) (in_b : Bool) (last : Option ℕ) : Type 0 where
  pub only : Only (seen disk) (may_leave disk)
  pub selected : side (seen disk).select ≡ Some in_b
  pub holds : is_some (recorded (part (half in_b) (seen disk))) ≡ true
  pub behind : IsBehind logs last (part (half in_b) (seen disk))
