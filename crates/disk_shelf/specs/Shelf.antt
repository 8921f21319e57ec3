-- How a disk holds values: what an area holds, and which of the two areas counts.
use Rattle.std.specs.Prelude.{◌≡◌, ◌⊎◌, ℕ, ◌<◌, ◌≤◌, ◌+◌, ◌-◌, ◌%◌, ◌==◌, leb, Bool, true, false, ◌&&◌}
use Rattle.std.specs.Prelude.{List, [], ◌∷◌, ◌++◌, length, take, drop}
use Rattle.std.specs.Prelude.{Option, Some, None, is_some, if◌then◌else◌, IsTrue}
use Rattle.std.specs.Int.{w64, to_be_bytes, from_be_bytes}
use Rattle.ids.specs.declared.limits.TheConstants.{GREATEST_IMAGE}
use Rattle.disk_shelf.specs.declared.persist.TheConstants.{GREATEST_SAVED}
use Rattle.disk.specs.Areas.{Areas, IsBlank, part}
use Rattle.disk.specs.Crashes.{Only}
use Rattle.disk.specs.declared.device.Area.{Area}
use Rattle.disk.specs.declared.device.Area.TheVariants.{A, B}

-- the length that the first eight bytes of an area say, big-endian
unfoldable pub told : List ℕ → ℕ
told held = from_be_bytes w64 (take 8 held)

-- The image that an area holds: as many bytes as the length says, right after that length. What
-- follows is ignored. An area that is too short, or says a length greater than anything saved has,
-- holds no image.
unfoldable pub recorded : List ℕ → Option (List ℕ)
recorded held =
    if leb 8 (length held) && leb (told held) GREATEST_SAVED && leb (told held + 8) (length held)
    then Some (take (told held) (drop 8 held))
    else None

-- An image that an area says to be that long may be there. If it is longer than `GREATEST_IMAGE`,
-- all of its bytes are.
pub record IsLength (len : ℕ) (held : List ℕ) : Type 0 where
  pub most : len ≤ GREATEST_SAVED
  pub there : GREATEST_IMAGE < len → len + 8 ≤ length held

-- an area says how long its image is, and an image may have that length
abbrev pub TellsLength : List ℕ → Type 0
TellsLength held = (8 ≤ length held) × IsLength (told held) held

-- what is written for an image
unfoldable pub record_of : List ℕ → List ℕ
record_of image = to_be_bytes w64 (length image) ++ image

-- a buffer is filled from this offset on, if there are enough bytes
pub record IsWhole (held : List ℕ) (at : ℕ) (all : Bool) (old new : List ℕ) : Type 0 where
  pub enough : IsTrue all → length old ≤ length held - at
  pub bytes : IsTrue all → new ≡ take (length old) (drop at held)
  pub short : (all ≡ false) → length held < at + length old

-- which area the selector selects: an odd byte selects B (true), an even one A; none if it is empty
abbrev pub side : List ℕ → Option Bool
side [] = None
side (s ∷ rest) = Some (s % 2 == 1)

-- the area on this side
abbrev pub half : Bool → Area
half true = B
half false = A

abbrev pub image_at : Option Bool → Areas → Option (List ℕ)
image_at None d = None
image_at (Some true) d = recorded d.b
image_at (Some false) d = recorded d.a

-- the image that a disk opens to: that of the selected area
abbrev pub opened : Areas → Option (List ℕ)
opened d = image_at (side d.select) d

-- an area is selected, and it says how long its image is
abbrev pub SelectsLength : Areas → Type 0
SelectsLength d =
    (in_b : Bool) × (side d.select ≡ Some in_b) × TellsLength (part (half in_b) d)

-- the disk opens to this image
abbrev pub OpensTo : List ℕ → Areas → Type 0
OpensTo image d = opened d ≡ Some image

-- the disk opens to an image that is read as this value
abbrev pub OpensAs : {V : Type 0} → (List ℕ → V → Type 0) → V → Areas → Type 0
OpensAs reads value d = (image : List ℕ) × OpensTo image d × reads image value
