-- Seals: digests behind an image or a log, in bytes that are ignored when a disk opens to a value,
-- and what the selector says of them. They don't change what a disk opens to, but show whether that
-- was changed.
use Rattle.std.specs.Prelude.{◌≡◌, ◌⊎◌, ℕ, ◌<◌, ◌+◌, Bool, true, false, List, [], ◌∷◌, ◌++◌}
use Rattle.std.specs.Prelude.{Option, Some, None, Vec, codes, drop, length, take}
use Rattle.std.specs.declared.alloc.Global.{Global}
use Rattle.md5.specs.Md5.{md5}
use Rattle.disk.specs.Areas.{Areas, part}
use Rattle.disk_shelf.specs.Shelf.{half, record_of, recorded, TellsLength, told}
use Rattle.disk_shelf.specs.declared.seal.Marked.{Marked}
use Rattle.disk_shelf.specs.declared.seal.Marked.TheVariants as marked

-- The selector's byte for a side. With a seal it has other bits, and the same parity: one byte for
-- an image without a log, another one for a log.
abbrev pub mark_of : Bool → Bool → ℕ
mark_of false false = 0
mark_of false true = 1
mark_of true false = 0xAA
mark_of true true = 0x55

abbrev pub log_mark_of : Bool → Bool → ℕ
log_mark_of false in_b = mark_of false in_b
log_mark_of true false = 0xCC
log_mark_of true true = 0x33

-- what the gate before a batch becomes: with a seal it has other bits, and is odd too
abbrev pub gate_of : Bool → ℕ
gate_of false = 1
gate_of true = 0xFF

-- what a seal begins with
abbrev pub seal_head : List ℕ
seal_head = codes "markring seal 01"

-- ---- images

-- The seal of an image: the digest of what is written for the image, its length and itself. It
-- shows accidents, and not what somebody made on purpose: other images with the same MD5 can be
-- made.
abbrev pub seal_of : List ℕ → List ℕ
seal_of image = seal_head ++ md5 (record_of image)

-- what is written behind an image
abbrev pub behind : Bool → List ℕ → List ℕ
behind false image = []
behind true image = seal_of image

-- an area holds an image with its seal behind it
pub record IsSealed (held : List ℕ) : Type 0 where
  pub image : List ℕ
  pub holds : recorded held ≡ Some image
  pub seal : take 32 (drop (8 + length image) held) ≡ seal_of image

-- ---- logs

abbrev pub first_of : List ℕ → Option ℕ
first_of [] = None
first_of (x ∷ rest) = Some x

-- the digest of a log with one more batch
abbrev pub link : List ℕ → List ℕ → List ℕ
link digest batch = md5 (digest ++ record_of batch)

-- the seal of a log: its digest before the last batch, the one with it, and a check of the two
abbrev pub log_seal : List ℕ → List ℕ → List ℕ
log_seal before now = seal_head ++ (before ++ (now ++ md5 (before ++ now)))

-- these 64 bytes are the seal of a log, with these two digests
pub record IsLogSeal (seal : List ℕ) : Type 0 where
  pub long : length seal ≡ 64
  pub head : take 16 seal ≡ seal_head
  pub check : take 16 (drop 48 seal) ≡ md5 (take 32 (drop 16 seal))

abbrev pub before_in : List ℕ → List ℕ
before_in seal = take 16 (drop 16 seal)

abbrev pub now_in : List ℕ → List ℕ
now_in seal = take 16 (drop 32 seal)

-- a whole seal that was found in front, or none
abbrev pub IsSealFound : List ℕ → Option (List ℕ) → Type 0
IsSealFound rest None = IsLogSeal (take 64 rest) → ⊥
IsSealFound rest (Some seal) = (take 64 rest ≡ seal) × IsLogSeal seal

-- Behind a batch whose gate wasn't opened is the digest of the log before that batch, if a whole
-- seal is there.
abbrev pub IsNextSealed : List ℕ → List ℕ → Type 0
IsNextSealed digest behind =
    TellsLength behind → first_of (drop (8 + told behind) behind) ≡ Some 0 →
    IsLogSeal (take 64 (drop (9 + told behind) behind)) →
    before_in (take 64 (drop (9 + told behind) behind)) ≡ digest

-- What is behind the last gate of a log of this digest: its seal; or a batch whose gate wasn't
-- opened, and a seal that has the digest of the log before that batch. If neither seal is whole, a
-- write was stopped there, and nothing is known.
pub record IsEndSealed (digest behind : List ℕ) : Type 0 where
  pub here : IsLogSeal (take 64 behind) → now_in (take 64 behind) ≡ digest
  pub next : (IsLogSeal (take 64 behind) → ⊥) → IsNextSealed digest behind

-- what the gate in front says: another batch with a seal follows, or none
abbrev pub IsSealedBatch : List ℕ → Option (Vec ℕ Global) → Type 0
IsSealedBatch rest None = first_of rest ≡ Some 0xFF → ⊥
IsSealedBatch rest (Some batch) =
    (first_of rest ≡ Some 0xFF) × (recorded (drop 1 rest) ≡ Some batch.items)

-- These batches follow one another, each behind a gate that says that it has a seal. Behind the
-- gate that ends the log is the seal of all. A gate of an earlier program ends what has a seal.
abbrev pub AreSealed : List (List ℕ) → List ℕ → List ℕ → Type 0
AreSealed [] digest rest =
    (first_of rest ≡ Some 1) ⊎ ((first_of rest ≡ Some 0) × IsEndSealed digest (drop 1 rest))
AreSealed (batch ∷ more) digest rest =
    (first_of rest ≡ Some 0xFF)
    × (recorded (drop 1 rest) ≡ Some batch)
    × AreSealed more (link digest batch) (drop (9 + length batch) rest)

-- the same for some batches
abbrev pub SomeSealed : List ℕ → List ℕ → Type 0
SomeSealed digest rest = (batches : List (List ℕ)) × AreSealed batches digest rest

-- an area holds an image, and a log with its seals behind it
pub record IsLogSealed (held : List ℕ) : Type 0 where
  pub image : List ℕ
  pub holds : recorded held ≡ Some image
  pub log : SomeSealed (md5 (record_of image)) (drop (8 + length image) held)

-- ---- disks

-- what the selector's byte says of seals
abbrev pub IsMark : ℕ → Marked → Type 0
IsMark mark marked.Unsealed = mark < 2
IsMark mark (marked.Image in_b) = mark ≡ mark_of true in_b
IsMark mark (marked.Log in_b) = mark ≡ log_mark_of true in_b
IsMark mark marked.Unknown =
    (mark < 2 → ⊥)
    × (((in_b : Bool) → mark ≡ mark_of true in_b → ⊥)
    × ((in_b : Bool) → mark ≡ log_mark_of true in_b → ⊥))

-- what the selector's byte says holds: that there is no seal, or which seal is on the byte's side
abbrev pub IsMarked : ℕ → Areas → Type 0
IsMarked mark d =
    (mark < 2)
    ⊎ (((in_b : Bool) × (mark ≡ mark_of true in_b) × IsSealed (part (half in_b) d))
    ⊎ ((in_b : Bool) × (mark ≡ log_mark_of true in_b) × IsLogSealed (part (half in_b) d)))

-- Nothing that counts was changed, as far as seals show it. Without a seal they show nothing.
abbrev pub IsIntact : Areas → Type 0
IsIntact d = (mark : ℕ) → first_of d.select ≡ Some mark → IsMarked mark d
