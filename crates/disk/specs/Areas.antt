-- The three areas of a disk, and what reads and writes do to one.
use Rattle.std.specs.Prelude.{◌≡◌, ℕ, ◌+◌, ◌-◌, ◌≤◌, min, max, List, [], ◌++◌, length, take, drop}
use Rattle.disk.specs.declared.device.Area.{Area}
use Rattle.disk.specs.declared.device.Area.TheVariants.{Select, A, B}

-- the bytes that the areas hold
pub record Areas : Type 0 where
  pub select : List ℕ
  pub a : List ℕ
  pub b : List ℕ

-- nothing was ever created on a disk: its selector is empty
abbrev pub IsBlank : Areas → Type 0
IsBlank d = d.select ≡ []

-- the bytes of one area
abbrev pub part : Area → Areas → List ℕ
part Select d = d.select
part A d = d.a
part B d = d.b

-- one area with its bytes replaced
abbrev pub with_part : Area → List ℕ → Areas → Areas
with_part Select bytes d = record { select = bytes; a = d.a; b = d.b }
with_part A bytes d = record { select = d.select; a = bytes; b = d.b }
with_part B bytes d = record { select = d.select; a = d.a; b = bytes }

-- one area takes a step, and the others stay the same
abbrev pub Changes : Area → (List ℕ → List ℕ → Type 0) → Areas → Areas → Type 0
Changes Select step old new =
    step old.select new.select × (new.a ≡ old.a) × (new.b ≡ old.b)
Changes A step old new =
    step old.a new.a × (new.select ≡ old.select) × (new.b ≡ old.b)
Changes B step old new =
    step old.b new.b × (new.select ≡ old.select) × (new.a ≡ old.a)

-- these bytes at this offset, over what was there
abbrev pub pasted : ℕ → List ℕ → List ℕ → List ℕ
pasted at bytes old = take at old ++ bytes ++ drop (at + length bytes) old

-- the new bytes are the old ones with these at this offset
abbrev pub Holds : ℕ → List ℕ → List ℕ → List ℕ → Type 0
Holds at bytes old new = new ≡ pasted at bytes old

-- A torn write. Any bytes may be in the range of n bytes from this offset on, and the part of it
-- past the old end may be missing from some byte on. Elsewhere the bytes stay the same.
pub record Torn (at n : ℕ) (old new : List ℕ) : Type 0 where
  pub before : take at new ≡ take at old
  pub after : drop (at + n) new ≡ drop (at + n) old
  pub no_shorter : length old ≤ length new
  pub no_longer : length new ≤ max (length old) (at + n)

-- none of these areas is longer than that of the disk
pub record NoLonger (held c : Areas) : Type 0 where
  pub select : length c.select ≤ length held.select
  pub a : length c.a ≤ length held.a
  pub b : length c.b ≤ length held.b

-- n bytes are read into the front of a buffer: as many as fit, or as there are from this offset on
pub record Reads (held : List ℕ) (at n : ℕ) (old new : List ℕ) : Type 0 where
  pub count : n ≡ min (length old) (length held - at)
  pub bytes : new ≡ take n (drop at held) ++ drop n old
