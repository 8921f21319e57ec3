-- How the writes of a disk in memory are undone.
use Rattle.std.specs.Prelude.{◌≡◌, ℕ, List, [], ◌∷◌, length, take, drop, leb, if◌then◌else◌}
use Rattle.disk.specs.Areas.{Areas, part, with_part, pasted, Changes, Torn}
use Rattle.disk.specs.declared.device.Area.{Area}
use Rattle.disk.specs.declared.undo.Undo.{Undo}

-- this is what a write of n bytes at this offset replaces
pub record IsUndo (area : Area) (offset n : ℕ) (d : Areas) (u : Undo) : Type 0 where
  pub same : u.area ≡ area
  pub from : u.at ≡ offset
  pub old : u.old.items ≡ take n (drop offset (part area d))
  pub len : u.len ≡ length (part area d)

-- the old bytes are back in an area, and it is as long as it was
abbrev pub undone_in : Undo → List ℕ → List ℕ
undone_in u held = take u.len (pasted u.at u.old.items held)

-- one write is undone
abbrev pub undone_by : Undo → Areas → Areas
undone_by u d =
    if leb u.at (length (part u.area d))
    then with_part u.area (undone_in u (part u.area d)) d
    else d

-- all of them are undone, from the last one on
abbrev pub undone : List Undo → Areas → Areas
undone [] d = d
undone (u ∷ rest) d = undone_by u (undone rest d)

-- These undo all writes since the last sync, when the disk held `last`, and with them any write
-- that now follows in the range of n bytes from this offset on.
abbrev pub IsUndone : Area → ℕ → ℕ → List Undo → Areas → Areas → Type 0
IsUndone area at n undo d last =
    (d' : Areas) → Changes area (Torn at n) d d' → undone undo d' ≡ last
