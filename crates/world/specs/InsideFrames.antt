-- How one buffer holds its frames.
use Rattle.std.specs.Prelude.{◌≡◌, ℕ, ◌≤◌, List, [], ◌∷◌, length, slice_range}
use Rattle.world.specs.declared.packed.Frames.TheInside.{Inside}

-- the parts of the bytes that end at these offsets; the first part begins at `from`
abbrev pub cut_at : List ℕ → ℕ → List ℕ → List (List ℕ)
cut_at bytes from [] = []
cut_at bytes from (end ∷ ends) = slice_range bytes from end ∷ cut_at bytes end ends

-- no part ends before it begins, and the last one ends at `all`
abbrev pub AreEnds : (from all : ℕ) → List ℕ → Type 0
AreEnds from all [] = from ≡ all
AreEnds from all (end ∷ ends) = (from ≤ end) × AreEnds end all ends

abbrev pub view_of : Inside → List (List ℕ)
view_of f = cut_at f.bytes.items 0 f.ends.items

abbrev pub IsCut : Inside → Type 0
IsCut f = AreEnds 0 (length f.bytes.items) f.ends.items
