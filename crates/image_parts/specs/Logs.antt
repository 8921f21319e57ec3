-- Images that a log of events follows. Such an image has the next number in the place of the
-- version: 3 for version 2, and 5 for version 4.
use Rattle.std.specs.Prelude.{ℕ, ◌+◌, ◌-◌, ◌==◌, ◌&&◌, ◌||◌, List, ◌∷◌, Bool, false, drop, Option}
use Rattle.std.specs.Prelude.{None, if◌then◌else◌}
use Rattle.codec.specs.Formats.{whole_at}
use Rattle.image_parts.specs.Grammar.{Stored, behind_format}
use Rattle.image_parts.specs.declared.layout.Layout.{Layout}

-- the bytes begin with `MR` and the number 3 or 5
abbrev pub begins_logged : List ℕ → Bool
begins_logged (a ∷ b ∷ v ∷ rest) = a == 0x4D && (b == 0x52 && (v == 3 || v == 5))
begins_logged others = false

-- the number of the version that they would have if no log followed
abbrev pub version_in : List ℕ → ℕ
version_in (a ∷ b ∷ v ∷ rest) = v - 1
version_in others = 0

-- the same bytes with that version
abbrev pub unlogged : List ℕ → List ℕ
unlogged (a ∷ b ∷ v ∷ rest) = a ∷ b ∷ (v - 1) ∷ rest
unlogged others = others

-- the same bytes with the next version
abbrev pub logged : List ℕ → List ℕ
logged (a ∷ b ∷ v ∷ rest) = a ∷ b ∷ (v + 1) ∷ rest
logged others = others

-- what the bytes say behind that number
unfoldable pub logged_at : List ℕ → Option (Layout × Stored)
logged_at bytes =
    if begins_logged bytes
    then whole_at (behind_format (version_in bytes)).read (drop 3 bytes)
    else None
