-- What a crash leaves of a value that is saved.
use Rattle.std.specs.Prelude.{◌⊎◌, Bool, List, ℕ}
use Rattle.disk.specs.Areas.{Areas, IsBlank}
use Rattle.disk_shelf.specs.Logs.{Restores}

-- the disk is blank, or opens to this value
abbrev pub RestoresNone : {V : Type 0} → (List ℕ → Bool) → (List ℕ → V → Type 0)
    → (List ℕ → V → V → Type 0) → V → Areas → Type 0
RestoresNone logs reads leads value c = IsBlank c ⊎ Restores logs reads leads value c

-- the disk opens to the old value or to the new one
abbrev pub RestoresEither : {V : Type 0} → (List ℕ → Bool) → (List ℕ → V → Type 0)
    → (List ℕ → V → V → Type 0) → V → V → Areas → Type 0
RestoresEither logs reads leads old new c =
    Restores logs reads leads old c ⊎ Restores logs reads leads new c
