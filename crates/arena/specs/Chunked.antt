-- How the items of a `Store` are laid out in chunks. No public clause cites this module.
use Rattle.std.specs.Prelude.{◌≡◌, ◌<◌, ◌≤◌, List, [], ◌∷◌, ◌++◌, length, ⊤}
use Rattle.arena.specs.Row.{Row}
use Rattle.arena.specs.declared.root.Root.{Root}
use Rattle.arena.specs.declared.root.Root.TheVariants.{Absent, Present}
use Rattle.arena.specs.declared.root.TheConstants.{CHUNK}

module _ {E : Type 0} where
  abbrev pub chunks_of : Root E → List (Row E)
  chunks_of Absent = []
  chunks_of (Present root) = root.items

  abbrev pub IsPresent : Root E → Type 0
  IsPresent Absent = ⊥
  IsPresent (Present root) = ⊤

  -- these chunks are there, with room for one more
  abbrev pub HasRoom : Root E → List (Row E) → Type 0
  HasRoom Absent cs = ⊥
  HasRoom (Present root) cs = (root.items ≡ cs) × (length root.items < root.capacity)

  -- all items, in their order
  abbrev pub flat : List (Row E) → List E
  flat [] = []
  flat (c ∷ cs) = c.items ++ flat cs

  -- every chunk has the same capacity, none is empty, and all except the last are full
  abbrev pub IsPacked : List (Row E) → Type 0
  IsPacked [] = ⊤
  IsPacked (c ∷ cs) =
      (c.capacity ≡ CHUNK) × (0 < length c.items) × (length c.items ≤ CHUNK)
      × (0 < length (flat cs) → length c.items ≡ CHUNK) × IsPacked cs
