-- The texts of references.
use Rattle.std.specs.Prelude.{List, ℕ, ◌++◌, Option, Some, None, codes, decimal}
use Rattle.ids.specs.declared.names.Ref.{Ref}

-- a reference: its node, slot and generation, separated by dots
abbrev pub reference_text : Ref → List ℕ
reference_text r =
    decimal r.node ++ (codes "." ++ (decimal r.slot ++ (codes "." ++ decimal r.generation)))

-- a reference, or a dash if there is no reference
abbrev pub optional_text : Option Ref → List ℕ
optional_text None = codes "-"
optional_text (Some r) = reference_text r
