-- Which process made a save, as far as a line knows.
use Rattle.std.specs.Prelude.{ℕ, ◌+◌, ◌/◌, ◌==◌, ◌||◌, cond, nat_le, nat_lt, List, [], ◌∷◌, ◌++◌, length, take, drop, slice_index_or}
use Rattle.lineage.specs.declared.Ancestor.{Ancestor}
use Rattle.lineage.specs.declared.Verdict.{Verdict}
use Rattle.lineage.specs.declared.Verdict.TheVariants.{Known, Fits, Older}

-- the nonce of the last one that had begun by this save, or the first number
abbrev pub maker_or : ℕ → List Ancestor → ℕ → ℕ
maker_or none [] save = none
maker_or none (a ∷ others) save =
    maker_or (cond (nat_le a.run save) a.nonce none) others save

abbrev pub maker : List Ancestor → ℕ → ℕ
maker line save = maker_or 0 line save

-- the word that `known` made this save, to the process `own`, whose last save is `stored`
abbrev pub judged : List Ancestor → (own stored known save : ℕ) → Verdict
judged line own stored known save =
    cond (known == own) (cond (nat_le save stored) Known Older)
    (cond (known == 0) Fits
    (cond ((maker line save == 0) || (maker line save == known)) Fits Older))

-- from the one at this place on, nobody knows who made the saves
abbrev pub nobody : Ancestor
nobody = record { nonce = 0; run = 0 }

abbrev pub forgotten : List Ancestor → ℕ → Ancestor
forgotten line at = record { nonce = 0; run = (slice_index_or line at nobody).run }

-- without the one in the middle and the next one: nobody knows who made their saves
abbrev pub shortened : List Ancestor → List Ancestor
shortened line =
    take (length line / 2) line ++ forgotten line (length line / 2)
    ∷ drop (length line / 2 + 2) line

-- a process began, and there is room for this many
abbrev pub begun : ℕ → List Ancestor → Ancestor → List Ancestor
begun room line a =
    cond (nat_lt (length line) room) (line ++ a ∷ [])
    (cond (nat_lt room 3) [] (shortened line ++ a ∷ []))
