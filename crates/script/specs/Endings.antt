-- A text that is written from its last byte to its first.
use Rattle.std.specs.Prelude.{◌≡◌, ℕ, List, ◌++◌, drop}
use Rattle.script.specs.declared.ending.Ending.{Ending}

-- the text so far
abbrev pub held : Ending → List ℕ
held e = drop e.start e.bytes

-- a text was put before what was there
abbrev pub Grows : List ℕ → Ending → Ending → Type 0
Grows text old new = held new ≡ text ++ held old
