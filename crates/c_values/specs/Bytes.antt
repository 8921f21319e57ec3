-- Bytes that are written into a buffer of the caller's.
use Rattle.std.specs.Prelude.{◌≡◌, ℕ, ◌<◌, ◌≤◌, List, ◌++◌, drop, length, Result, Ok, Err}
use Rattle.c_values.specs.declared.fault.Fault.{Fault}
use Rattle.c_values.specs.declared.fault.Fault.TheVariants as fault

-- The bytes are at the front of the buffer, or they are too many and it is as before. `needed` is
-- their number.
abbrev pub Wrote : List ℕ → Result (Unit {0}) Fault → List ℕ → List ℕ → ℕ → Type 0
Wrote bytes (Ok u) old new needed =
    (length bytes ≤ length old) × (new ≡ bytes ++ drop (length bytes) old)
    × (needed ≡ length bytes)
Wrote bytes (Err fault.ShortBuffer) old new needed =
    (length old < length bytes) × (new ≡ old) × (needed ≡ length bytes)
Wrote bytes (Err e) old new needed = ⊥

-- The bytes of a result are written, or it is a fault and nothing is.
abbrev pub WroteIf : Result (List ℕ) Fault → Result (Unit {0}) Fault → List ℕ → List ℕ → ℕ → ℕ
    → Type 0
WroteIf (Ok bytes) r old new before needed = Wrote bytes r old new needed
WroteIf (Err e) r old new before needed = (r ≡ Err e) × (new ≡ old) × (needed ≡ before)
