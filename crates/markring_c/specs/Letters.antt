-- A letter that goes into a buffer and into registers.
use Rattle.std.specs.Prelude.{◌≡◌, ℕ, ℤ, List, Option, Result, Ok, Err}
use Rattle.c_values.specs.Bytes.{WroteIf}
use Rattle.c_values.specs.Faults.{status_of}
use Rattle.c_values.specs.declared.fault.Fault.{Fault}
use Rattle.c_values.specs.declared.fields.CAnswer.{CAnswer}

-- the event, once the bytes were written; else the letter stays, and nothing changes but the buffer
abbrev pub ThenAccepts : {X : Type 0}
    → (Option X → Option X → ℤ → CAnswer → CAnswer → Type 0) → Option X → Option X
    → Result (Unit {0}) Fault → ℤ → CAnswer → CAnswer → Type 0
ThenAccepts Accepts old new (Ok u) s before after = Accepts old new s before after
ThenAccepts Accepts old new (Err f) s before after =
    (new ≡ old) × (s ≡ status_of f) × (after ≡ before)

-- a buffer, and how much room is needed, before and after
pub record Room : Type 0 where
  pub before : List ℕ
  pub after : List ℕ
  pub needed : ℕ
  pub needs : ℕ

-- The letter's bytes were written into the buffer, and then the letter was accepted.
pub record AcceptsInto {X : Type 0} (letter : Result (List ℕ) Fault) (room : Room)
    (Accepts : Option X → Option X → ℤ → CAnswer → CAnswer → Type 0) (old new : Option X) (s : ℤ)
    (before after : CAnswer) : Type 0 where
  pub wrote : Result (Unit {0}) Fault
  pub bytes : WroteIf letter wrote room.before room.after room.needed room.needs
  pub accepts : ThenAccepts Accepts old new wrote s before after
