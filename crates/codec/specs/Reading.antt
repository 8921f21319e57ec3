-- What the code reads, and the laws of a format.
use Rattle.std.specs.Prelude.{◌≡◌, ◌≢◌, ◌<◌, ◌^◌, ◌++◌, ℕ, List, length, slice_index, Option, Some, None}
use Rattle.std.specs.Prelude.{Result, Ok, Err}
use Rattle.ids.specs.declared.refusal.Refusal.{Refusal}
use Rattle.ids.specs.declared.refusal.Refusal.TheVariants.{Memory, BadImage}
use Rattle.codec.specs.Formats.{Format, Fits}

-- What a function returned, seen through `view`, is what reading gives; or memory ran out.
abbrev pub Gives : {X Y : Type 0} → (X → Y) → Result X Refusal → Option Y → Type 0
Gives view (Ok x) read = read ≡ Some (view x)
Gives view (Err e) read = e ≢ Memory → (e ≡ BadImage) × (read ≡ None)

abbrev pub IsBytes : List ℕ → Type 0
IsBytes bytes = (i : ℕ) → slice_index bytes i < 2 ^ 8

-- a value that was taken from the front of the bytes
pub record Took {A : Type 0} (F : Format A) (bytes : List ℕ) (x : A × List ℕ) : Type 0 where
  pub parts : bytes ≡ F.spell x.0 ++ x.1
  pub rest : IsBytes x.1
  pub fits : Fits F x.0

-- What is read has that spelling, and what has a spelling is read, whatever follows it. So no
-- spelling is a prefix of another one.
pub record IsSound {A : Type 0} (F : Format A) : Type 0 where
  pub takes : (bytes : List ℕ) (x : A × List ℕ) → IsBytes bytes → F.read bytes ≡ Some x
      → Took F bytes x
  pub again : (a : A) (rest : List ℕ) → Fits F a → F.read (F.spell a ++ rest) ≡ Some (a, rest)

-- each spelling has at least one byte
abbrev pub IsLong : {A : Type 0} → Format A → Type 0
IsLong {A = A} F = (a : A) → 0 < length (F.spell a)
