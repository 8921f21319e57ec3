-- What a reader has read.
use Rattle.std.specs.Prelude.{◌≡◌, ◌==◌, ℕ, List, length, Bool, true, false, nat_lt, ⊤}
use Rattle.std.specs.Prelude.{Option, Some, None, if◌then◌else◌}
use Rattle.std.specs.Option.{option_map}
use Rattle.codec.specs.declared.reader.Reader.{Reader}
use Rattle.codec.specs.Formats as codec
use Rattle.codec.specs.Formats.{Format, ◌>>=◌}

-- what is left, or nothing once it has failed
abbrev pub left : Reader → Option (List ℕ)
left r = option_map (λ b. b.now) r.rest

abbrev pub open_of : Option (List ℕ) → Bool
open_of None = false
open_of (Some rest) = true

-- whether it has not failed
abbrev pub is_open : Reader → Bool
is_open r = open_of (left r)

abbrev pub whole_of : Option (List ℕ) → Bool
whole_of None = false
whole_of (Some rest) = length rest == 0

-- whether it has not failed, and has read everything
abbrev pub is_whole : Reader → Bool
is_whole r = whole_of (left r)

-- a value, and what is left after it
abbrev pub with_rest : {A : Type 0} → A → Option (List ℕ) → Option (A × List ℕ)
with_rest x rest = rest >>= λ bytes. Some (x, bytes)

-- The value is what the format reads from what was left before, and what is left now is the rest.
-- If the format reads no value, or the reader had failed before, the reader has failed.
pub record Reads {A : Type 0} (F : Format A) (old new : Reader) (x : A) : Type 0 where
  pub is : (left old >>= F.read) ≡ with_rest x (left new)

-- The same for a function that takes a value. If it takes none, the code returns no value, or the
-- reader has failed.
pub record Takes {A : Type 0} (read : codec.Reader A) (old new : Reader) (o : Option A) : Type 0
  where
    pub is : (left old >>= read) ≡ (o >>= λ x. with_rest x (left new))

-- at least this many bytes
abbrev pub enough : ℕ → codec.Reader ⊤
enough n bytes = if nat_lt (length bytes) n then None else Some (tt, bytes)

-- a test
abbrev pub passing : Bool → codec.Reader ⊤
passing b bytes = if b then Some (tt, bytes) else None
