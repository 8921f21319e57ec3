-- What calls do with bytes.
use Rattle.std.specs.Prelude.{◌≡◌, ◌≤◌, ◌<◌, ◌+◌, ◌-◌, ℕ, List, ◌++◌, length, drop, cond, nat_le, Option, Some}
use Rattle.std.specs.Option.{option_map}
use Rattle.codec.specs.Formats.{Format}
use Rattle.packets.specs.Formats.{length_format}

-- A text was put at the front of bytes, if there is room for it, and the rest stays. `count` is its
-- length, or 0 if there is no room.
pub record Laid (text old new : List ℕ) (count : ℕ) : Type 0 where
  pub count_is : count ≡ cond (nat_le (length text) (length old)) (length text) 0
  pub new_is : new
      ≡ cond (nat_le (length text) (length old)) (text ++ drop (length text) old) old

-- This is the value that the bytes begin with; or they begin with none.
abbrev pub Begins : {A : Type 0} → Format A → List ℕ → Option A → Type 0
Begins F bytes found = found ≡ option_map (λ x. x.0) (F.read bytes)

-- The bytes begin with a length, behind which `rest` is. A frame of that length is from `start` up
-- to `end`.
pub record IsFramed (bytes : List ℕ) (start end : ℕ) : Type 0 where
  pub rest : List ℕ
  pub told : length_format.read bytes ≡ Some (end - start, rest)
  pub behind : start + length rest ≡ length bytes
  pub first : 2 ≤ start
  pub ordered : start ≤ end
  pub within : end ≤ length bytes

-- The bytes begin with no length, or there are fewer behind it.
abbrev pub HasNoFrame : List ℕ → Type 0
HasNoFrame bytes =
    (n : ℕ) (rest : List ℕ) → length_format.read bytes ≡ Some (n, rest) → length rest < n
