-- The words of a text, one after another.
use Rattle.std.specs.Prelude.{ℕ, ◌≡◌, ◌==◌, nat_lt, nat_le, ◌&&◌, Bool, true, false, not, List, [], ◌∷◌, take, drop}
use Rattle.std.specs.Char.{is_ascii_digit}
use Rattle.std.specs.List.{prefix_len, position_or_len}
use Rattle.script.specs.declared.line.TheConstants.{MOST_DIGITS}

abbrev pub is_space : ℕ → Bool
is_space byte = byte == 32

-- the text after the spaces at its front
abbrev pub past : List ℕ → List ℕ
past text = drop (prefix_len is_space text) text

-- no space at the front
pub record IsTrimmed (text : List ℕ) : Type 0 where
  pub none : prefix_len is_space text ≡ 0

-- the end of the word at the front
abbrev pub word_end : List ℕ → ℕ
word_end text = position_or_len is_space text

-- the word at the front; empty if there isn't one
abbrev pub word_of : List ℕ → List ℕ
word_of text = take (word_end text) text

-- the text after that word, from the next word on
abbrev pub behind : List ℕ → List ℕ
behind text = past (drop (word_end text) text)

-- how many digits are at the front
abbrev pub digit_count : List ℕ → ℕ
digit_count text = prefix_len is_ascii_digit text

-- whether a word ends before this text, which is then empty or begins with a space
abbrev pub ends_word : List ℕ → Bool
ends_word [] = true
ends_word (byte ∷ bytes) = is_space byte

-- exactly one digit at the front, followed by exactly one space
abbrev pub is_one_digit : List ℕ → Bool
is_one_digit (digit ∷ space ∷ next ∷ bytes) =
    is_ascii_digit digit && (is_space space && not (is_space next))
is_one_digit text = false

-- a number may have this many digits
abbrev pub fits_word : ℕ → Bool
fits_word digits = nat_lt 0 digits && nat_le digits MOST_DIGITS

-- a digit at the front
abbrev pub starts_number : List ℕ → Bool
starts_number [] = false
starts_number (byte ∷ bytes) = is_ascii_digit byte
