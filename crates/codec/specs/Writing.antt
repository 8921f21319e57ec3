-- What a writer was given.
use Rattle.std.specs.Prelude.{◌≡◌, ◌<◌, ◌≤◌, ◌+◌, ℕ, List, ◌++◌, length, ⊤, Option, Some, None}
use Rattle.std.specs.Prelude.{vec_len, vec_capacity}
use Rattle.std.specs.List.{flat_map, AllByRecursion}
use Rattle.codec.specs.declared.writer.Writer.{Writer}
use Rattle.codec.specs.declared.writer.Kept.{Kept}
use Rattle.codec.specs.declared.writer.Kept.TheVariants.{All, Counted, TooMany}
use Rattle.codec.specs.Formats.{Format}

-- no byte, and no room for one
abbrev pub HasNone : Writer → Type 0
HasNone w = vec_capacity w.bytes ≡ 0

-- this many bytes are within the limit, if there is one
abbrev pub IsUpTo : Option ℕ → ℕ → Type 0
IsUpTo None n = ⊤
IsUpTo (Some limit) n = n ≤ limit

-- there is a limit, and this many bytes are more
abbrev pub IsOver : Option ℕ → ℕ → Type 0
IsOver None n = ⊥
IsOver (Some limit) n = limit < n

-- this many bytes may be too many: more than the limit, if there is one
abbrev pub MayLose : Option ℕ → ℕ → Type 0
MayLose None n = ⊤
MayLose (Some limit) n = limit < n

-- how many values of a list are counted at most: up to the limit, or as four bytes can say
abbrev pub most_counted : Option ℕ → ℕ
most_counted None = 4_294_967_295
most_counted (Some limit) = limit

abbrev pub Holds : Writer → Kept → List ℕ → Type 0
Holds w All text = w.bytes.items ≡ text
Holds w (Counted n) text = HasNone w × ((n ≡ length text) × IsUpTo w.limit n)
Holds w TooMany text = HasNone w × MayLose w.limit (length text)

-- Everything that the writer was given is this text. It holds the text, unless that is longer than
-- the limit or memory ran out.
abbrev pub Says : Writer → List ℕ → Type 0
Says w text = Holds w w.kept text

abbrev pub IsWithin : Writer → Kept → Type 0
IsWithin w All = IsUpTo w.limit (length w.bytes.items)
IsWithin w (Counted n) = ⊤
IsWithin w TooMany = ⊥

-- what it was given is within the limit
abbrev pub IsOpen : Writer → Type 0
IsOpen w = IsWithin w w.kept

-- it holds everything that it held, and there is room for this text
pub record HasRoom (old new : Writer) (text : List ℕ) : Type 0 where
  pub all : old.kept ≡ All
  pub kept : new.kept ≡ All
  pub items : new.bytes.items ≡ old.bytes.items
  pub room : vec_len new.bytes + length text ≤ vec_capacity new.bytes

-- The writer was also given this text. If the whole is within the limit, the fact is known.
pub record Writes (old new : Writer) (text : List ℕ) (fact : Type 0) : Type 0 where
  pub limit : new.limit ≡ old.limit
  pub back : IsOpen new → IsOpen old
  pub more : (before : List ℕ) → Says old before → Says new (before ++ text)
  pub known : IsOpen new → fact

-- it was given a text of at least this many bytes, which is too long
pub record IsBeyond (least : ℕ) (old new : Writer) : Type 0 where
  pub any : (text : List ℕ) → least ≤ length text → Writes old new text ⊥

-- it was given the spelling of a value
abbrev pub Puts : {A : Type 0} → Format A → Writer → Writer → A → Type 0
Puts F old new x = Writes old new (F.spell x) (F.IsWide x)

-- it was given the spellings of values, one after another
abbrev pub PutsAll : {A : Type 0} → Format A → Writer → Writer → List A → Type 0
PutsAll F old new xs = Writes old new (flat_map F.spell xs) (AllByRecursion F.IsWide xs)
