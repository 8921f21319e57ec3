-- How values are spelled as bytes; formats are composed of other formats.
use Rattle.std.specs.Prelude.{ℕ, ℤ, zero, suc, ◌<◌, ◌^◌, ◌≡◌, ◌==◌, List, [], ◌∷◌, ◌++◌, length}
use Rattle.std.specs.Prelude.{take, drop, Bool, Option, Some, None, IfSome, IsTrue, nat_lt, ⊤}
use Rattle.std.specs.Prelude.{if◌then◌else◌}
use Rattle.std.specs.List.{flat_map, AllByRecursion}
use Rattle.std.specs.Option.{option_and_then}
use Rattle.std.specs.Int.{Width, w16, w32, w64, byte_len, to_be_bytes, cast_signed, cast_unsigned}
use Rattle.std.specs.Int.RustNames.{FitsSigned}
use Rattle.byteorder.specs.Endian.{big_number}

infixl 10 ◌>>=◌
abbrev pub ◌>>=◌ : {A B : Type 0} → Option A → (A → Option B) → Option B
o >>= f = option_and_then f o

-- a value from the front of the bytes, and the bytes after it
abbrev pub Reader : Type 0 → Type 0
Reader A = List ℕ → Option (A × List ℕ)

-- how the values of a type are spelled
pub record Format (A : Type 0) : Type 1 where
  pub spell : A → List ℕ
  -- that numbers fit into their fields, as the types of the code ensure
  pub IsWide : A → Type 0
  -- that the value is within the limits, as a reader checks
  pub IsWithin : A → Type 0
  pub read : Reader A

-- what has a spelling
pub record Fits {A : Type 0} (F : Format A) (a : A) : Type 0 where
  pub wide : F.IsWide a
  pub within : F.IsWithin a

-- ---- numbers

abbrev pub byte_at : Reader ℕ
byte_at [] = None
byte_at (b ∷ rest) = Some (b, rest)

abbrev pub byte : Format ℕ
byte = record {
  spell = λ b. b ∷ [];
  IsWide = λ b. b < 2 ^ 8;
  IsWithin = λ _. ⊤;
  read = byte_at;
}

-- a number of this many bytes
abbrev pub number_at : ℕ → Reader ℕ
number_at n bytes =
    if nat_lt (length bytes) n then None else Some (big_number n bytes, drop n bytes)

-- a number, big-endian
abbrev pub number : Width → Format ℕ
number w = record {
  spell = to_be_bytes w;
  IsWide = λ n. n < 256 ^ byte_len w;
  IsWithin = λ _. ⊤;
  read = number_at (byte_len w);
}

unfoldable pub number2 : Format ℕ
number2 = number w16

unfoldable pub number4 : Format ℕ
number4 = number w32

unfoldable pub number8 : Format ℕ
number8 = number w64

-- a number in two's complement: the number itself, or 2^64 more if it is negative
unfoldable pub signed8 : Format ℤ
signed8 = record {
  spell = λ q. to_be_bytes w64 (cast_unsigned w64 q);
  IsWide = FitsSigned w64;
  IsWithin = λ _. ⊤;
  read = λ bytes. number_at 8 bytes >>= λ n. Some (cast_signed w64 n.0, n.1);
}

-- ---- values that are composed of others

-- no byte
abbrev pub nothing : Format ⊤
nothing = record {
  spell = λ _. [];
  IsWide = λ _. ⊤;
  IsWithin = λ _. ⊤;
  read = λ bytes. Some (tt, bytes);
}

-- a value that `make` makes of another one; `parts` returns that other one
abbrev pub mapped : {A B : Type 0} → Format A → (A → B) → (B → A) → Format B
mapped F make parts = record {
  spell = λ b. F.spell (parts b);
  IsWide = λ b. F.IsWide (parts b);
  IsWithin = λ b. F.IsWithin (parts b);
  read = λ bytes. F.read bytes >>= λ a. Some (make a.0, a.1);
}

-- a value, and another one whose format depends on the first one
abbrev pub joined : {A B : Type 0} → Format A → (A → Format B) → Format (A × B)
joined F G = record {
  spell = λ x. F.spell x.0 ++ (G x.0).spell x.1;
  IsWide = λ x. F.IsWide x.0 × (G x.0).IsWide x.1;
  IsWithin = λ x. F.IsWithin x.0 × (G x.0).IsWithin x.1;
  read = λ bytes. F.read bytes >>= λ a. (G a.0).read a.1 >>= λ b. Some ((a.0, b.0), b.1);
}

-- one value after another
infixr 20 ◌&◌
abbrev pub ◌&◌ : {A B : Type 0} → Format A → Format B → Format (A × B)
F & G = joined F (λ _. G)

-- a value that passes a test
abbrev pub kept : {A : Type 0} → Format A → (A → Bool) → Format A
kept F test = record {
  spell = F.spell;
  IsWide = F.IsWide;
  IsWithin = λ a. F.IsWithin a × IsTrue (test a);
  read = λ bytes. F.read bytes >>= λ a. if test a.0 then Some a else None;
}

-- ---- one of several

-- what follows a tag, for each tag that is allowed
abbrev pub behind : {A : Type 0} → List (ℕ × Reader A) → ℕ → Reader A
behind [] tag rest = None
behind (choice ∷ others) tag rest =
    if tag == choice.0 then choice.1 rest else behind others tag rest

abbrev pub tagged_at : {A : Type 0} → List (ℕ × Reader A) → Reader A
tagged_at choices bytes = byte_at bytes >>= λ tag. behind choices tag.0 tag.1

-- a reader of what is made of a value
abbrev pub made_at : {A B : Type 0} → Format A → (A → B) → Reader B
made_at F make bytes = F.read bytes >>= λ a. Some (make a.0, a.1)

-- a tag and what follows it
pub record Behind : Type 1 where
  pub bytes : List ℕ
  pub is_wide : Type 0
  pub is_within : Type 0

abbrev pub tag : {A : Type 0} → ℕ → Format A → A → Behind
tag number F a = record {
  bytes = number ∷ F.spell a;
  is_wide = F.IsWide a;
  is_within = F.IsWithin a;
}

-- a value after a tag that says of which kind it is; `choices` says how each kind is read
abbrev pub tagged : {A : Type 0} → (A → Behind) → List (ℕ × Reader A) → Format A
tagged behind choices = record {
  spell = λ a. (behind a).bytes;
  IsWide = λ a. (behind a).is_wide;
  IsWithin = λ a. (behind a).is_within;
  read = tagged_at choices;
}

abbrev pub option_bytes : {A : Type 0} → Format A → Option A → List ℕ
option_bytes F None = 0 ∷ []
option_bytes F (Some a) = 1 ∷ F.spell a

-- 0, or 1 and a value
abbrev pub option : {A : Type 0} → Format A → Format (Option A)
option F = record {
  spell = option_bytes F;
  IsWide = λ o. IfSome o F.IsWide;
  IsWithin = λ o. IfSome o F.IsWithin;
  read = tagged_at ((0, made_at nothing (λ _. None)) ∷ (1, made_at F (λ a. Some a)) ∷ []);
}

-- ---- lists

abbrev pub each_at : {A : Type 0} → Reader A → ℕ → Reader (List A)
each_at read zero bytes = Some ([], bytes)
each_at read (suc n) bytes =
    read bytes >>= λ first. each_at read n first.1 >>= λ others.
    Some (first.0 ∷ others.0, others.1)

-- this many values, which are read only if there are at least as many bytes
unfoldable pub many_at : {A : Type 0} → Reader A → ℕ → Reader (List A)
many_at read n bytes = if nat_lt (length bytes) n then None else each_at read n bytes

abbrev pub many : {A : Type 0} → Format A → ℕ → Format (List A)
many F n = record {
  spell = flat_map F.spell;
  IsWide = AllByRecursion F.IsWide;
  IsWithin = λ xs. (length xs ≡ n) × AllByRecursion F.IsWithin xs;
  read = many_at F.read n;
}

-- how many there are, and each of them
abbrev pub counted : {A : Type 0} → Format ℕ → Format A → Format (List A)
counted count F = mapped (joined count (many F)) (λ x. x.1) (λ xs. (length xs, xs))

-- ---- runs of bytes

abbrev pub run_at : ℕ → Reader (List ℕ)
run_at n bytes = if nat_lt (length bytes) n then None else Some (take n bytes, drop n bytes)

-- this many bytes, as they are
abbrev pub run : ℕ → Format (List ℕ)
run n = record {
  spell = λ bytes. bytes;
  IsWide = λ _. ⊤;
  IsWithin = λ bytes. length bytes ≡ n;
  read = run_at n;
}

-- how many bytes there are, in four bytes, and the bytes
unfoldable pub bytes4 : Format (List ℕ)
bytes4 = mapped (joined number4 run) (λ x. x.1) (λ bytes. (length bytes, bytes))

-- ---- the whole

-- a value that all of the bytes spell
unfoldable pub whole_at : {A : Type 0} → Reader A → List ℕ → Option A
whole_at read bytes = read bytes >>= λ x. if length x.1 == 0 then Some x.0 else None
