-- What a block of raw memory holds, as formulas of separation logic.
use Rattle.std.specs.Prelude.{ℕ, ◌+◌, ◌*◌, ◌^◌, List, [], ◌∷◌, length}
use Rattle.std.specs.Mem.{type_size}
use base.Fraction.{full_share}
use base.Fml.{Lft, Fml, ffalse, fsep, flt, froom}
use mir.Syntax.{Ty, ty_array}
use mir.Raw.{raw}
use denote.Index.{row}
use denote.Memory.{lone, shared_of}
use denote.RattleType.{RattleType}
use denote.RawPtr.{Ptr, block_ptr, null_ptr}
use denote.Sharing.{nothing, said, beside}

module _ (R : RattleType) where
  -- room for n values, whatever it holds
  abbrev pub room_of : ℕ → ℕ → ℕ → Fml
  room_of n b o = froom (raw (ty_array (lone R.mir) n)) b o

  -- n values take fewer than 2 ^ 63 bytes
  abbrev pub is_small : ℕ → Fml
  is_small n = flt (n * type_size R) (2 ^ 63)

  -- k places of room, then the values, and then n places of room
  abbrev pub block_owns : Ptr → ℕ → List R.Denot → ℕ → Fml
  block_owns (block_ptr b o) k xs n =
      fsep (is_small (k + length xs + n))
      (fsep (row R full_share xs b (k * type_size R + o))
      (fsep (room_of k b o) (room_of n b ((k + length xs) * type_size R + o))))
  block_owns null_ptr k xs n = ffalse

  -- a `&` to each value
  abbrev pub values_lent : ℕ → ℕ → List R.Denot → Lft → Fml
  values_lent b o [] = nothing
  values_lent b o (x ∷ xs) = beside (shared_of R x b o) (values_lent b (o + type_size R) xs)

  abbrev pub block_lent : Ptr → ℕ → List R.Denot → ℕ → Lft → Fml
  block_lent (block_ptr b o) k xs n =
      beside (said (is_small (k + length xs + n))) (values_lent b (k * type_size R + o) xs)
  block_lent null_ptr k xs n = said ffalse

  -- what the allocator requires in order to take back a block of n places
  abbrev pub title_owns : (Ty → Ptr → Fml) → Ptr → ℕ → Fml
  title_owns token p n = token (raw (ty_array (lone R.mir) n)) p
