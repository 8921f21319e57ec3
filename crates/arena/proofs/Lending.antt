-- A `&` to a block holds a `&` to each of its values. Assumes `Logic`.
use Rattle.std.specs.Prelude.{ℕ, ◌+◌, ◌*◌, List, [], ◌∷◌, length}
use Rattle.std.specs.Mem.{type_size}
use seplogic.Ra.Ura.{Ura}
use base.Fraction.{full_share}
use base.Fml.{Lft, Incl, ftrue, ffalse, fsep}
use types.Logic.{Logic}
use denote.Index.{row}
use denote.Memory.{part_at, shared_of}
use denote.Param.Laws.{Laws}
use denote.RattleType.{RattleType, RowLaws}
use denote.RawPtr.{Ptr, block_ptr, null_ptr}
use denote.Shares.{Shares-less}
use denote.Sharing.{ShrLaws, said}
use denote.SharingLaws.{beside_shr_laws, nothing_shr_laws, said_shr_laws}
use denote.Struct.Lending.{Lends, Lends-both, Lends-first, Lends-nothing, Lends-said, Lends-false}
use Rattle.arena.specs.Block.{room_of, is_small, block_owns, values_lent, block_lent}

module _ (R : RattleType) (L : RowLaws R) where
  values-laws : (b o : ℕ) (xs : List R.Denot) → ShrLaws (values_lent R b o xs)
  values-laws b o [] = nothing_shr_laws
  values-laws b o (x ∷ xs) =
      beside_shr_laws (shared_of R x b o) (values_lent R b (o + type_size R) xs) (L x b o)
      (values-laws b (o + type_size R) xs)

  pub block-laws : (p : Ptr) (k : ℕ) (xs : List R.Denot) (n : ℕ) → ShrLaws (block_lent R p k xs n)
  block-laws (block_ptr b o) k xs n =
      let small = is_small R (k + length xs + n) in
      beside_shr_laws (said small) (values_lent R b (k * type_size R + o) xs)
      (said_shr_laws small tt) (values-laws b (k * type_size R + o) xs)
  block-laws null_ptr k xs n = said_shr_laws ffalse tt

module _ {M : Type 1} {𝓤 : Ura M} (𝓛 : Logic 𝓤) (l : Lft) {R : RattleType} (L : Laws R)
    (inc : Incl l R.lives) where
  Lends-values : (b o : ℕ) (xs : List R.Denot)
      → Lends 𝓛 (row R full_share xs b o) (values_lent R b o xs) l
  Lends-values b o [] = Lends-nothing 𝓛 ftrue l
  Lends-values b o (x ∷ xs) =
      let next = o + type_size R in
      Lends-both 𝓛 (part_at R full_share x b o) (row R full_share xs b next) (shared_of R x b o)
      (values_lent R b next xs) l
      (λ κ ts. Shares-less 𝓛 R R.lives l inc (L.shares 𝓛) x κ ts b o) (Lends-values b next xs)

  -- the room on both sides isn't lent
  pub Lends-block : (p : Ptr) (k : ℕ) (xs : List R.Denot) (n : ℕ)
      → Lends 𝓛 (block_owns R p k xs n) (block_lent R p k xs n) l
  Lends-block (block_ptr b o) k xs n =
      let small = is_small R (k + length xs + n) in
      let from = k * type_size R + o in
      let sides = fsep (room_of R k b o) (room_of R n b ((k + length xs) * type_size R + o)) in
      Lends-both 𝓛 small (fsep (row R full_share xs b from) sides) (said small)
      (values_lent R b from xs) l
      (Lends-said 𝓛 small tt l)
      (Lends-first 𝓛 (row R full_share xs b from) sides (values_lent R b from xs) l
      (Lends-values b from xs))
  Lends-block null_ptr k xs n = Lends-false 𝓛 (said ffalse) l
