-- A block crosses threads as its values do, and a title as its allocator does.
use Rattle.std.specs.Prelude.{ℕ, ◌+◌, ◌*◌, List, [], ◌∷◌}
use Rattle.std.specs.Mem.{type_size}
use base.Fraction.{full_share}
use base.Shift.{Keyless}
use denote.Index.{row}
use denote.Param.Send.{IsSend, IsSync, Common, AllSend, part_keyless, owning_send, struct_send}
use denote.Param.Send.{struct_sync, sendable}
use denote.RattleType.{RattleType}
use denote.RawPtr.{Ptr, block_ptr, null_ptr}
use denote.Struct.Owning.{shape, fields, to}
use denote.Struct.Struct.{exits_of}
use Rattle.core.specs.declared.alloc.Allocator.{Ghosts}
use Rattle.std_alloc.proofs.SendSync.{FreesAnywhere, quiet}
use Rattle.arena.specs.Block.{block_owns, values_lent, block_lent}
use Rattle.arena.specs.contracts.block.Block as block
use Rattle.arena.specs.contracts.block.Title as title

module _ (R : RattleType) where
  row-keyless : IsSend R → (xs : List R.Denot) (b o : ℕ) → Keyless (row R full_share xs b o)
  row-keyless sends [] b o = tt
  row-keyless sends (x ∷ xs) b o =
      (part_keyless R sends full_share x b o, row-keyless sends xs b (o + type_size R))

  owned-keyless : IsSend R → (p : Ptr) (k : ℕ) (xs : List R.Denot) (n : ℕ)
      → Keyless (block_owns R p k xs n)
  owned-keyless sends (block_ptr b o) k xs n =
      (tt, (row-keyless sends xs b (k * type_size R + o), (tt, tt)))
  owned-keyless sends null_ptr k xs n = tt

  values-common : IsSync R → (xs : List R.Denot) (b o : ℕ) → Common (values_lent R b o xs)
  values-common shares [] b o κ = tt
  values-common shares (x ∷ xs) b o κ =
      (shares.shared x b o κ, values-common shares xs b (o + type_size R) κ)

  lent-common : IsSync R → (p : Ptr) (k : ℕ) (xs : List R.Denot) (n : ℕ)
      → Common (block_lent R p k xs n)
  lent-common shares (block_ptr b o) k xs n κ =
      (tt, values-common shares xs b (k * type_size R + o) κ)
  lent-common shares null_ptr k xs n κ = tt

  pub Block-send : IsSend R → IsSend (block.the_row R)
  Block-send sends =
      let O = block.the_type R in let all : AllSend (fields O) = (search sendable, tt) in
      owning_send O all (λ d. owned-keyless sends d.start d.emptied d.values d.unused)
      (λ kept. quiet (to O) (exits_of kept (fields O)) ((struct_send (shape O) all).leaving kept))

  pub Block-sync : IsSync R → IsSync (block.the_row R)
  Block-sync shares =
      let O = block.the_type R in
      record {
        shared = λ d b o κ. (
          (struct_sync (shape O) (search sendable, tt)).shared (to O d) b o κ,
          lent-common shares d.start d.emptied d.values d.unused κ,
        );
      }

  module _ (A : RattleType) (g : Ghosts A.Denot) where
    pub Title-send : FreesAnywhere A.Denot g → IsSend (title.the_row R A g)
    Title-send frees =
        let O = title.the_type R A g in let all : AllSend (fields O) = (search sendable, tt) in
        owning_send O all (λ d. frees.frees d.owner _ d.start)
        (λ kept. quiet (to O) (exits_of kept (fields O)) ((struct_send (shape O) all).leaving kept))

    pub Title-sync : IsSync (title.the_row R A g)
    Title-sync =
        let O = title.the_type R A g in
        record {
          shared = λ d b o κ.
              ((struct_sync (shape O) (search sendable, tt)).shared (to O d) b o κ, tt);
        }
