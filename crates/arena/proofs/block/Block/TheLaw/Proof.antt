-- A `&` to a block reaches each value in it. Assumes `Logic`.
use mathlib.Core.List.{[], ◌++◌}
use base.Fml.{Incl-trans}
use contract.BorrowLft.{meet_⊑_left}
use denote.RattleType.{RattleType}
use denote.Param.Laws.{Laws}
use denote.Param.Shared.{copy_shared}
use denote.Struct.Field.{RawPtr-field}
use denote.Struct.Laws.{RawPtr-copy}
use denote.Struct.Lending.{of_Lends}
use Rattle.arena.specs.contracts.block.Block as block
use Rattle.arena.proofs.block.Block.TheLaw.Statement.{statement}
use Rattle.arena.proofs.Lending.{block-laws, Lends-block}

pub shares : (R : RattleType) (L : Laws R) → statement R L
shares R L =
    of_Lends (block.struct R) (block.the_codes R.Denot R.coded) (block.the_heap R)
    (block.the_lent R)
    (λ d p. block-laws R L.shr_laws d.start d.emptied d.values d.unused)
    (copy_shared RawPtr-field RawPtr-copy, tt)
    (λ M 𝓤 𝓛 d p.
    let within = Incl-trans (meet_⊑_left (R.lives ++ []) _) (meet_⊑_left R.lives []) in
    Lends-block 𝓛 (block.the_row R).lives L within d.start d.emptied d.values d.unused)
