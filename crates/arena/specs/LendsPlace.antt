-- A `Block` after a `&mut` to one of its values was returned and has ended.
use Rattle.std.specs.Prelude.{ℕ, slice_set, List}
use Rattle.std.specs.Borrow.{Fml, RattleType, MutBor, Lends}
use Rattle.arena.specs.declared.block.Block.{Block}
use Rattle.arena.specs.contracts.block.Block.{the_row}

-- the block with other values
abbrev pub with_values : {X : Type 0} → Block X → List X → Block X
with_values b xs = record { start = b.start; emptied = b.emptied; values = xs; unused = b.unused }

-- once the borrow ends, the value in the place is the last one written through it
abbrev pub lends_place : (R : RattleType) → MutBor (Block R.Denot) → ℕ → MutBor R.Denot → Fml
lends_place R b index r =
    Lends (the_row R) R b r (λ w. with_values b.now (slice_set b.now.values index w))
