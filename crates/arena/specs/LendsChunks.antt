-- A `Root` after a `&mut` to its chunks was returned and has ended.
use Rattle.std.specs.Borrow.{Lends, Fml, RattleType, MutBor}
use Rattle.arena.specs.Row.{Row}
use Rattle.arena.specs.declared.root.Root.{Root}
use Rattle.arena.specs.declared.root.Root.TheVariants.{Present}
use Rattle.arena.specs.contracts.chunk.Chunk as chunk
use Rattle.arena.specs.contracts.root.Root.{the_row}

-- once the borrow ends, the chunks are what was written through it
abbrev pub lends_chunks : (E : RattleType) → MutBor (Root E.Denot) → MutBor (Row (Row E.Denot))
    → Fml
lends_chunks E s r = Lends (the_row E) (chunk.the_row (chunk.the_row E)) s r (λ cs. Present cs)
