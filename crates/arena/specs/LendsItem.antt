-- A `Store` or a `Chunk` after a `&mut` to one of its items was returned and has ended.
use Rattle.std.specs.Prelude.{ℕ, slice_set}
use Rattle.std.specs.Borrow.{Lends, Fml, RattleType, MutBor}
use Rattle.arena.specs.Row.{Row, row}
use Rattle.arena.specs.contracts.chunk.Chunk as chunk
use Rattle.arena.specs.contracts.store.Store.{the_row}

-- once the borrow ends, the item is the last one written through it
abbrev pub lends_item : (E : RattleType) → MutBor (Row E.Denot) → ℕ → MutBor E.Denot → Fml
lends_item E s index r =
    Lends (the_row E) E s r (λ w. row (slice_set s.now.items index w) s.now.capacity)

abbrev pub lends_chunk_item : (E : RattleType) → MutBor (Row E.Denot) → ℕ → MutBor E.Denot → Fml
lends_chunk_item E s index r =
    Lends (chunk.the_row E) E s r (λ w. row (slice_set s.now.items index w) s.now.capacity)
