-- How a `Chunk` is laid out in its block.
use Rattle.std.specs.Prelude.{◌≡◌, ℕ, ◌+◌, ◌<◌, ◌^◌, length}
use Rattle.arena.specs.declared.block.Block.{Block}
use Rattle.arena.specs.declared.block.Title.{Title}

module _ {X A : Type 0} where
  -- the title is for the block, and the values fill its first places
  pub record IsLaid (b : Block X) (t : Title X A) (len capacity : ℕ) (alloc : A) : Type 0 where
    pub titled : (t.start ≡ b.start) × (t.places ≡ capacity) × (t.owner ≡ alloc)
    pub filled : (b.emptied ≡ 0) × (len ≡ length b.values) × (len + b.unused ≡ capacity)
    pub small : capacity < 2 ^ 63
