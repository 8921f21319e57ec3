-- Blocks of slots, some of which are flagged.
use Rattle.std.specs.Prelude.{◌≡◌, ℕ, ◌/◌, Bool, true, false, List, slice_index_or}
use Rattle.model.specs.State.{Slot, Retired}
use Rattle.heap.specs.declared.blocks.TheConstants.{BLOCK}
use Rattle.heap.specs.declared.blocks.Blocks.{Blocks}
use Rattle.heap.specs.declared.blocks.Blocks.TheVariants.{All, Listed}

-- the flag of the block with this number
abbrev pub is_listed : List Bool → ℕ → Bool
is_listed flags i = slice_index_or flags i false

-- the slot is in a flagged block
abbrev pub is_flagged : Blocks → ℕ → Bool
is_flagged All k = true
is_flagged (Listed flags) k = is_listed flags.items (k / BLOCK)

-- the slot's block is flagged now, as are those that were
pub record Flags (before after : Blocks) (slot : ℕ) : Type 0 where
  pub noted : is_flagged after slot ≡ true
  pub keeps : (k : ℕ) → is_flagged before k ≡ true → is_flagged after k ≡ true

-- each slot of this kind is in a flagged block
pub record Covers (p : Slot → Bool) (b : Blocks) (slots : List Slot) : Type 0 where
  pub all : (k : ℕ) → p (slice_index_or slots k Retired) ≡ true → is_flagged b k ≡ true
