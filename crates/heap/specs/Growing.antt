-- The heap before and after a search, which makes old what it follows.
use Rattle.std.specs.Prelude.{◌≡◌, ℕ, true, false, List, Bool, slice_index_or}
use Rattle.model.specs.State.{Heap, slot_at}
use Rattle.model.specs.Reclaiming.{is_recent, aged}
use Rattle.model.specs.Searching.{Search, is_found}
use Rattle.model.specs.Cuts.{Among}

-- all that was found is still to be followed
abbrev pub AllWait : Search → Type 0
AllWait s = (k : ℕ) → is_found s k ≡ true → Among k s.left

-- What was found is old now, and the rest is as it was. Only ages differ.
pub record IsGrown (before after : Heap) (found : List Bool) : Type 0 where
  pub same : aged after ≡ aged before
  pub rest : (k : ℕ) → slice_index_or found k false ≡ false → slot_at after k ≡ slot_at before k
  pub old : (k : ℕ) → slice_index_or found k false ≡ true → is_recent (slot_at after k) ≡ false
