-- What a rewrite writes to the slot that doesn't count.
use Rattle.std.specs.Prelude.{ℕ, ◌+◌, ◌-◌, cond, nat_lt, List, [], ◌∷◌}
use Rattle.slots.specs.declared.saving.TheConstants.{HEAD}
use Rattle.slots.specs.Disk.{Content, Item, Of, Other, Write}

-- the bytes of these items, one behind another from this place on
abbrev pub bytes_of : ℕ → List Item → Content
bytes_of at [] k = Other
bytes_of at (x ∷ xs) k = cond (nat_lt k (at + x.size)) (Of x (k - at)) (bytes_of (at + x.size) xs k)

abbrev pub size_of : List Item → ℕ
size_of [] = 0
size_of (x ∷ xs) = x.size + size_of xs

abbrev pub all_written : List Item → ℕ → Write
all_written xs at = record { from = at; count = size_of xs; bytes = bytes_of at xs }

-- A value without its head, which is written later. Zeros are in its place.
abbrev pub without_head : Item → Write
without_head x =
    record { from = 0; count = x.size; bytes = λ k. cond (nat_lt k HEAD) Other (Of x k) }

abbrev pub head_of : Item → Write
head_of x = record { from = 0; count = HEAD; bytes = Of x }

-- Copies of entries, for another value, behind this seal. Their own seals are the ones from here
-- on.
abbrev pub copies_of : (base before fresh : ℕ) → List Item → List Item
copies_of base before fresh [] = []
copies_of base before fresh (x ∷ xs) =
    record x { base = base; before = before; seal = fresh }
    ∷ copies_of base fresh (fresh + 1) xs

-- the seal of the last one, or this seal
abbrev pub last_seal : ℕ → List Item → ℕ
last_seal seal [] = seal
last_seal seal (x ∷ xs) = last_seal x.seal xs
