-- What holds of a folder after any steps.
use Rattle.std.proofs.Common.{◌≡◌, ◌≢◌, ◌<◌, ◌≤◌, ◌+◌, ℕ, Bool, false, true, List, [], ◌++◌, Option, Some, None, ◌⊎◌}
use Rattle.std.specs.Prelude.{nat_le}
use Rattle.std.specs.List.{Contains}
use Rattle.slots.specs.declared.saving.TheConstants.{ENTRY, HEAD, IDLE, LAST, MOST, TOP, UNSURE, WHOLE}
use Rattle.slots.specs.Decisions.{may_copy, other, value_size}
use Rattle.slots.specs.Beside.{all_written, head_of, last_seal, size_of, without_head}
use Rattle.slots.specs.Disk.{image, put, written, Content, Entry, Fates, File, Item, Mark, Of, Reading, Value, Write}
use Rattle.slots.specs.Runs.{Beside, Folder, Rests, WritesCopies, WritesValue}
use Rattle.slots.proofs.Body.{IsBody}
use Rattle.slots.proofs.Copies.{last_number, last_save, AreNext, GoOn}
use Rattle.slots.proofs.Disk.{IsWhole}
use Rattle.slots.proofs.Reading.{all_read, Begins, IsNewer, Nothing, Only}

-- A folder as the process knows it: the file of the slot that counts, and the other one.
pub record View : Type 0 where
  pub here : File
  pub beside : File
  pub end : ℕ
  pub seal : ℕ
  pub base : ℕ
  pub number : ℕ
  pub stored : ℕ
  pub fresh : ℕ
  pub begun : List ℕ

abbrev pub view_of : Folder → View
view_of h = record {
  here = h.files h.slots.counts;
  beside = h.files (other h.slots.counts);
  end = h.slots.end;
  seal = h.slots.seal;
  base = h.slots.base;
  number = h.slots.number;
  stored = h.stored;
  fresh = h.fresh;
  begun = h.begun;
}

-- what holds of everything of which a byte may be anywhere, if the last save has this number
pub record Good (number fresh : ℕ) (x : Item) : Type 0 where
  pub seal : x.seal < fresh
  pub base : x.base < fresh
  pub entry : x.kind ≡ Entry → x.number ≤ number + 1
  pub mark : x.kind ≡ Mark → x.number ≤ number

abbrev pub AreGood : (number fresh : ℕ) → Content → Type 0
AreGood number fresh c = (k n : ℕ) (x : Item) → c k ≡ Of x n → Good number fresh x

-- one of the saves that were begun, with no higher number than this
pub record IsBegun (most : ℕ) (begun : List ℕ) (at : ℕ) (y : Item) : Type 0 where
  pub number : y.number ≤ most
  pub save : Contains begun y.save

-- The value, and all entries that belong behind it, have lower numbers.
pub record IsPassed (number : ℕ) (c : Content) (x : Item) : Type 0 where
  pub value : x.number < number
  pub entries : (at : ℕ) (y : Item) → y.kind ≡ Entry → y.base ≡ x.base → IsWhole c at y
      → y.number < number

-- between these numbers, and whether a value that was saved may have entries behind it
pub record Bounds : Type 0 where
  pub middle : ℕ
  pub top : ℕ
  pub long : Bool

-- The value is one of those that were begun, or such a save is behind it.
pub record IsAhead (b : Bounds) (begun : List ℕ) (c : Content) (x : Item) : Type 0 where
  pub entries : List Item
  pub begins : Begins c x entries
  pub only : Only Nothing c (all_read x entries)
  pub middle : b.middle < (all_read x entries).last.number
  pub top : (all_read x entries).last.number ≤ b.top
  pub save : Contains begun (all_read x entries).last.save
  pub short : b.long ≡ false → entries ≡ []

-- what may be in the slot that doesn't count
abbrev pub IsBeside : Bounds → (number : ℕ) → List ℕ → Content → Type 0
IsBeside b number begun c =
    (x : Item) → x.kind ≡ Value → IsWhole c 0 x
    → IsPassed number c x ⊎ IsAhead b begun c x

pub record Sound (z : View) : Type 0 where
  -- what counts
  pub value : Item
  pub entries : List Item
  pub bounds : Bounds
  pub here : (f : Fates) → Begins (image f z.here) value entries
  pub only : (f : Fates)
      → Only (IsBegun bounds.middle z.begun) (image f z.here) (all_read value entries)
  pub beside : (f : Fates)
      → IsBeside bounds (all_read value entries).last.number z.begun (image f z.beside)
  pub good_here : (f : Fates)
      → AreGood (all_read value entries).last.number z.fresh (image f z.here)
  pub good_beside : (f : Fates)
      → AreGood (all_read value entries).last.number z.fresh (image f z.beside)
  pub end : z.end ≡ (all_read value entries).end
  pub seal : z.seal ≡ (all_read value entries).last.seal
  pub base : z.base ≡ (all_read value entries).last.base
  pub stored : z.stored ≡ (all_read value entries).last.save
  pub low : (all_read value entries).last.number ≤ bounds.middle
  pub middle : bounds.middle ≤ bounds.top
  pub top : bounds.top ≤ z.number

abbrev pub last_read : {z : View} → Sound z → Reading
last_read s = all_read s.value s.entries

-- an entry is being saved
pub record Adds (z : View) (s : Sound z) (x : Item) : Type 0 where
  pub kind : x.kind ≡ Entry
  pub base : x.base ≡ (last_read s).last.base
  pub newer : IsNewer (last_read s) z.end x
  pub save : Contains z.begun x.save
  pub fresh : x.seal < z.fresh
  pub next : x.number ≡ (last_read s).last.number + 1
  pub number : x.number ≡ z.number
  pub middle : s.bounds.middle ≡ z.number

-- a whole value is being saved
pub record Replaces (z : View) (s : Sound z) (x : Item) : Type 0 where
  pub kind : x.kind ≡ Value
  pub own : x.base ≡ x.seal
  pub some : 0 < x.size
  pub fresh : x.seal < z.fresh
  pub number : x.number ≡ z.number
  pub middle : s.bounds.middle < z.number
  -- no entry was made behind it
  pub unused : (f : Fates) (k n : ℕ) (y : Item) → image f z.beside k ≡ Of y n → y.kind ≡ Entry
      → y.base ≢ x.base

-- the same, with what is under way
pub record Holds (z : View) (phase next_end : ℕ) (item : Item) : Type 0 where
  pub sound : Sound z
  pub idle : phase ≡ IDLE → z.number ≡ (last_read sound).last.number
  pub short : phase ≢ TOP → phase ≢ UNSURE → sound.bounds.long ≡ false
  pub entry : phase ≡ ENTRY → (next_end ≡ z.end + item.size) × Adds z sound item
  pub whole : phase ≡ WHOLE → (next_end ≡ item.size) × Replaces z sound item

-- ---- rewrites

-- What is under way: the save, and the rewrite.
pub record Under : Type 0 where
  pub phase : ℕ
  pub next_end : ℕ
  pub next_base : ℕ
  pub counts : ℕ
  pub to : ℕ
  pub item : Item
  pub headless : Item
  pub write : Write
  pub beside : Option Beside

abbrev pub under_of : Folder → Under
under_of h = record {
  phase = h.slots.phase;
  next_end = h.slots.next_end;
  next_base = h.slots.next_base;
  counts = h.slots.counts;
  to = h.to;
  item = h.item;
  headless = h.headless;
  write = h.write;
  beside = h.beside;
}

-- Up to what a rewrite has copied: a save, its number, the offset behind it; and the last seal of
-- the copies.
pub record Reached : Type 0 where
  pub save : ℕ
  pub number : ℕ
  pub from : ℕ
  pub seal : ℕ

-- the entries that are left lead from there to what counts
pub record LeadsTo (stored number end : ℕ) (r : Reached) (rest : List Item) : Type 0 where
  pub on : GoOn r.save r.number rest
  pub save : last_save r.save rest ≡ stored
  pub last : last_number r.number rest ≡ number
  pub size : r.from + size_of rest ≡ end

-- it has begun
pub record IsStarted (b : Beside) (r : Reached) : Type 0 where
  pub none : b.copies ≡ []
  pub rests : b.doing ≡ Rests
  pub end : b.state.end ≡ 0
  pub save : r.save ≡ b.holds
  pub number : r.number ≡ b.state.number
  pub from : r.from ≡ b.state.from_end

-- it writes its value
pub record IsValue (g : File) (counts : ℕ) (b : Beside) (r : Reached) : Type 0 where
  pub length : ℕ
  pub none : b.copies ≡ []
  pub doing : b.doing ≡ WritesValue length
  pub end : b.state.end ≡ 0
  pub fits : nat_le length MOST ≡ true
  pub to : b.to ≡ other counts
  pub write : b.write ≡ without_head b.value
  pub own : b.value.base ≡ b.value.seal
  pub kind : b.value.kind ≡ Value
  pub size : b.value.size ≡ value_size length
  pub soon : (f : Fates) → IsBody (put (without_head b.value) (image f g)) b.value []
  pub save : r.save ≡ b.value.save
  pub number : r.number ≡ b.value.number
  pub from : r.from ≡ b.state.from_end
  pub seal : r.seal ≡ b.value.seal

-- its value is written, and these copies
pub record IsTied (b : Beside) : Type 0 where
  pub end : b.state.end ≡ (all_read b.value b.copies).end
  pub seal : b.state.seal ≡ (all_read b.value b.copies).last.seal
  pub base : b.state.base ≡ b.value.seal
  pub large : HEAD < b.value.size

pub record IsReady (g : File) (b : Beside) (r : Reached) : Type 0 where
  pub rests : b.doing ≡ Rests
  pub tied : IsTied b
  pub body : (f : Fates) → IsBody (image f g) b.value b.copies
  pub save : r.save ≡ (all_read b.value b.copies).last.save
  pub number : r.number ≡ (all_read b.value b.copies).last.number
  pub from : r.from ≡ b.state.from_end
  pub seal : r.seal ≡ (all_read b.value b.copies).last.seal

-- it writes more copies
pub record IsCopying (g : File) (counts : ℕ) (b : Beside) (r : Reached) : Type 0 where
  pub doing : b.doing ≡ WritesCopies
  pub tied : IsTied b
  pub fits : may_copy b.state (b.state.from_end + size_of b.next_of) ≡ true
  pub to : b.to ≡ other counts
  pub write : b.write ≡ all_written b.next (all_read b.value b.copies).end
  pub next : AreNext (all_read b.value b.copies) b.next
  pub soon : (f : Fates)
      → IsBody (put (all_written b.next (all_read b.value b.copies).end) (image f g)) b.value
      (b.copies ++ b.next)
  pub size : size_of b.next ≡ size_of b.next_of
  pub save : r.save ≡ (all_read b.value (b.copies ++ b.next)).last.save
  pub number : r.number ≡ (all_read b.value (b.copies ++ b.next)).last.number
  pub from : r.from ≡ b.state.from_end + size_of b.next_of
  pub seal : r.seal ≡ (all_read b.value (b.copies ++ b.next)).last.seal
  pub last : last_seal b.state.seal b.next ≡ (all_read b.value (b.copies ++ b.next)).last.seal

pub data Part (g : File) (counts : ℕ) (b : Beside) (r : Reached) : Type 0 where
  AtStart : IsStarted b r → Part g counts b r
  AtValue : IsValue g counts b r → Part g counts b r
  AtRest : IsReady g b r → Part g counts b r
  AtCopies : IsCopying g counts b r → Part g counts b r

-- a rewrite is sound
pub record Works (z : View) (s : Sound z) (counts : ℕ) (b : Beside) : Type 0 where
  pub short : s.bounds.long ≡ false
  pub from : b.state.from ≡ counts
  pub reached : Reached
  pub leads : LeadsTo z.stored (last_read s).last.number z.end reached b.rest
  pub below : reached.seal < z.fresh
  -- (whatever is left)
  pub part : Part z.beside counts (record b { rest = [] }) reached

-- the rewrite that is under way, if any, is sound
abbrev pub AnyWorks : (z : View) → Sound z → ℕ → Option Beside → Type 0
AnyWorks z s counts o = (b : Beside) → o ≡ Some b → Works z s counts b

-- the value and the entries that the save which ends a rewrite makes count
pub record Leaves (u : Under) (entries : List Item) : Type 0 where
  pub last : (all_read u.headless entries).last ≡ u.item
  pub end : u.next_end ≡ (all_read u.headless entries).end
  pub base : u.next_base ≡ u.headless.seal
  pub to : u.to ≡ other u.counts
  pub none : u.beside ≡ None

-- the entry that ends a rewrite is being saved, with all before it
pub record Ends (z : View) (s : Sound z) (u : Under) : Type 0 where
  pub entries : List Item
  pub makes : Leaves u entries
  pub number : u.item.number ≡ z.number
  pub next : u.item.number ≡ (last_read s).last.number + 1
  pub top : s.bounds.top ≡ (last_read s).last.number
  pub short : s.bounds.long ≡ false
  pub save : Contains z.begun u.item.save
  pub soon : (f : Fates) → IsBody (put u.write (image f z.beside)) u.headless entries
  pub large : HEAD ≤ u.headless.size
  pub whose : (k n : ℕ) (x : Item) → u.write.bytes k ≡ Of x n
      → (x.base ≡ u.headless.seal) × Good (last_read s).last.number z.fresh x
  pub seal : u.headless.seal < z.fresh

-- its head is
pub record Tops (z : View) (s : Sound z) (u : Under) : Type 0 where
  pub entries : List Item
  pub makes : Leaves u entries
  pub write : u.write ≡ head_of u.headless
  pub number : u.item.number ≡ z.number
  pub middle : s.bounds.middle < z.number
  pub soon : (f : Fates)
      → Begins (put (head_of u.headless) (image f z.beside)) u.headless entries
      × Only Nothing (put (head_of u.headless) (image f z.beside)) (all_read u.headless entries)
  pub seal : u.headless.seal < z.fresh

pub record All (z : View) (u : Under) : Type 0 where
  pub holds : Holds z u.phase u.next_end u.item
  pub works : AnyWorks z holds.sound u.counts u.beside
  pub last : u.phase ≡ LAST → Ends z holds.sound u
  pub top : u.phase ≡ TOP → Tops z holds.sound u

pub record IsSound (h : Folder) : Type 0 where
  pub two : (h.slots.counts ≡ 0) ⊎ (h.slots.counts ≡ 1)
  pub all : All (view_of h) (under_of h)
  pub entry : h.slots.phase ≡ ENTRY
      → (h.to ≡ h.slots.counts) × (h.write ≡ written h.item h.slots.end)
  pub whole : h.slots.phase ≡ WHOLE
      → (h.to ≡ other h.slots.counts) × (h.write ≡ written h.item 0) × (h.beside ≡ None)
