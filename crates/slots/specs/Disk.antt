-- A file, what a crash may leave of it, and what a reader finds in it.
--
-- A byte is known by what it is a byte of. So what is read as a whole value, entry or mark was
-- written as such, with all its bytes. This is the premise on seals: no torn write has a right
-- seal, and a seal fits only what it was made over, which is all that is before it.
use Rattle.std.specs.Prelude.{ℕ, zero, suc, ◌+◌, ◌-◌, Bool, true, false, ◌&&◌, cond, nat_le, nat_lt, ◌==◌, List, [], ◌∷◌, length, Option, Some, None}
use Rattle.slots.specs.declared.opening.Found.{Found}
use Rattle.slots.specs.Openings.{is_next, nothing_found, with_behind, with_entry, with_mark, with_value}

-- ---- what is written

pub data Kind : Type 0 where
  Value : Kind
  Entry : Kind
  Mark : Kind

-- Something that is written with a seal. All seals are different.
pub record Item : Type 0 where
  pub kind : Kind
  -- its bytes, with what is around it
  pub size : ℕ
  pub number : ℕ
  pub seal : ℕ
  -- of an entry: the seal before it, and the seal of the value that it is behind
  pub before : ℕ
  pub base : ℕ
  -- What it holds: a value, what was saved then; an entry, what has changed since `since`.
  pub save : ℕ
  pub since : ℕ

-- a byte: the one at this place of an item, or any other one
pub data Cell : Type 0 where
  Of : Item → ℕ → Cell
  Other : Cell

abbrev pub Content : Type 0
Content = ℕ → Cell

-- a write of this many bytes
pub record Write : Type 0 where
  pub from : ℕ
  pub count : ℕ
  pub bytes : Content

abbrev pub covers : Write → ℕ → Bool
covers w k = nat_le w.from k && nat_lt k (w.from + w.count)

abbrev pub written : Item → ℕ → Write
written x at = record { from = at; count = x.size; bytes = λ k. Of x (k - at) }

-- ---- what is left

-- What became of a byte that was to be written: nothing, or it was written, or it is torn.
pub data Fate : Type 0 where
  Lost : Fate
  Done : Fate
  Torn : Fate

abbrev pub left_by : Fate → (old new : Cell) → Cell
left_by Lost old new = old
left_by Done old new = new
left_by Torn old new = Other

-- of each write since the last sync, counted from the oldest one, and of each byte
abbrev pub Fates : Type 0
Fates = ℕ → ℕ → Fate

pub record File : Type 0 where
  -- what was synced, and the writes since, the last one first
  pub synced : Content
  pub writes : List Write

-- what there may be of a file, after a crash or a sync
abbrev pub image_of : Fates → Content → List Write → Content
image_of fates synced [] k = synced k
image_of fates synced (w ∷ ws) k =
    cond (covers w k) (left_by (fates (length ws) k) (image_of fates synced ws k) (w.bytes k))
    (image_of fates synced ws k)

abbrev pub image : Fates → File → Content
image fates f = image_of fates f.synced f.writes

abbrev pub put : Write → Content → Content
put w c k = cond (covers w k) (w.bytes k) (c k)

abbrev pub with_write : File → Write → File
with_write f w = record f { writes = w ∷ f.writes }

-- A sync succeeds after this write has. Of the other writes nobody knows.
abbrev pub synced_after : Write → Fates → File → File
synced_after w fates f = record { synced = put w (image fates f); writes = [] }

-- ---- what is read

abbrev pub same_kind : Kind → Kind → Bool
same_kind Value Value = true
same_kind Entry Entry = true
same_kind Mark Mark = true
same_kind a b = false

abbrev pub same_item : Item → Item → Bool
same_item x y =
    (((same_kind x.kind y.kind && x.size == y.size) && (x.number == y.number && x.seal == y.seal))
    && ((x.before == y.before && x.base == y.base) && (x.save == y.save && x.since == y.since)))

abbrev pub is_byte : Cell → Item → ℕ → Bool
is_byte (Of y place) x at = same_item y x && place == at
is_byte Other x at = false

-- the first bytes from this place on are those of the item
abbrev pub has_bytes : Content → ℕ → Item → ℕ → Bool
has_bytes c from x zero = true
has_bytes c from x (suc n) = is_byte (c (from + n)) x n && has_bytes c from x n

abbrev pub whole_if : Content → ℕ → Cell → Option Item
whole_if c from (Of x zero) = cond (has_bytes c from x x.size) (Some x) None
whole_if c from (Of x (suc n)) = None
whole_if c from Other = None

-- the whole item at this place
abbrev pub whole_at : Content → ℕ → Option Item
whole_at c from = whole_if c from (c from)

-- What was read of a file: what the crate knows of it; the last item, the offset behind it, and
-- what was saved with it. That is 0 if what was read doesn't go together.
pub record Reading : Type 0 where
  pub found : Found
  pub last : Item
  pub end : ℕ
  pub holds : ℕ

-- the entry may be behind what was read: it is sealed over that
abbrev pub fits_behind : Reading → Item → Bool
fits_behind r y =
    (same_kind y.kind Entry && y.base == r.last.base)
    && (y.before == r.last.seal && is_next r.found y.number)

abbrev pub with_item : Reading → Item → Reading
with_item r y = record {
  found = with_entry r.found y.number;
  last = y;
  end = r.end + y.size;
  holds = cond (y.since == r.holds) y.save 0;
}

abbrev pub behind_if : Reading → Option Item → Option Item
behind_if r None = None
behind_if r (Some y) = cond (fits_behind r y) (Some y) None

abbrev pub next_of : Content → Reading → Option Item
next_of c r = behind_if r (whole_at c r.end)

-- reads entries, at most this many
abbrev pub read_on : ℕ → Content → Reading → Reading
read_on zero c r = r
read_on (suc n) c r = elim (next_of c r) as (λ o. Reading)
    [ None ↦ r | Some y ↦ read_on n c (with_item r y) ]

abbrev pub no_item : Item
no_item = record {
  kind = Mark;
  size = 0;
  number = 0;
  seal = 0;
  before = 0;
  base = 0;
  save = 0;
  since = 0;
}

abbrev pub nothing_read : Reading
nothing_read = record { found = nothing_found; last = no_item; end = 0; holds = 0 }

abbrev pub first_read : Item → Reading
first_read x = record {
  found = with_value nothing_found 2 x.number;
  last = x;
  end = x.size;
  holds = x.save;
}

abbrev pub read_if : ℕ → Content → Option Item → Reading
read_if most c None = nothing_read
read_if most c (Some x) =
    cond (same_kind x.kind Value) (read_on most c (first_read x)) nothing_read

abbrev pub read : ℕ → Content → Reading
read most c = read_if most c (whole_at c 0)

-- ---- what shows that more was whole

-- A reader looks at a place for a mark, or for an entry behind something that isn't whole, which
-- claims to have this number.
pub data Look : Type 0 where
  ForMark : ℕ → Look
  ForEntry : (claimed at : ℕ) → Look

-- A mark is of the value that was read; if none was, nobody can say of which.
abbrev pub is_mark_of : Reading → Item → Bool
is_mark_of r m = same_kind m.kind Mark && cond (r.found.version == 0) true (m.base == r.last.base)

abbrev pub marked : Reading → Option Item → Reading
marked r None = r
marked r (Some m) =
    cond (is_mark_of r m) (record r { found = with_mark r.found m.number }) r

abbrev pub shown : Reading → ℕ → Option Item → Reading
shown r claimed None = r
shown r claimed (Some y) =
    cond (same_kind y.kind Entry) (record r { found = with_behind r.found claimed y.number }) r

abbrev pub looked : Content → Reading → Look → Reading
looked c r (ForMark at) = marked r (whole_at c at)
looked c r (ForEntry claimed at) = shown r claimed (whole_at c at)

abbrev pub looked_all : Content → Reading → List Look → Reading
looked_all c r [] = r
looked_all c r (look ∷ looks) = looked_all c (looked c r look) looks
