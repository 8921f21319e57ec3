-- What can happen to a folder in which a value is kept, step by step.
use Rattle.std.specs.Prelude.{ℕ, ◌+◌, Bool, true, false, cond, ◌||◌, ◌==◌, List, [], ◌∷◌, ◌++◌, length, take, drop, Option, Some, None}
use Rattle.slots.specs.declared.saving.TheConstants.{ENTRY, LAST, TOP, WHOLE}
use Rattle.slots.specs.declared.saving.Slots.{Slots}
use Rattle.slots.specs.declared.saving.Target.{Target}
use Rattle.slots.specs.declared.saving.Mark.{Mark}
use Rattle.slots.specs.declared.rewrite.Copying.{Copying}
use Rattle.slots.specs.declared.rewrite.Rewrite.{Rewrite}
use Rattle.slots.specs.declared.opening.Choice.{Choice}
use Rattle.slots.specs.declared.opening.Choice.TheVariants as choice
use Rattle.slots.specs.Decisions.{after_copies, after_entry, after_failure, after_last, after_rewrite, after_stored, after_value, after_whole, copying, created, entry_place, entry_size, last_place, mark_of, opened, replacing, rewrite_of, switched, unsure, value_place, value_size, whole_place, zeros_at}
use Rattle.slots.specs.Beside.{all_written, copies_of, head_of, last_seal, size_of, without_head}
use Rattle.slots.specs.Openings.{chosen}
use Rattle.slots.specs.Disk.{image, looked_all, no_item, read, synced_after, with_write, written, Content, Fates, File, Item, Look, Other, Reading, Write}
use Rattle.slots.specs.Disk as disk

-- What a rewrite is doing: nothing; it writes its value, of this length; it writes copies.
pub data Doing : Type 0 where
  Rests : Doing
  WritesValue : ℕ → Doing
  WritesCopies : Doing

-- A rewrite. It may be done by another thread than the one that saves.
pub record Beside : Type 0 where
  pub state : Rewrite
  -- the save that its value holds, and that value
  pub holds : ℕ
  pub value : Item
  -- the copies that are synced, and the entries of which no copy was begun
  pub copies : List Item
  pub rest : List Item
  -- what it writes, to which slot; and if that is copies: these, of these entries
  pub doing : Doing
  pub write : Write
  pub to : ℕ
  pub next : List Item
  pub next_of : List Item

-- A folder, and the process that has it.
pub record Folder : Type 0 where
  pub slots : Slots
  -- its files: 0 is the first slot, 1 the second one
  pub files : ℕ → File
  -- what is being saved, how it is written, and to which slot
  pub item : Item
  pub write : Write
  pub to : ℕ
  -- if it ends a rewrite: the value of that, whose head is written last
  pub headless : Item
  pub beside : Option Beside
  -- the last save that is known to be stored, and those that were begun since
  pub stored : ℕ
  pub begun : List ℕ
  -- the next seal, and the next save
  pub fresh : ℕ

abbrev pub with_file : Folder → ℕ → File → Folder
with_file h slot f = record h { files = λ i. cond (i == slot) f (h.files i) }

abbrev pub writes : Folder → ℕ → Write → Folder
writes h slot w = with_file h slot (with_write (h.files slot) w)

-- ---- a new folder

abbrev pub new_value : (number length : ℕ) → Item
new_value number length = record {
  kind = disk.Value;
  size = value_size length;
  number = number + 1;
  seal = 1;
  before = 0;
  base = 1;
  save = 1;
  since = 0;
}

abbrev pub nothing : Content
nothing k = Other

abbrev pub with_first : Item → ℕ → File
with_first x slot =
    cond (slot == 0)
    (record { synced = disk.put (written x 0) nothing; writes = [] })
    (record { synced = nothing; writes = [] })

-- a value of this length is stored in it, with the number after this one
abbrev pub new_folder : (number length : ℕ) → Folder
new_folder number length = record {
  slots = switched (replacing (created number) length) 1 1;
  files = with_first (new_value number length);
  item = no_item;
  write = written no_item 0;
  to = 0;
  headless = no_item;
  beside = None;
  stored = 1;
  begun = [];
  fresh = 2;
}

-- ---- saves

-- a save begins
abbrev pub begins : Folder → Slots → Target → Item → Folder
begins h slots place x =
    record (writes h place.slot (written x place.offset)) {
      slots = slots;
      item = x;
      write = written x place.offset;
      to = place.slot;
      begun = h.fresh ∷ h.begun;
      fresh = h.fresh + 1;
    }

-- An entry says what has changed since the last save that is stored.
abbrev pub new_entry : Folder → ℕ → Target → Item
new_entry h length place = record {
  kind = disk.Entry;
  size = entry_size length;
  number = place.number;
  seal = h.fresh;
  before = place.before;
  base = h.slots.base;
  save = h.fresh;
  since = h.stored;
}

abbrev pub begins_entry : Folder → ℕ → Option Target → Folder
begins_entry h length None = h
begins_entry h length (Some place) =
    begins h (after_entry h.slots length) place (new_entry h length place)

abbrev pub new_whole : Folder → ℕ → Target → Item
new_whole h length place = record {
  kind = disk.Value;
  size = value_size length;
  number = place.number;
  seal = h.fresh;
  before = 0;
  base = h.fresh;
  save = h.fresh;
  since = 0;
}

abbrev pub begins_whole : Folder → ℕ → Option Target → Folder
begins_whole h length None = h
begins_whole h length (Some place) =
    record (begins h (after_whole h.slots length) place (new_whole h length place)) {
      beside = None;
    }

-- a save is under way, which a sync ends
abbrev pub is_saving : Folder → Bool
is_saving h = h.slots.phase == ENTRY || (h.slots.phase == WHOLE || h.slots.phase == TOP)

-- there is one more entry to be copied
abbrev pub with_rest : Item → Option Beside → Option Beside
with_rest x None = None
with_rest x (Some b) = Some (record b { rest = b.rest ++ x ∷ [] })

-- the write of the save has succeeded, and the sync after it
abbrev pub syncs : Folder → Fates → Folder
syncs h fates =
    record (with_file h h.to (synced_after h.write fates (h.files h.to))) {
      slots = after_stored h.slots h.item.seal;
    }

abbrev pub ends : Folder → Fates → Folder
ends h fates =
    record (syncs h fates) {
      stored = h.item.save;
      begun = [];
      beside = with_rest h.item h.beside;
    }

-- all that a rewrite needs is synced but its head, which is written now
abbrev pub tops : Folder → Fates → Folder
tops h fates =
    record (writes (syncs h fates) h.to (head_of h.headless)) { write = head_of h.headless }

-- a mark of the last save
abbrev pub new_mark : Mark → Item
new_mark m = record {
  kind = disk.Mark;
  size = 32;
  number = m.number;
  seal = 0;
  before = 0;
  base = m.base;
  save = 0;
  since = 0;
}

abbrev pub puts_mark : Folder → Option Mark → Folder
puts_mark h None = h
puts_mark h (Some m) = writes h m.slot (written (new_mark m) m.offset)

-- zeros behind an entry
abbrev pub zeros : (at count : ℕ) → Write
zeros at count = record { from = at; count = count; bytes = nothing }

abbrev pub puts_zeros : Folder → ℕ → Option ℕ → Folder
puts_zeros h count None = h
puts_zeros h count (Some at) = writes h h.slots.counts (zeros at count)

-- ---- rewrites

abbrev pub count_of : List Item → ℕ
count_of xs = length xs

abbrev pub new_beside : Folder → Rewrite → Beside
new_beside h state = record {
  state = state;
  holds = h.stored;
  value = no_item;
  copies = [];
  rest = [];
  doing = Rests;
  write = written no_item 0;
  to = 0;
  next = [];
  next_of = [];
}

abbrev pub starts : Folder → Option Rewrite → Folder
starts h None = h
starts h (Some state) =
    record h { slots = after_rewrite h.slots; beside = Some (new_beside h state) }

abbrev pub value_of : Folder → Beside → ℕ → Target → Item
value_of h b length place = record {
  kind = disk.Value;
  size = value_size length;
  number = place.number;
  seal = h.fresh;
  before = 0;
  base = h.fresh;
  save = b.holds;
  since = 0;
}

-- its value is written, with zeros in place of its head
abbrev pub writes_value : Folder → Beside → ℕ → Option Target → Folder
writes_value h b length None = h
writes_value h b length (Some place) =
    record (writes h place.slot (without_head (value_of h b length place))) {
      beside = Some
          (record b {
            value = value_of h b length place;
            doing = WritesValue length;
            write = without_head (value_of h b length place);
            to = place.slot;
          });
      fresh = h.fresh + 1;
    }

-- copies of these entries
abbrev pub new_copies : Folder → Beside → List Item → List Item
new_copies h b es = copies_of b.value.seal b.state.seal h.fresh es

abbrev pub writes_copies : Folder → Beside → (es rest : List Item) → Option Copying → Folder
writes_copies h b es rest None = h
writes_copies h b es rest (Some c) =
    record (writes h c.to_slot (all_written (new_copies h b es) c.to)) {
      beside = Some
          (record b {
            doing = WritesCopies;
            write = all_written (new_copies h b es) c.to;
            to = c.to_slot;
            rest = rest;
            next = new_copies h b es;
            next_of = es;
          });
      fresh = h.fresh + length es;
    }

-- what the rewrite has written is synced
abbrev pub done_by : Beside → Doing → Beside
done_by b Rests = b
done_by b (WritesValue length) =
    record b { state = after_value b.state length b.value.seal; doing = Rests }
done_by b WritesCopies =
    record b {
      state = after_copies b.state (b.state.from_end + size_of b.next_of)
          (last_seal b.state.from_seal b.next_of) (last_seal b.state.seal b.next);
      copies = b.copies ++ b.next;
      doing = Rests;
    }

abbrev pub rests : Doing → Bool
rests Rests = true
rests doing = false

abbrev pub settles : Folder → Beside → Fates → Folder
settles h b fates =
    record (with_file h b.to (synced_after b.write fates (h.files b.to))) {
      beside = Some (done_by b b.doing);
    }

-- The copies that are left, and the entry that ends the rewrite, as one write before one sync.
abbrev pub all_copied : Folder → Beside → Rewrite
all_copied h b =
    after_copies b.state h.slots.end (last_seal b.state.from_seal b.rest)
    (last_seal b.state.seal (new_copies h b b.rest))

abbrev pub last_entry : Folder → Beside → ℕ → Target → Item
last_entry h b length place = record {
  kind = disk.Entry;
  size = entry_size length;
  number = place.number;
  seal = h.fresh + count_of b.rest;
  before = place.before;
  base = b.value.seal;
  save = h.fresh + count_of b.rest;
  since = h.stored;
}

abbrev pub last_items : Folder → Beside → ℕ → Target → List Item
last_items h b length place =
    new_copies h b b.rest ++ last_entry h b length place ∷ []

abbrev pub begins_last : Folder → Beside → ℕ → Option Copying → Option Target → Folder
begins_last h b length (Some c) (Some place) =
    record (writes h place.slot (all_written (last_items h b length place) c.to)) {
      slots = after_last h.slots (all_copied h b) length;
      item = last_entry h b length place;
      write = all_written (last_items h b length place) c.to;
      to = place.slot;
      headless = b.value;
      beside = None;
      begun = (h.fresh + count_of b.rest) ∷ h.begun;
      fresh = h.fresh + count_of b.rest + 1;
    }
begins_last h b length c place = h

-- a step of a rewrite, if one is under way; and if what it wrote before is synced
abbrev pub by_rewrite : Folder → Option Beside → (Beside → Folder) → Folder
by_rewrite h None change = h
by_rewrite h (Some b) change = change b

abbrev pub if_rests : Folder → (Beside → Folder) → Folder
if_rests h change = by_rewrite h h.beside (λ b. cond (rests b.doing) (change b) h)

-- ---- openings

-- what an opening may find: what a crash has left of each byte, and to what
-- places the reader looks
pub record Sight : Type 0 where
  pub first : Fates
  pub second : Fates
  pub looks_first : List Look
  pub looks_second : List Look

abbrev pub content : Folder → Fates → ℕ → Content
content h fates slot = image fates (h.files slot)

-- what is read in a slot (it has no more items than were ever written)
abbrev pub reading : Folder → Fates → List Look → ℕ → Reading
reading h fates looks slot =
    looked_all (content h fates slot) (read h.fresh (content h fates slot)) looks

abbrev pub reading_first : Folder → Sight → Reading
reading_first h s = reading h s.first s.looks_first 0

abbrev pub reading_second : Folder → Sight → Reading
reading_second h s = reading h s.second s.looks_second 1

-- which slot counts then
abbrev pub choice_of : Folder → Sight → Choice
choice_of h s = chosen (reading_first h s).found (reading_second h s).found

-- Both files were synced before they were read, so what was read stays.
abbrev pub settled : Folder → Sight → ℕ → File
settled h s slot =
    cond (slot == 0)
    (record { synced = content h s.first 0; writes = [] })
    (record { synced = content h s.second 1; writes = [] })

-- a process goes on with what this slot has
abbrev pub goes_on : Folder → Sight → ℕ → Reading → Folder
goes_on h s slot r =
    record h {
      slots = opened slot r.found r.end r.last.seal r.last.base 0;
      files = settled h s;
      beside = None;
      stored = r.holds;
      begun = [];
    }

abbrev pub opens : Folder → Sight → Choice → Folder
opens h s choice.First = goes_on h s 0 (reading_first h s)
opens h s choice.Second = goes_on h s 1 (reading_second h s)
opens h s choice.Damaged = h

-- ---- steps

pub data Step : Type 0 where
  -- a save of an entry or of a whole value of this length begins; any part of it may be on the
  -- disk from now on
  AddEntry : ℕ → Step
  Replace : ℕ → Step
  -- it is written, and the sync after it has succeeded; of other writes there is what the fates say
  Store : Fates → Step
  -- its write has failed; or a sync has
  Fail : Step
  Doubt : Step
  -- A rewrite begins, and any other one is over. Its value of this length is written; then copies
  -- of this many of the entries that were stored meanwhile. What it writes is synced before it
  -- goes on. Or it is given up.
  StartRewrite : Step
  WriteValue : ℕ → Step
  WriteCopies : ℕ → Step
  SyncBeside : Fates → Step
  GiveUp : Step
  -- a save of an entry of this length begins that ends it
  AddLast : ℕ → Step
  -- a mark is written, or zeros behind an entry; nobody waits for them
  PutMark : Step
  PutZeros : ℕ → Step
  -- The process ends at any moment, by a crash of the machine or not, and another one opens the
  -- folder. So a byte may be as it was synced, or as any write since has made it, or torn.
  Open : Sight → Step

abbrev pub step : Folder → Step → Folder
step h (AddEntry length) = begins_entry h length (entry_place h.slots length)
step h (Replace length) = begins_whole h length (whole_place h.slots length)
step h (Store fates) =
    cond (is_saving h) (ends h fates) (cond (h.slots.phase == LAST) (tops h fates) h)
step h StartRewrite = starts h (rewrite_of h.slots)
step h (WriteValue length) =
    if_rests h (λ b. writes_value h b length (value_place b.state length))
step h (WriteCopies count) =
    if_rests h
    (λ b.
    writes_copies h b (take count b.rest) (drop count b.rest)
    (copying b.state (b.state.from_end + size_of (take count b.rest))))
step h (SyncBeside fates) =
    by_rewrite h h.beside (λ b. cond (rests b.doing) h (settles h b fates))
step h GiveUp = record h { beside = None }
step h (AddLast length) =
    if_rests h
    (λ b.
    begins_last h b length (copying b.state h.slots.end)
    (last_place h.slots (all_copied h b) length))
step h Fail = record h { slots = after_failure h.slots }
step h Doubt = record h { slots = unsure h.slots }
step h PutMark = puts_mark h (mark_of h.slots)
step h (PutZeros count) = puts_zeros h count (zeros_at h.slots)
step h (Open s) = opens h s (choice_of h s)

abbrev pub run : Folder → List Step → Folder
run h [] = h
run h (s ∷ steps) = run (step h s) steps

-- the property holds after any steps of a new folder
abbrev pub OfEveryRun : (Folder → Type 0) → Type 0
OfEveryRun P = (number length : ℕ) (steps : List Step) → P (run (new_folder number length) steps)
