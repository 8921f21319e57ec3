-- What the events do to a node's heap, and the tests that come before each of them.
use Rattle.std.specs.Prelude.{ℕ, zero, suc, ◌+◌, Bool, true, false, cond, ◌||◌, ◌&&◌, ◌==◌, not, nat_lt, nat_le, List, [], ◌∷◌, ◌++◌, length, take, drop, replicate, Option, Some, None, is_some, Result, slice_index_or, slice_set}
use Rattle.std.specs.Option.{unwrap_or}
use Rattle.std.specs.Int.{w64, to_be_bytes}
use Rattle.ids.specs.Limits.{Shaped}
use Rattle.ids.specs.declared.limits.TheConstants.{GREATEST_LETTER}
use Rattle.ids.specs.declared.names.Ref.{Ref}
use Rattle.msg.specs.Limits.{fetch_fits}
use Rattle.ids.specs.declared.refusal.Refusal.{Refusal}
use Rattle.ids.specs.declared.refusal.Refusal.TheVariants.{ArenaFull, NoRegister, EmptyRegister, Remote, Local, NoLetter, NoField, TooManyFields, TooManyBytes, NoBytes, NotNow}
use Rattle.model.specs.declared.age.Age.{Age}
use Rattle.model.specs.declared.age.Age.TheVariants.{Young, Remembered, Old}
use Rattle.model.specs.declared.event.Accepted.{Accepted}
use Rattle.model.specs.declared.event.Letter.{Letter}
use Rattle.model.specs.Checks.{guarded}
use Rattle.model.specs.State.{Object, Slot, Free, Occupied, Retired, Heap, register_at, slot_at}

abbrev pub is_register : Heap → ℕ → Bool
is_register h k = nat_lt k (length h.registers)

abbrev pub with_register : Heap → ℕ → Option Ref → Heap
with_register h k r = record h { registers = slice_set h.registers k r }

abbrev pub is_filled : Heap → ℕ → Bool
is_filled h k = is_some (register_at h k)

-- reading a register, which may be empty
abbrev pub register_tests : Heap → ℕ → List (Bool × Refusal)
register_tests h register = (is_register h register, NoRegister) ∷ []

-- The slot that was freed last is used first, else the next fresh one. The first generation of a
-- slot is 1.
abbrev pub has_slot : ℕ → Heap → Bool
has_slot limit h = nat_lt 0 (length h.free) || nat_lt (length h.slots) limit

abbrev pub next_generation : Slot → ℕ
next_generation (Free g) = g
next_generation (Occupied g o) = g
next_generation Retired = 1

-- the slot and generation of the next object
abbrev pub next_slot : List ℕ → List Slot → ℕ
next_slot [] slots = length slots
next_slot (k ∷ ks) slots = k

abbrev pub generation_for : List ℕ → List Slot → ℕ
generation_for [] slots = 1
generation_for (k ∷ ks) slots = next_generation (slice_index_or slots k Retired)

abbrev pub slots_with : List ℕ → List Slot → Object → List Slot
slots_with [] slots o = slots ++ Occupied 1 o ∷ []
slots_with (k ∷ ks) slots o =
    slice_set slots k (Occupied (next_generation (slice_index_or slots k Retired)) o)

abbrev pub new_reference : ℕ → Heap → Ref
new_reference own h = record {
  node = own;
  slot = next_slot h.free h.slots;
  generation = generation_for h.free h.slots;
}

abbrev pub with_object : Heap → Object → Heap
with_object h o = record h { slots = slots_with h.free h.slots o; free = drop 1 h.free }

-- A new object's mark is the node's cycle. It is young if it is private.
abbrev pub new_object : Bool → ℕ → ℕ → Object
new_object shared cycle places =
    record {
      word = 0;
      bytes = [];
      places = replicate places None;
      mark = cycle;
      shared = shared;
      age = cond shared Old Young;
    }

-- In a space whose nodes have this many slots, and whose objects have at most this many places.
abbrev pub alloc_tests : ℕ → ℕ → Heap → ℕ → ℕ → List (Bool × Refusal)
alloc_tests limit most h register places =
    (is_register h register, NoRegister) ∷ (nat_le places most, TooManyFields)
    ∷ (has_slot limit h, ArenaFull) ∷ []

-- The new object is shared or private.
abbrev pub alloc_heap : ℕ → Bool → ℕ → Heap → ℕ → ℕ → Heap
alloc_heap own shared cycle h register places =
    with_register
    (with_object h (new_object shared cycle places))
    register
    (Some (new_reference own h))

abbrev pub drop_tests : Heap → ℕ → List (Bool × Refusal)
drop_tests h register =
    (is_register h register, NoRegister) ∷ (is_filled h register, EmptyRegister) ∷ []

-- the register gets the content of the source register
abbrev pub copy_tests : Heap → ℕ → ℕ → List (Bool × Refusal)
copy_tests h register source =
    (is_register h register, NoRegister) ∷ (is_register h source, NoRegister)
    ∷ (is_filled h source, EmptyRegister) ∷ []

abbrev pub register_copied : Heap → ℕ → ℕ → Heap
register_copied h register source = with_register h register (register_at h source)

-- The reference in a register. An empty register gives one that names no object, since generations
-- start at 1.
abbrev pub no_reference : Ref
no_reference = record { node = 0; slot = 0; generation = 0 }

abbrev pub named : Heap → ℕ → Ref
named h k = unwrap_or (register_at h k) no_reference

-- the register names an object of the node with this number
abbrev pub is_local : ℕ → Heap → ℕ → Bool
is_local own h k = (named h k).node == own

-- the object of a slot, if it has this generation
abbrev pub object_of : Slot → ℕ → Option Object
object_of (Free g) generation = None
object_of (Occupied g o) generation = cond (g == generation) (Some o) None
object_of Retired generation = None

-- the object that a reference to this node names, while it is live
abbrev pub object_at : Heap → Ref → Option Object
object_at h r = object_of (slot_at h r.slot) r.generation

abbrev pub has_place : Option Object → ℕ → Bool
has_place None place = false
has_place (Some o) place = nat_lt place (length o.places)

-- the content of a place; nothing if there is no such place or no object
abbrev pub place_of : Option Object → ℕ → Option Ref
place_of None place = None
place_of (Some o) place = slice_index_or o.places place None

abbrev pub word_of : Option Object → ℕ
word_of None = 0
word_of (Some o) = o.word

-- no bytes if there is no object
abbrev pub bytes_of : Option Object → List ℕ
bytes_of None = []
bytes_of (Some o) = o.bytes

-- Rewrites a live object. If the object isn't live, nothing changes.
abbrev pub rewritten : (Object → Object) → ℕ → Slot → Slot
rewritten f generation (Free g) = Free g
rewritten f generation (Occupied g o) = Occupied g (cond (g == generation) (f o) o)
rewritten f generation Retired = Retired

abbrev pub with_rewritten : Heap → Ref → (Object → Object) → Heap
with_rewritten h r f =
    record h { slots = slice_set h.slots r.slot (rewritten f r.generation (slot_at h r.slot)) }

abbrev pub is_old : Age → Bool
is_old Young = false
is_old Remembered = false
is_old Old = true

abbrev pub is_old_object : Option Object → Bool
is_old_object None = false
is_old_object (Some o) = is_old o.age

-- A young object that an old one may name is remembered.
abbrev pub remembered : Age → Age
remembered Young = Remembered
remembered Remembered = Remembered
remembered Old = Old

abbrev pub remembering : Object → Object
remembering o = record o { age = remembered o.age }

abbrev pub remember : ℕ → Heap → Option Ref → Heap
remember own h None = h
remember own h (Some r) = cond (r.node == own) (with_rewritten h r remembering) h

-- Writes a place of a live object. If there is no such place, nothing changes but that: if the
-- object is old, the node's own object that the place is to name is remembered.
abbrev pub placing : ℕ → Option Ref → Object → Object
placing place v o = record o { places = slice_set o.places place v }

abbrev pub with_place : ℕ → Heap → Ref → ℕ → Option Ref → Heap
with_place own h r place v =
    with_rewritten (cond (is_old_object (object_at h r)) (remember own h v) h) r (placing place v)

abbrev pub wording : ℕ → Object → Object
wording word o = record o { word = word }

abbrev pub with_word : Heap → Ref → ℕ → Heap
with_word h r word = with_rewritten h r (wording word)

-- The objects of a node that these references name become shared.
abbrev pub sharing : Object → Object
sharing o = record o { shared = true }

abbrev pub share_all : ℕ → Heap → List Ref → Heap
share_all own h [] = h
share_all own h (r ∷ rs) =
    share_all own (cond (r.node == own) (with_rewritten h r sharing) h) rs

abbrev pub filling : List ℕ → Object → Object
filling bytes o = record o { bytes = bytes }

-- The list has elements from this offset on, this many.
abbrev pub has_range : List ℕ → ℕ → ℕ → Bool
has_range xs offset count = nat_le (offset + count) (length xs)

-- Overwrites a part of a list. If it isn't a part of it, nothing changes.
abbrev pub overwritten : List ℕ → ℕ → List ℕ → List ℕ
overwritten xs offset ys =
    cond (has_range xs offset (length ys))
    (take offset xs ++ (ys ++ drop (offset + length ys) xs)) xs

abbrev pub patching : ℕ → List ℕ → Object → Object
patching offset bytes o = record o { bytes = overwritten o.bytes offset bytes }

-- the register names an object of this node, and the last test passes
abbrev pub own_tests : ℕ → Heap → ℕ → Bool → List (Bool × Refusal)
own_tests own h object passes =
    (is_register h object, NoRegister)
    ∷ (is_filled h object, EmptyRegister)
    ∷ (is_local own h object, Remote)
    ∷ (passes, NoField)
    ∷ []

-- reading a place of the object that a register names into another register
abbrev pub load_tests : ℕ → Heap → ℕ → ℕ → ℕ → List (Bool × Refusal)
load_tests own h register object place =
    (is_register h register, NoRegister)
    ∷ own_tests own h object (has_place (object_at h (named h object)) place)

abbrev pub place_loaded : Heap → ℕ → ℕ → Option Ref
place_loaded h object place = place_of (object_at h (named h object)) place

-- writing a register's reference into a place of the object that another register names
abbrev pub store_tests : ℕ → Heap → ℕ → ℕ → ℕ → List (Bool × Refusal)
store_tests own h object place register =
    (is_register h object, NoRegister)
    ∷ (is_register h register, NoRegister)
    ∷ (is_filled h object, EmptyRegister)
    ∷ (is_filled h register, EmptyRegister)
    ∷ (is_local own h object, Remote)
    ∷ (has_place (object_at h (named h object)) place, NoField)
    ∷ []

-- emptying a place
abbrev pub clear_tests : ℕ → Heap → ℕ → ℕ → List (Bool × Refusal)
clear_tests own h object place =
    own_tests own h object (has_place (object_at h (named h object)) place)

-- reading or writing the word
abbrev pub word_tests : ℕ → Heap → ℕ → List (Bool × Refusal)
word_tests own h object = own_tests own h object (is_some (object_at h (named h object)))

-- Replacing the bytes by this many, in a space of this shape. Only in wide spaces objects have
-- bytes.
abbrev pub set_bytes_tests : Shaped → ℕ → Heap → ℕ → ℕ → List (Bool × Refusal)
set_bytes_tests shape own h object count =
    word_tests own h object ++ (shape.wide && nat_le count shape.bytes, TooManyBytes) ∷ []

-- overwriting this many bytes from this offset on
abbrev pub patch_tests : Shaped → ℕ → Heap → ℕ → ℕ → ℕ → List (Bool × Refusal)
patch_tests shape own h object offset count =
    word_tests own h object
    ++ (shape.wide && has_range (bytes_of (object_at h (named h object))) offset count, NoBytes)
    ∷ []

-- reading this many bytes from this offset on
abbrev pub bytes_tests : ℕ → Heap → ℕ → ℕ → ℕ → List (Bool × Refusal)
bytes_tests own h object offset count =
    word_tests own h object
    ++ (has_range (bytes_of (object_at h (named h object))) offset count, NoBytes) ∷ []

-- asking the owner of another node's object to write or to read a place of it, in a space whose
-- objects have at most this many places
abbrev pub put_tests : ℕ → ℕ → Heap → ℕ → ℕ → ℕ → List (Bool × Refusal)
put_tests most own h object place register =
    (is_register h object, NoRegister)
    ∷ (is_register h register, NoRegister)
    ∷ (is_filled h object, EmptyRegister)
    ∷ (not (is_local own h object), Local)
    ∷ (nat_lt place most, NoField)
    ∷ []

abbrev pub get_tests : ℕ → ℕ → Heap → ℕ → ℕ → List (Bool × Refusal)
get_tests most own h object place =
    (is_register h object, NoRegister)
    ∷ (is_filled h object, EmptyRegister)
    ∷ (not (is_local own h object), Local)
    ∷ (nat_lt place most, NoField)
    ∷ []

-- The object isn't garbage of this cycle: the cycle has marked it, or it was made since.
abbrev pub is_marked_object : ℕ → Option Object → Bool
is_marked_object cycle None = false
is_marked_object cycle (Some o) = o.mark == cycle

-- Putting a reference that no register or letter brought into a register, on a node in this cycle,
-- which marks or doesn't. The object is the node's own, and marked. An object that isn't may become
-- so while the node marks. If it doesn't, the sweep frees it.
abbrev pub resolve_tests : ℕ → ℕ → Bool → Heap → ℕ → Ref → List (Bool × Refusal)
resolve_tests own cycle marks h register r =
    (is_register h register, NoRegister)
    ∷ (r.node == own, Remote)
    ∷ (is_some (object_at h r), NoField)
    ∷ (is_marked_object cycle (object_at h r) || marks, NoField)
    ∷ (is_marked_object cycle (object_at h r), NotNow)
    ∷ []

-- ---- letters: a letter with several references waits as several, one for each

abbrev pub no_letter : Letter
no_letter = record { from = 0; label = 0; reference = None; more = 0; bytes = [] }

-- a letter with at most one reference, and no bytes
abbrev pub simple_letter : ℕ → ℕ → Option Ref → Letter
simple_letter from label reference =
    record { from = from; label = label; reference = reference; more = 0; bytes = [] }

-- the references of a letter after its first one
abbrev pub more_letters : ℕ → ℕ → List (Option Ref) → List Letter
more_letters from label [] = []
more_letters from label (r ∷ rs) =
    record { from = from; label = label; reference = r; more = length rs; bytes = [] }
    ∷ more_letters from label rs

-- a letter with these references and bytes
abbrev pub letters_of : ℕ → ℕ → List (Option Ref) → List ℕ → List Letter
letters_of from label [] bytes = record (simple_letter from label None) { bytes = bytes } ∷ []
letters_of from label (r ∷ rs) bytes =
    record { from = from; label = label; reference = r; more = length rs; bytes = bytes }
    ∷ more_letters from label rs

abbrev pub oldest_letter : Heap → Letter
oldest_letter h = slice_index_or h.letters 0 no_letter

-- the letter goes into the register and those that follow it
abbrev pub accept_tests : Heap → ℕ → List (Bool × Refusal)
accept_tests h register =
    (is_register h register, NoRegister)
    ∷ (nat_lt (oldest_letter h).more (length h.letters), NoLetter)
    ∷ (is_register h (register + (oldest_letter h).more), NoRegister)
    ∷ []

-- what waits longest leaves, and the register gets its reference, or becomes empty if it has none
abbrev pub letter_taken : Heap → ℕ → Heap
letter_taken h register =
    with_register (record h { letters = drop 1 h.letters }) register (oldest_letter h).reference

-- the same this many times, each time for the next register
abbrev pub letters_taken : ℕ → Heap → ℕ → Heap
letters_taken zero h register = h
letters_taken (suc n) h register = letters_taken n (letter_taken h register) (suc register)

-- the oldest letter leaves whole
abbrev pub accepting : Heap → ℕ → Heap
accepting h register = letters_taken (suc (oldest_letter h).more) h register

-- what the program is told of a letter
abbrev pub told_of : Letter → Accepted
told_of l = record {
  from = l.from;
  label = l.label;
  reference = l.reference;
  count = suc l.more;
  length = length l.bytes;
}

-- these are appended as the last ones
abbrev pub with_letters : Heap → List Letter → Heap
with_letters h ls = record h { letters = h.letters ++ ls }

abbrev pub with_letter : Heap → Letter → Heap
with_letter h l = with_letters h (l ∷ [])

-- ---- letters with several references and bytes

-- the contents of this many registers, from the first one on
abbrev pub contents : Heap → ℕ → ℕ → List (Option Ref)
contents h first count = take count (drop first h.registers)

-- sending them with this many bytes
abbrev pub post_tests : Shaped → Heap → ℕ → ℕ → ℕ → List (Bool × Refusal)
post_tests shape h first count size =
    (nat_le (first + count) (length h.registers), NoRegister)
    ∷ (shape.wide && nat_le count shape.places, TooManyFields)
    ∷ (nat_le size shape.bytes && nat_le size GREATEST_LETTER, TooManyBytes)
    ∷ []

-- asking the owner of another node's object for its word and this many bytes
abbrev pub fetch_tests : Shaped → ℕ → Heap → ℕ → ℕ → List (Bool × Refusal)
fetch_tests shape own h object count =
    (is_register h object, NoRegister)
    ∷ (is_filled h object, EmptyRegister)
    ∷ (not (is_local own h object), Local)
    ∷ (shape.wide && fetch_fits count, TooManyBytes)
    ∷ []

-- The object's word, and a range of its bytes if it has that. Nothing if there is no object.
abbrev pub fetched : Option Object → ℕ → ℕ → List ℕ
fetched None offset count = []
fetched (Some o) offset count =
    to_be_bytes w64 o.word
    ++ cond (has_range o.bytes offset count) (take count (drop offset o.bytes)) []

-- the events of a heap as a whole: the heap and the answer, or the first refusal that applies
-- in a space of this shape; in a plain space all objects are shared
unfoldable pub heap_alloc : Shaped → ℕ → ℕ → Heap → ℕ → ℕ → Result (Heap × Ref) Refusal
heap_alloc shape own cycle h register places =
    guarded (alloc_tests shape.slots shape.places h register places)
    (alloc_heap own (not shape.wide) cycle h register places, new_reference own h)

unfoldable pub heap_drop : Heap → ℕ → Result Heap Refusal
heap_drop h register = guarded (drop_tests h register) (with_register h register None)

unfoldable pub heap_accept : Heap → ℕ → Result (Heap × Accepted) Refusal
heap_accept h register =
    guarded (accept_tests h register) (accepting h register, told_of (oldest_letter h))

-- what the program is told of the oldest letter before it accepts it; the letter's bytes, and the
-- first ones of them
abbrev pub letter_tests : Heap → List (Bool × Refusal)
letter_tests h = (nat_lt 0 (length h.letters), NoLetter) ∷ []

unfoldable pub heap_letter : Heap → Result Accepted Refusal
heap_letter h = guarded (letter_tests h) (told_of (oldest_letter h))

unfoldable pub heap_letter_bytes : Heap → Result (List ℕ) Refusal
heap_letter_bytes h = guarded (letter_tests h) (oldest_letter h).bytes

unfoldable pub heap_letter_part : Heap → ℕ → Result (List ℕ) Refusal
heap_letter_part h count =
    guarded (letter_tests h ++ (nat_le count (length (oldest_letter h).bytes), NoBytes) ∷ [])
    (take count (oldest_letter h).bytes)

unfoldable pub heap_register : Heap → ℕ → Result (Option Ref) Refusal
heap_register h register = guarded (register_tests h register) (register_at h register)

unfoldable pub heap_copy : Heap → ℕ → ℕ → Result Heap Refusal
heap_copy h register source =
    guarded (copy_tests h register source) (register_copied h register source)

unfoldable pub heap_store : ℕ → Heap → ℕ → ℕ → ℕ → Result Heap Refusal
heap_store own h object place register =
    guarded (store_tests own h object place register)
    (with_place own h (named h object) place (register_at h register))

unfoldable pub heap_clear : ℕ → Heap → ℕ → ℕ → Result Heap Refusal
heap_clear own h object place =
    guarded (clear_tests own h object place) (with_place own h (named h object) place None)

unfoldable pub heap_word : ℕ → Heap → ℕ → Result ℕ Refusal
heap_word own h object = guarded (word_tests own h object) (word_of (object_at h (named h object)))

unfoldable pub heap_set_word : ℕ → Heap → ℕ → ℕ → Result Heap Refusal
heap_set_word own h object word =
    guarded (word_tests own h object) (with_word h (named h object) word)

unfoldable pub heap_bytes : ℕ → Heap → ℕ → ℕ → ℕ → Result (List ℕ) Refusal
heap_bytes own h object offset count =
    guarded (bytes_tests own h object offset count)
    (take count (drop offset (bytes_of (object_at h (named h object)))))

-- how many bytes there are
unfoldable pub heap_bytes_len : ℕ → Heap → ℕ → Result ℕ Refusal
heap_bytes_len own h object =
    guarded (word_tests own h object) (length (bytes_of (object_at h (named h object))))

unfoldable pub heap_set_bytes : Shaped → ℕ → Heap → ℕ → List ℕ → Result Heap Refusal
heap_set_bytes shape own h object bytes =
    guarded (set_bytes_tests shape own h object (length bytes))
    (with_rewritten h (named h object) (filling bytes))

unfoldable pub heap_patch : Shaped → ℕ → Heap → ℕ → ℕ → List ℕ → Result Heap Refusal
heap_patch shape own h object offset bytes =
    guarded (patch_tests shape own h object offset (length bytes))
    (with_rewritten h (named h object) (patching offset bytes))
