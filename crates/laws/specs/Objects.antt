-- A space without a collector ("Without a collector" in docs/PROOF.md): the objects that were made,
-- what each node's program holds, and the messages of programs in flight. No object is ever freed.
-- There are no marks, cycles, tokens, slots, free lists or numbers of messages.
use Rattle.std.specs.Prelude.{◌≡◌, ◌≢◌, ℕ, ◌<◌, ◌⊎◌, Bool, true, false, cond, ◌==◌, ◌&&◌, not, is_some, nat_lt, nat_le, List, [], ◌∷◌, ◌++◌, length, take, drop, replicate, slice_set, slice_index_or, Option, None, Some, option_map, Result, Ok, Err, IsTrue}
use Rattle.std.specs.Int.{w64, to_be_bytes}
use Rattle.ids.specs.Limits.{Shaped}
use Rattle.ids.specs.declared.names.Ref.{Ref}
use Rattle.ids.specs.declared.refusal.Refusal.{Refusal}
use Rattle.ids.specs.declared.refusal.Refusal.TheVariants.{ArenaFull, NoRegister, EmptyRegister, Remote, NoNode, NoField, TooManyFields, SelfSend, LinkSpent, TooManyBytes, NoBytes, NotNow}
use Rattle.msg.specs.declared.body.Body.{Body}
use Rattle.msg.specs.declared.body.Body.TheVariants as body
use Rattle.model.specs.declared.event.Event.{Event}
use Rattle.model.specs.declared.event.Event.TheVariants as event
use Rattle.model.specs.declared.event.Answer.{Answer}
use Rattle.model.specs.declared.event.Answer.TheVariants as answer
use Rattle.model.specs.Checks.{guarded, AllPass}
use Rattle.model.specs.State.{Heap, register_at, node_at}
use Rattle.model.specs.Heaps.{is_register, is_filled, is_local, with_register, register_copied, named, no_reference, oldest_letter, accepting, told_of, with_letter, with_letters, simple_letter, letters_of, contents, post_tests, fetch_tests, own_tests, register_tests, copy_tests, drop_tests, put_tests, get_tests, accept_tests, has_range, overwritten}
use Rattle.model.specs.Shading.{is_same}
use Rattle.model.specs.World.{new_nodes}

-- an object: its word, its bytes and its places
pub record Thing : Type 0 where
  pub word : ℕ
  pub bytes : List ℕ
  pub places : List (Option Ref)

pub record Space : Type 0 where
  -- the object that was made under a reference, if any
  pub objects : Ref → Option Thing
  -- each node's registers and letters, as a heap without slots, so that the tests of heaps apply
  pub desk : ℕ → Heap
  -- the messages of programs that one node sent another and that haven't arrived, oldest first
  pub under_way : ℕ → ℕ → List Body

-- a new space
abbrev pub new_space : Shaped → Space
new_space shape = record {
  objects = λ r. None;
  desk = λ i. (node_at (new_nodes shape) i).local.heap;
  under_way = λ from to. [];
}

-- ---- reading

abbrev pub has_that : Option Thing → ℕ → Bool
has_that None place = false
has_that (Some o) place = nat_lt place (length o.places)

-- the content of a place; nothing if there is no such place or no object
abbrev pub content_of : Option Thing → ℕ → Option Ref
content_of None place = None
content_of (Some o) place = slice_index_or o.places place None

abbrev pub word_in : Option Thing → ℕ
word_in None = 0
word_in (Some o) = o.word

abbrev pub bytes_in : Option Thing → List ℕ
bytes_in None = []
bytes_in (Some o) = o.bytes

-- the object's word, and a range of its bytes if it has that
abbrev pub fetched_of : Option Thing → ℕ → ℕ → List ℕ
fetched_of None offset count = []
fetched_of (Some o) offset count =
    to_be_bytes w64 o.word
    ++ cond (has_range o.bytes offset count) (take count (drop offset o.bytes)) []

-- ---- writing

abbrev pub with_desk : Space → ℕ → Heap → Space
with_desk s i h = record s { desk = λ k. cond (k == i) h (s.desk k) }

abbrev pub with_thing : Space → Ref → Option Thing → Space
with_thing s r o = record s { objects = λ q. cond (is_same q r) o (s.objects q) }

-- rewrites an object, if one was made: one of its places, its word, or its bytes
abbrev pub rewriting : Space → Ref → (Thing → Thing) → Space
rewriting s r f = with_thing s r (option_map f (s.objects r))

abbrev pub with_place : Space → Ref → ℕ → Option Ref → Space
with_place s r place v = rewriting s r (λ o. record o { places = slice_set o.places place v })

abbrev pub with_word : Space → Ref → ℕ → Space
with_word s r word = rewriting s r (λ o. record o { word = word })

abbrev pub with_bytes : Space → Ref → List ℕ → Space
with_bytes s r bytes = rewriting s r (λ o. record o { bytes = bytes })

abbrev pub with_patch : Space → Ref → ℕ → List ℕ → Space
with_patch s r offset bytes =
    rewriting s r (λ o. record o { bytes = overwritten o.bytes offset bytes })

abbrev pub with_messages : Space → ℕ → ℕ → List Body → Space
with_messages s from to bs =
    record s { under_way = λ i k. cond ((i == from) && (k == to)) bs (s.under_way i k) }

-- the message is appended as the last one
abbrev pub posted : Space → ℕ → ℕ → Body → Space
posted s from to b = with_messages s from to (s.under_way from to ++ b ∷ [])

-- ---- what programs do

-- an event of a program; the others are the collector's, or bring what other nodes sent
abbrev pub is_program : Event → Bool
is_program (event.Reclaim scope) = false
is_program event.Begin = false
is_program event.Scan = false
is_program event.Pass = false
is_program (event.Sweep count) = false
is_program (event.Next from) = false
is_program (event.Data d) = false
is_program (event.Ack a) = false
is_program e = true

-- Limits of the nodes, which this space doesn't have. An Alloc may find no slot. There may be no
-- number for a message that an event sends, or that is sent when a Load shades what it reads. The
-- object that a Resolve is about may be freed, or not marked yet.
abbrev pub IsLimit : Event → Refusal → Type 0
IsLimit (event.Alloc register places) e = e ≡ ArenaFull
IsLimit (event.Load register object place) e = e ≡ LinkSpent
IsLimit (event.Give to label register) e = e ≡ LinkSpent
IsLimit (event.Post to label first count bytes) e = e ≡ LinkSpent
IsLimit (event.Fetch object label offset count) e = e ≡ LinkSpent
IsLimit (event.Put object place register) e = e ≡ LinkSpent
IsLimit (event.Get object place label) e = e ≡ LinkSpent
IsLimit (event.Resolve register reference) e = (e ≡ NoField) ⊎ (e ≡ NotNow)
IsLimit event e = ⊥

-- the new object's reference, in an answer
abbrev pub new_in : Answer → Ref
new_in (answer.New r) = r
new_in a = no_reference

abbrev pub new_thing : ℕ → Thing
new_thing places = record { word = 0; bytes = []; places = replicate places None }

-- the program of node i
module _ (s : Space) (i : ℕ) where
  -- the content of a register; the reference that it names; the object made under that, if any
  abbrev pub held : ℕ → Option Ref
  held register = register_at (s.desk i) register

  abbrev pub named_by : ℕ → Ref
  named_by register = named (s.desk i) register

  abbrev pub object_in : ℕ → Option Thing
  object_in register = s.objects (named_by register)

  -- The tests of an event, in order, each with its refusal. They are the tests of a node, except
  -- that no slot has to be available. None of them asks whether an object was freed.
  abbrev pub checks : Shaped → Event → List (Bool × Refusal)
  checks shape (event.Alloc register places) =
      (is_register (s.desk i) register, NoRegister)
      ∷ (nat_le places shape.places, TooManyFields) ∷ []
  checks shape (event.Copy register source) = copy_tests (s.desk i) register source
  checks shape (event.Drop register) = drop_tests (s.desk i) register
  checks shape (event.Load register object place) =
      (is_register (s.desk i) register, NoRegister)
      ∷ own_tests i (s.desk i) object (has_that (object_in object) place)
  checks shape (event.Store object place register) =
      (is_register (s.desk i) object, NoRegister)
      ∷ (is_register (s.desk i) register, NoRegister)
      ∷ (is_filled (s.desk i) object, EmptyRegister)
      ∷ (is_filled (s.desk i) register, EmptyRegister)
      ∷ (is_local i (s.desk i) object, Remote)
      ∷ (has_that (object_in object) place, NoField) ∷ []
  checks shape (event.Clear object place) =
      own_tests i (s.desk i) object (has_that (object_in object) place)
  checks shape (event.Word object) = own_tests i (s.desk i) object (is_some (object_in object))
  checks shape (event.SetWord object word) =
      own_tests i (s.desk i) object (is_some (object_in object))
  checks shape (event.SetBytes object bytes) =
      own_tests i (s.desk i) object (is_some (object_in object))
      ++ (shape.wide && nat_le (length bytes.now) shape.bytes, TooManyBytes) ∷ []
  checks shape (event.Patch object offset bytes) =
      own_tests i (s.desk i) object (is_some (object_in object))
      ++ (shape.wide && has_range (bytes_in (object_in object)) offset (length bytes.now), NoBytes)
      ∷ []
  checks shape (event.Give to label register) =
      (nat_lt to shape.nodes, NoNode) ∷ (not (to == i), SelfSend) ∷ register_tests
      (s.desk i) register
  checks shape (event.Post to label first count bytes) =
      (nat_lt to shape.nodes, NoNode) ∷ (not (to == i), SelfSend) ∷ post_tests
      shape (s.desk i) first count (length bytes.now)
  checks shape (event.Accept register) = accept_tests (s.desk i) register
  checks shape (event.Put object place register) =
      put_tests shape.places i (s.desk i) object place register
  checks shape (event.Get object place label) =
      get_tests shape.places i (s.desk i) object place
  checks shape (event.Fetch object label offset count) =
      fetch_tests shape i (s.desk i) object count
  checks shape (event.Resolve register reference) =
      (is_register (s.desk i) register, NoRegister) ∷ (reference.node == i, Remote) ∷ []
  checks shape e = []

  -- The answers that an event may get if it passes these tests. A new object gets any reference of
  -- its node under which no object was made. The number of a message may be any. What is resolved
  -- is a reference under which an object was made.
  abbrev pub IsAnswer : Event → Answer → Type 0
  IsAnswer (event.Alloc register places) a =
      (r : Ref) × (a ≡ answer.New r) × (r.node ≡ i) × (s.objects r ≡ None)
  IsAnswer (event.Load register object place) a =
      a ≡ answer.Value (content_of (object_in object) place)
  IsAnswer (event.Word object) a = a ≡ answer.Word (word_in (object_in object))
  IsAnswer (event.Give to label register) a = (number : ℕ) × (a ≡ answer.Sent number)
  IsAnswer (event.Post to label first count bytes) a = (number : ℕ) × (a ≡ answer.Sent number)
  IsAnswer (event.Accept register) a = a ≡ answer.Letter (told_of (oldest_letter (s.desk i)))
  IsAnswer (event.Put object place register) a = (number : ℕ) × (a ≡ answer.Sent number)
  IsAnswer (event.Get object place label) a = (number : ℕ) × (a ≡ answer.Sent number)
  IsAnswer (event.Fetch object label offset count) a = (number : ℕ) × (a ≡ answer.Sent number)
  IsAnswer (event.Resolve register reference) a =
      (a ≡ answer.Done) × (o : Thing) × (s.objects reference ≡ Some o)
  IsAnswer e a = a ≡ answer.Done

  -- what the program may be told about an event: an answer if every test passes, the refusal of the
  -- first test that fails, or, if none fails, the refusal of a limit
  abbrev pub MayBeTold : Shaped → Event → Result Answer Refusal → Type 0
  MayBeTold shape e (Ok a) = AllPass (checks shape e) × IsAnswer e a
  MayBeTold shape e (Err r) =
      (guarded (checks shape e) s ≡ Err r) ⊎ (AllPass (checks shape e) × IsLimit e r)

  -- What the program is told if it reads this many bytes of an object, from this offset on. That
  -- is no event.
  abbrev pub bytes_told : ℕ → ℕ → ℕ → Result (List ℕ) Refusal
  bytes_told object offset count =
      guarded (own_tests i (s.desk i) object (is_some (object_in object))
      ++ (has_range (bytes_in (object_in object)) offset count, NoBytes) ∷ [])
      (take count (drop offset (bytes_in (object_in object))))

  -- what an answered event does
  abbrev pub does : Event → Answer → Space
  does (event.Alloc register places) a =
      with_desk (with_thing s (new_in a) (Some (new_thing places))) i
      (with_register (s.desk i) register (Some (new_in a)))
  does (event.Copy register source) a = with_desk s i (register_copied (s.desk i) register source)
  does (event.Drop register) a = with_desk s i (with_register (s.desk i) register None)
  does (event.Load register object place) a =
      with_desk s i (with_register (s.desk i) register (content_of (object_in object) place))
  does (event.Store object place register) a = with_place s (named_by object) place (held register)
  does (event.Clear object place) a = with_place s (named_by object) place None
  does (event.SetWord object word) a = with_word s (named_by object) word
  does (event.SetBytes object bytes) a = with_bytes s (named_by object) bytes.now
  does (event.Patch object offset bytes) a = with_patch s (named_by object) offset bytes.now
  does (event.Give to label register) a = posted s i to (body.Give label (held register))
  does (event.Post to label first count bytes) a =
      posted s i to (body.Post label (contents (s.desk i) first count) bytes.now)
  does (event.Accept register) a = with_desk s i (accepting (s.desk i) register)
  does (event.Put object place register) a =
      posted s i (named_by object).node (body.Put (named_by object) place (held register))
  does (event.Get object place label) a =
      posted s i (named_by object).node (body.Get (named_by object) place label)
  does (event.Fetch object label offset count) a =
      posted s i (named_by object).node (body.Fetch (named_by object) label offset count)
  does (event.Resolve register reference) a =
      with_desk s i (with_register (s.desk i) register (Some reference))
  does e a = s

-- ---- what arrives

-- A letter is added; a place is written; the content of a place is sent back, or an object's word
-- and bytes.
abbrev pub follows : Space → ℕ → ℕ → Body → Space
follows s from to (body.Give label reference) =
    with_desk s to (with_letter (s.desk to) (simple_letter from label reference))
follows s from to (body.Post label references bytes) =
    with_desk s to (with_letters (s.desk to) (letters_of from label references bytes))
follows s from to (body.Put target place reference) = with_place s target place reference
follows s from to (body.Get target place label) =
    posted s to from (body.Give label (content_of (s.objects target) place))
follows s from to (body.Fetch target label offset count) =
    posted s to from (body.Post label [] (fetched_of (s.objects target) offset count))
follows s from to b = s

-- the first message in flight arrives
abbrev pub arrives : Space → ℕ → ℕ → List Body → Space
arrives s from to [] = s
arrives s from to (b ∷ bs) = follows (with_messages s from to bs) from to b

-- ---- runs

-- What is seen of a space: a program was told this about an event at its node, or a program's
-- message arrived at one node from another.
pub data Sight : Type 0 where
  told : ℕ → Event → Result Answer Refusal → Sight
  came : ℕ → ℕ → Sight

-- this space may show it
abbrev pub IsSight : Shaped → Space → Sight → Type 0
IsSight shape s (told i e r) =
    (i < shape.nodes) × IsTrue (is_program e) × MayBeTold s i shape e r
IsSight shape s (came from to) =
    (from < shape.nodes) × (to < shape.nodes) × (s.under_way from to ≢ [])

-- the space afterwards
abbrev pub after_sight : Space → Sight → Space
after_sight s (told i e (Ok a)) = does s i e a
after_sight s (told i e (Err r)) = s
after_sight s (came from to) = arrives s from to (s.under_way from to)

-- one sight after another
abbrev pub IsRun : Shaped → Space → List Sight → Type 0
IsRun shape s [] = Unit {0}
IsRun shape s (x ∷ xs) = IsSight shape s x × IsRun shape (after_sight s x) xs

abbrev pub after : Space → List Sight → Space
after s [] = s
after s (x ∷ xs) = after (after_sight s x) xs
