-- What an event does to a node ("Events" in docs/RULES.md). An event is a list of tests, in the
-- order of its refusals, and a total effect. One last test is that all its messages get numbers.
use Rattle.std.specs.Prelude.{ℕ, ◌+◌, Bool, true, false, ◌&&◌, ◌||◌, not, cond, nat_lt, nat_le, ◌==◌, List, [], ◌∷◌, ◌++◌, length, map, Option, Some, None, is_none, option_to_list, Result, Ok, Err, slice_index_or, slice_set}
use Rattle.std.specs.Borrow.{Bor}
use Rattle.ids.specs.Limits.{Shaped}
use Rattle.ids.specs.declared.names.Ref.{Ref}
use Rattle.ids.specs.declared.limits.TheConstants.{GREATEST_LETTER, GREATEST_NUMBER, WINDOW}
use Rattle.ids.specs.declared.refusal.Refusal.{Refusal}
use Rattle.ids.specs.declared.refusal.Refusal.TheVariants.{NoNode, SelfSend, LinkSpent, OutOfOrder, NothingToDo, WrongNode}
use Rattle.msg.specs.Limits.{fetch_fits, is_post}
use Rattle.msg.specs.declared.body.Body.{Body}
use Rattle.msg.specs.declared.body.Body.TheVariants as body
use Rattle.msg.specs.declared.body.Message.{Message}
use Rattle.msg.specs.declared.frame.Ack.{Ack}
use Rattle.model.specs.declared.age.Scope.{Scope}
use Rattle.model.specs.declared.event.Event.{Event}
use Rattle.model.specs.declared.event.Event.TheVariants as event
use Rattle.model.specs.declared.event.Answer.{Answer}
use Rattle.model.specs.declared.event.Answer.TheVariants as answer
use Rattle.model.specs.Checks.{guarded}
use Rattle.model.specs.State.{LocalState, NodeState, register_at, got_from, Object, Heap}
use Rattle.model.specs.Heaps.{with_register, with_place, new_reference, named, object_at, word_of, oldest_letter, with_letter, with_letters, simple_letter, letters_of, told_of, contents, fetched, post_tests, fetch_tests, alloc_heap, place_of, place_loaded, accepting, alloc_tests, copy_tests, drop_tests, load_tests, store_tests, clear_tests, word_tests, put_tests, get_tests, accept_tests, register_tests, set_bytes_tests, patch_tests, resolve_tests, wording, filling, patching, with_rewritten, share_all}
use Rattle.model.specs.Reclaiming.{reclaim_tests, reclaiming, reclaimed}
use Rattle.model.specs.Effects.{Work, at_rest, then, Effect, answers, becomes, unchanged}
use Rattle.model.specs.Counting.{balance_of, counted_down, append}
use Rattle.model.specs.Shading.{filled, is_open, is_calm, see_to, joined}
use Rattle.model.specs.Collecting.{token_sender, begin_tests, begun, scan_tests, scanned, pass_tests, passed, sweep_tests, swept_slots, reports_sweep}

-- ---- receiving ("Receiving" in docs/RULES.md)

-- a message comes from another node
abbrev pub is_addressed : LocalState → ℕ → ℕ → Bool
is_addressed p from to = (to == p.own) && (nat_lt from p.shape.nodes && not (from == p.own))

abbrev pub is_repeat : LocalState → ℕ → ℕ → Bool
is_repeat p from number = nat_le number (got_from p from)

abbrev pub is_next : LocalState → ℕ → ℕ → Bool
is_next p from number = number == got_from p from + 1

-- beyond the next one
abbrev pub is_early : LocalState → ℕ → ℕ → Bool
is_early p from number = nat_lt (got_from p from + 1) number

-- every reference in a message
abbrev pub mentioned : Body → List Ref
mentioned body.Begin = []
mentioned (body.Token token) = []
mentioned (body.Mark target) = target ∷ []
mentioned (body.Give label reference) = option_to_list reference
mentioned (body.Put target place reference) = target ∷ option_to_list reference
mentioned (body.Get target place label) = target ∷ []
mentioned (body.Post label references bytes) = filled references
mentioned (body.Fetch target label offset count) = target ∷ []
mentioned body.Ended = []
mentioned body.Swept = []

-- The references that a message carries, in the order in which they are shaded. A Mark carries
-- none: it only asks about one.
abbrev pub carried : Body → List Ref
carried body.Begin = []
carried (body.Token token) = []
carried (body.Mark target) = []
carried (body.Give label reference) = option_to_list reference
carried (body.Put target place reference) = target ∷ option_to_list reference
carried (body.Get target place label) = target ∷ []
carried (body.Post label references bytes) = filled references
carried (body.Fetch target label offset count) = target ∷ []
carried body.Ended = []
carried body.Swept = []

-- the receiver's object that a message is about
abbrev pub target_of : Body → Option Ref
target_of (body.Mark target) = Some target
target_of (body.Put target place reference) = Some target
target_of (body.Get target place label) = Some target
target_of (body.Fetch target label offset count) = Some target
target_of b = None

abbrev pub is_within : Shaped → Ref → Bool
is_within shape r = nat_lt r.node shape.nodes && nat_lt r.slot shape.slots

abbrev pub are_within : Shaped → List Ref → Bool
are_within shape [] = true
are_within shape (r ∷ rs) = is_within shape r && are_within shape rs

-- The node is in the cycle of a message with this stamp, or past it, or may join it. Node 0 begins
-- cycles and never joins one. Another node joins only the next cycle, once it has swept its own.
abbrev pub may_reach : LocalState → ℕ → Bool
may_reach p stamp =
    nat_le stamp p.phases.cycle
    || (not (p.own == 0)
    && (nat_le stamp (p.phases.cycle + 1) && nat_le p.phases.cycle p.phases.swept))

-- A body that the node may follow if it comes from this sender. The object that it is about is the
-- node's own, and the place one that an object of the space may have. A letter is no larger than
-- the space allows, and isn't asked for more. Only node 0 says that a cycle
-- begins and that marking has ended, and only node 0 is told that a node has swept.
abbrev pub may_follow : LocalState → ℕ → Body → Bool
may_follow p from body.Begin = from == 0
may_follow p from (body.Token token) = from == token_sender p
may_follow p from (body.Mark target) = target.node == p.own
may_follow p from (body.Give label reference) = true
may_follow p from (body.Put target place reference) =
    (target.node == p.own) && nat_lt place p.shape.places
may_follow p from (body.Get target place label) =
    (target.node == p.own) && nat_lt place p.shape.places
may_follow p from (body.Post label references bytes) =
    p.shape.wide
    && (nat_le (length references) p.shape.places && nat_le (length bytes) GREATEST_LETTER)
may_follow p from (body.Fetch target label offset count) =
    (target.node == p.own) && (p.shape.wide && fetch_fits count)
may_follow p from body.Ended = from == 0
may_follow p from body.Swept = p.own == 0

-- the node is in the cycle of this stamp, and doesn't know that its marking has ended
abbrev pub is_marking : LocalState → ℕ → Bool
is_marking p stamp = (stamp == p.phases.cycle) && is_open p

-- What the ring and the sweep require of a node that has joined the message's cycle.
abbrev pub may_settle : LocalState → ℕ → Body → Bool
may_settle p stamp (body.Token token) = is_marking p stamp && is_none p.ring.token
may_settle p stamp body.Ended =
    is_marking p stamp && (is_calm p.heap && is_none p.ring.token)
may_settle p stamp body.Swept = stamp == p.phases.cycle
may_settle p stamp b = true

-- a message that the node may receive in its turn
abbrev pub may_take : LocalState → ℕ → ℕ → Body → Bool
may_take p from stamp b =
    may_reach p stamp
    && (are_within p.shape (mentioned b)
    && (may_follow p from b && may_settle (joined p stamp).local stamp b))

-- The references that the message carries are shaded if it comes from an earlier cycle than the
-- node's, and vouched for if it comes from the same cycle.
abbrev pub take_carried : ℕ → Body → LocalState → Work
take_carried stamp b p = see_to (nat_lt stamp p.phases.cycle) (carried b) p

-- The node's own objects among these become shared.
abbrev pub share : List Ref → LocalState → Work
share rs p = at_rest (record p { heap = share_all p.own p.heap rs })

-- A message that may carry references is sent: what it carries becomes shared, and then it is
-- appended. Nothing else makes an object shared.
abbrev pub post : ℕ → Body → LocalState → Work
post to b p = then (share (carried b) p) (append to b)

-- a place is read for another node: its reference is shaded, and then sent back
abbrev pub answer_get : ℕ → ℕ → Option Ref → LocalState → Work
answer_get from label v p =
    then (see_to true (option_to_list v) p) (post from (body.Give label v))

-- an object's word and bytes are read for another node, and sent back
abbrev pub answer_fetch : ℕ → ℕ → List ℕ → LocalState → Work
answer_fetch from label bytes p = post from (body.Post label [] bytes) p

-- The body is followed. Token: it is held. Mark: the object is shaded. Give and Post: a letter is
-- added. Put: a place is written. Get: the content of a place is sent back. Fetch: a word and bytes
-- are sent back. Ended: marking has ended. Swept: the sender has swept.
unfoldable pub take_body : ℕ → ℕ → Body → LocalState → Work
take_body from stamp body.Begin p = at_rest p
take_body from stamp (body.Token token) p =
    at_rest (record p { ring = record p.ring { token = Some token } })
take_body from stamp (body.Mark target) p = see_to true (target ∷ []) p
take_body from stamp (body.Give label reference) p =
    at_rest (record p { heap = with_letter p.heap (simple_letter from label reference) })
take_body from stamp (body.Put target place reference) p =
    at_rest (record p { heap = with_place p.own p.heap target place reference })
take_body from stamp (body.Get target place label) p =
    answer_get from label (place_of (object_at p.heap target) place) p
take_body from stamp (body.Post label references bytes) p =
    at_rest (record p { heap = with_letters p.heap (letters_of from label references bytes) })
take_body from stamp (body.Fetch target label offset count) p =
    answer_fetch from label (fetched (object_at p.heap target) offset count) p
take_body from stamp body.Ended p =
    at_rest (record p { phases = record p.phases { ended = p.phases.cycle } })
take_body from stamp body.Swept p =
    at_rest (record p {
      phases = record p.phases { reports = slice_set p.phases.reports from stamp };
    })

-- the message counts as received
unfoldable pub count_in : ℕ → ℕ → ℕ → Body → LocalState → LocalState
count_in from number stamp b p =
    record p {
      got = slice_set p.got from number;
      ring = counted_down (balance_of p.phases.cycle stamp b) p.ring;
    }

abbrev pub counted : ℕ → ℕ → ℕ → Body → Work → Work
counted from number stamp b w = record w { local = count_in from number stamp b w.local }

-- A message is taken in by a node that is in its cycle or past it: what it carries is seen to, then
-- its body is followed, and last of all it counts.
unfoldable pub settled : ℕ → ℕ → ℕ → Body → LocalState → Work
settled from number stamp b p =
    counted from number stamp b (then (take_carried stamp b p) (take_body from stamp b))

unfoldable pub taken_in : LocalState → ℕ → ℕ → ℕ → Body → Effect
taken_in p from number stamp b =
    answers (then (joined p stamp) (settled from number stamp b)) answer.Received

-- Whether a message may be received is tested only in its turn.
abbrev pub receipt_tests : LocalState → ℕ → ℕ → ℕ → ℕ → Body → List (Bool × Refusal)
receipt_tests p from to number stamp b =
    (is_addressed p from to, WrongNode)
    ∷ (nat_le number (got_from p from + WINDOW), OutOfOrder)
    ∷ (is_repeat p from number || (is_early p from number || may_take p from stamp b), WrongNode)
    ∷ []

abbrev pub receipt : LocalState → ℕ → ℕ → ℕ → Body → Effect
receipt p from number stamp b =
    cond (is_repeat p from number) (unchanged p answer.Repeat)
    (cond (is_early p from number) (unchanged p answer.Early) (taken_in p from number stamp b))

-- ---- events

-- What an event writes to the heap: a register; registers, which get the references of the oldest
-- letter; an object, while it is live, or a place of it; a new object, which a register then names.
-- Or all slots, as private garbage goes.
pub data Write : Type 0 where
  Sets : ℕ → Option Ref → Write
  Accepts : ℕ → Write
  Rewrites : Ref → (Object → Object) → Write
  Places : Ref → ℕ → Option Ref → Write
  Makes : ℕ → ℕ → Write
  Reclaims : Scope → Write

-- What an event does if its tests pass, with its answer. It reads; or it writes; or it shades what
-- a place holds, and then the register gets it; or it sends one message. The last is for the
-- collector's events and for messages.
pub data Deed : Type 0 where
  Reads : Answer → Deed
  Writes : Write → Answer → Deed
  Loads : ℕ → Option Ref → Deed
  Sends : ℕ → Body → Deed
  Takes : Effect → Deed

-- an event's tests, in the order of its refusals, and what it does
pub record Rule : Type 0 where
  pub tests : List (Bool × Refusal)
  pub deed : Deed

-- One clause for each event. A state keeps no early messages, so Next never finds one. On a node
-- that keeps them, Next acts as the Data event of the waiting message.
abbrev pub rule : LocalState → Event → Rule
rule p (event.Alloc register places) = record {
  tests = alloc_tests p.shape.slots p.shape.places p.heap register places;
  deed = Writes (Makes register places) (answer.New (new_reference p.own p.heap));
}
rule p (event.Copy register source) = record {
  tests = copy_tests p.heap register source;
  deed = Writes (Sets register (register_at p.heap source)) answer.Done;
}
rule p (event.Drop register) = record {
  tests = drop_tests p.heap register;
  deed = Writes (Sets register None) answer.Done;
}
rule p (event.Load register object place) = record {
  tests = load_tests p.own p.heap register object place;
  deed = Loads register (place_loaded p.heap object place);
}
rule p (event.Store object place register) = record {
  tests = store_tests p.own p.heap object place register;
  deed = Writes (Places (named p.heap object) place (register_at p.heap register)) answer.Done;
}
rule p (event.Clear object place) = record {
  tests = clear_tests p.own p.heap object place;
  deed = Writes (Places (named p.heap object) place None) answer.Done;
}
rule p (event.Word object) = record {
  tests = word_tests p.own p.heap object;
  deed = Reads (answer.Word (word_of (object_at p.heap (named p.heap object))));
}
rule p (event.SetWord object word) = record {
  tests = word_tests p.own p.heap object;
  deed = Writes (Rewrites (named p.heap object) (wording word)) answer.Done;
}
rule p (event.SetBytes object bytes) = record {
  tests = set_bytes_tests p.shape p.own p.heap object (length bytes.now);
  deed = Writes (Rewrites (named p.heap object) (filling bytes.now)) answer.Done;
}
rule p (event.Patch object offset bytes) = record {
  tests = patch_tests p.shape p.own p.heap object offset (length bytes.now);
  deed = Writes (Rewrites (named p.heap object) (patching offset bytes.now)) answer.Done;
}
rule p (event.Give to label register) = record {
  tests =
      (nat_lt to p.shape.nodes, NoNode) ∷ (not (to == p.own), SelfSend)
      ∷ register_tests p.heap register;
  deed = Sends to (body.Give label (register_at p.heap register));
}
rule p (event.Post to label first count bytes) = record {
  tests =
      (nat_lt to p.shape.nodes, NoNode) ∷ (not (to == p.own), SelfSend)
      ∷ post_tests p.shape p.heap first count (length bytes.now);
  deed = Sends to (body.Post label (contents p.heap first count) bytes.now);
}
rule p (event.Accept register) = record {
  tests = accept_tests p.heap register;
  deed = Writes (Accepts register) (answer.Letter (told_of (oldest_letter p.heap)));
}
rule p (event.Put object place register) = record {
  tests = put_tests p.shape.places p.own p.heap object place register;
  deed = Sends (named p.heap object).node
      (body.Put (named p.heap object) place (register_at p.heap register));
}
rule p (event.Get object place label) = record {
  tests = get_tests p.shape.places p.own p.heap object place;
  deed = Sends (named p.heap object).node (body.Get (named p.heap object) place label);
}
rule p (event.Fetch object label offset count) = record {
  tests = fetch_tests p.shape p.own p.heap object count;
  deed = Sends (named p.heap object).node (body.Fetch (named p.heap object) label offset count);
}
rule p (event.Resolve register reference) = record {
  tests = resolve_tests p.own p.phases.cycle (is_open p) p.heap register reference;
  deed = Writes (Sets register (Some reference)) answer.Done;
}
rule p (event.Reclaim scope) = record {
  tests = reclaim_tests scope p.heap;
  deed = Writes (Reclaims scope) (answer.Reclaimed (reclaiming scope p.own p.heap).freed);
}
rule p event.Begin = record { tests = begin_tests p; deed = Takes (begun p) }
rule p event.Scan = record { tests = scan_tests p; deed = Takes (scanned p) }
rule p event.Pass = record { tests = pass_tests p; deed = Takes (passed p) }
rule p (event.Sweep count) = record { tests = sweep_tests p; deed = Takes (swept_slots p count) }
rule p (event.Next from) = record {
  tests = (nat_lt from p.shape.nodes, NoNode) ∷ (false, NothingToDo) ∷ [];
  deed = Reads answer.Received;
}
rule p (event.Data d) = record {
  tests = receipt_tests p d.from d.to d.number d.stamp d.body;
  deed = Takes (receipt p d.from d.number d.stamp d.body);
}
rule p (event.Ack a) = record {
  tests = (is_addressed p a.by a.of, WrongNode) ∷ [];
  deed = Reads answer.Done;
}

abbrev pub written : LocalState → Write → Heap
written p (Sets register v) = with_register p.heap register v
written p (Accepts register) = accepting p.heap register
written p (Rewrites r f) = with_rewritten p.heap r f
written p (Places r place v) = with_place p.own p.heap r place v
written p (Makes register places) =
    alloc_heap p.own (not p.shape.wide) p.phases.cycle p.heap register places
written p (Reclaims scope) = reclaimed scope p.own p.heap

-- the register gets what was read
abbrev pub with_loaded : ℕ → Option Ref → LocalState → Work
with_loaded register v p = at_rest (record p { heap = with_register p.heap register v })

-- A message is appended; the answer is its number. For each node, `counts` says how many messages
-- were appended so far.
abbrev pub sends_one : LocalState → List ℕ → ℕ → Body → Effect
sends_one p counts to b =
    answers (post to b p) (answer.Sent (slice_index_or counts to 0 + 1))

abbrev pub carry : LocalState → List ℕ → Deed → Effect
carry p counts (Reads a) = unchanged p a
carry p counts (Writes w a) = becomes p (written p w) a
carry p counts (Loads register v) =
    answers (then (see_to true (option_to_list v) p) (with_loaded register v)) (answer.Value v)
carry p counts (Sends to b) = sends_one p counts to b
carry p counts (Takes x) = x

abbrev pub tests : LocalState → Event → List (Bool × Refusal)
tests p e = (rule p e).tests

-- bytes as an event borrows them
abbrev pub lent : List ℕ → Bor (List ℕ)
lent bytes = record { ref_ptr = (0, 0); now = bytes }

-- the effect of an event
abbrev pub made : LocalState → List ℕ → Event → Effect
made p counts e = carry p counts (rule p e).deed

-- every message gets a number within the limit
abbrev pub fits : List ℕ → List (ℕ × Message) → Bool
fits counts [] = true
fits counts (m ∷ ms) =
    nat_lt (slice_index_or counts m.0 0) GREATEST_NUMBER
    && fits (slice_set counts m.0 (slice_index_or counts m.0 0 + 1)) ms

abbrev pub all_tests : List (Bool × Refusal) → List ℕ → Effect → List (Bool × Refusal)
all_tests ts counts x = ts ++ (fits counts x.sends, LinkSpent) ∷ []

abbrev pub checked : List (Bool × Refusal) → List ℕ → Effect → Result Effect Refusal
checked ts counts x = guarded (all_tests ts counts x) x

abbrev pub effect : LocalState → List ℕ → Event → Result Effect Refusal
effect p counts e = checked (tests p e) counts (made p counts e)

abbrev pub received : LocalState → List ℕ → ℕ → ℕ → ℕ → ℕ → Body → Result Effect Refusal
received p counts from to number stamp b =
    checked (receipt_tests p from to number stamp b) counts (receipt p from number stamp b)

-- each message is appended to what was sent to its receiver
abbrev pub append_all : List (List Message) → List (ℕ × Message) → List (List Message)
append_all sent [] = sent
append_all sent (m ∷ ms) =
    append_all (slice_set sent m.0 (slice_index_or sent m.0 [] ++ m.1 ∷ [])) ms

abbrev pub after : NodeState → Result Effect Refusal → Result (NodeState × Answer) Refusal
after s (Ok x) = Ok (record { local = x.local; sent = append_all s.sent x.sends }, x.answer)
after s (Err e) = Err e

-- an event of a node: the new state and the answer, or the first refusal that applies
unfoldable pub act : NodeState → Event → Result (NodeState × Answer) Refusal
act s e = after s (effect s.local (map length s.sent) e)

-- a message is given to a node
unfoldable pub receive : NodeState → ℕ → ℕ → ℕ → ℕ → Body → Result (NodeState × Answer) Refusal
receive s from to number stamp b =
    after s (received s.local (map length s.sent) from to number stamp b)

-- The acknowledgement that an event brings. It changes no state: a state holds everything that was
-- ever sent, and doesn't record which messages were dropped.
abbrev pub ack_of : Event → Option Ack
ack_of (event.Ack a) = Some a
ack_of e = None

-- an event that comes from no other node
abbrev pub is_own : Event → Bool
is_own (event.Data d) = false
is_own (event.Ack a) = false
is_own e = true

-- An event that shades. It may append any number of Marks, and learns how many only while it looks
-- at each reference in turn. So it may run out of memory before a link shows to be out of numbers.
abbrev pub is_shading : Event → Bool
is_shading (event.Load register object place) = true
is_shading event.Begin = true
is_shading event.Scan = true
is_shading (event.Data d) = true
is_shading e = false

-- an event that frees objects
abbrev pub frees : Event → Bool
frees (event.Sweep count) = true
frees (event.Reclaim scope) = true
frees e = false

-- An event that never fails for lack of memory. A message may allocate only in its turn, or if it
-- is a letter with references and bytes that comes early; and a sweep only to report that it is
-- done.
abbrev pub is_memory_free : LocalState → Event → Bool
is_memory_free p (event.Copy register source) = true
is_memory_free p (event.Drop register) = true
is_memory_free p (event.Store object place register) = true
is_memory_free p (event.Clear object place) = true
is_memory_free p (event.Word object) = true
is_memory_free p (event.SetWord object word) = true
is_memory_free p (event.Patch object offset bytes) = true
is_memory_free p (event.Accept register) = true
is_memory_free p (event.Resolve register reference) = true
is_memory_free p (event.Sweep count) = not (reports_sweep p count)
is_memory_free p (event.Next from) = true
is_memory_free p (event.Data d) =
    not (is_next p d.from d.number) && not (is_post d.body && is_early p d.from d.number)
is_memory_free p (event.Ack a) = true
is_memory_free p e = false
