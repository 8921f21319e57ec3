-- The events of the code as plain data, and the two parts of their spellings.
use Rattle.std.specs.Prelude.{◌≡◌, ◌^◌, ◌-◌, ℕ, Bool, false, List, [], ◌++◌, length, min}
use Rattle.codec.specs.Formats.{Behind, byte, number2, number4, ◌&◌, tag}
use Rattle.msg.specs.declared.frame.Ack.{Ack}
use Rattle.msg.specs.declared.frame.Data.{Data}
use Rattle.msg.specs.Limits.{is_post}
use Rattle.model.specs.declared.event.Event.{Event}
use Rattle.model.specs.declared.event.Event.TheVariants as event
use Rattle.event_bytes.specs.Entries.{Entry, alloc, copy, dropped, load, store, clear, word, set_word}
use Rattle.event_bytes.specs.Entries.{set_bytes, patch, give, accept, put, get, post, fetch, resolve, reclaim, begin, scan}
use Rattle.event_bytes.specs.Entries.{pass, sweep, next, received, acknowledged, entry, entry_tag}

abbrev pub received_of : Data → Entry
received_of d = received d.from d.to d.number d.stamp d.body

abbrev pub acknowledged_of : Ack → Entry
acknowledged_of a = acknowledged a.by a.of a.number

abbrev pub entry_of : Event → Entry
entry_of (event.Alloc register places) = alloc register places
entry_of (event.Copy register source) = copy register source
entry_of (event.Drop register) = dropped register
entry_of (event.Load register object place) = load register object place
entry_of (event.Store object place register) = store object place register
entry_of (event.Clear object place) = clear object place
entry_of (event.Word object) = word object
entry_of (event.SetWord object value) = set_word object value
entry_of (event.SetBytes object bytes) = set_bytes object bytes.now
entry_of (event.Patch object offset bytes) = patch object offset bytes.now
entry_of (event.Give to label register) = give to label register
entry_of (event.Accept register) = accept register
entry_of (event.Put object place register) = put object place register
entry_of (event.Get object place label) = get object place label
entry_of (event.Reclaim scope) = reclaim scope
entry_of (event.Post to label first count bytes) = post to label first count bytes.now
entry_of (event.Fetch object label offset count) = fetch object label offset count
entry_of (event.Resolve register reference) = resolve register reference
entry_of event.Begin = begin
entry_of event.Scan = scan
entry_of event.Pass = pass
entry_of (event.Sweep count) = sweep count
entry_of (event.Next from) = next from
entry_of (event.Data d) = received_of d
entry_of (event.Ack a) = acknowledged_of a

-- the bytes that the event brings, with which its spelling ends
abbrev pub tail_of : Event → List ℕ
tail_of (event.SetBytes object bytes) = bytes.now
tail_of (event.Patch object offset bytes) = bytes.now
tail_of (event.Post to label first count bytes) = bytes.now
tail_of e = []

-- how many bytes there are, as far as four bytes can say it
abbrev pub count_of : List ℕ → ℕ
count_of bytes = min (length bytes) (2 ^ 32 - 1)

-- what is before these bytes
abbrev pub start_of : Event → Behind
start_of (event.SetBytes object bytes) =
    tag 18 (number2 & number4) (object, count_of bytes.now)
start_of (event.Patch object offset bytes) =
    tag 19 (number2 & number4 & number4) (object, (offset, count_of bytes.now))
start_of (event.Post to label first count bytes) =
    tag 22 (byte & number4 & number2 & byte & number4)
    (to, (label, (first, (count, count_of bytes.now))))
start_of e = entry_tag (entry_of e)

-- the event is a message with references and bytes, which has no spelling in two parts
abbrev pub is_letter : Event → Bool
is_letter (event.Data d) = is_post d.body
is_letter e = false

-- With the bytes that the event brings behind it, what was added is the spelling of the event.
pub record AddsStart (old new : List ℕ) (e : Event) : Type 0 where
  pub is : new ++ tail_of e ≡ old ++ entry.spell (entry_of e)
  pub known : entry.IsWide (entry_of e)
