-- The texts of a trace ("Traces" in docs/FORMATS.md).
use Rattle.std.specs.Prelude.{ℕ, List, ◌++◌, codes, decimal}
use Rattle.ids.specs.Refusals.{number_of}
use Rattle.model.specs.declared.age.Scope.TheVariants as scope
use Rattle.model.specs.declared.event.Event.{Event}
use Rattle.model.specs.declared.event.Event.TheVariants as event
use Rattle.cell.specs.declared.call.Call.{Call}
use Rattle.cell.specs.declared.call.Call.TheVariants.{Alloc, Copy, Drop, Load, Store, Clear, Word, SetWord, SetBytes, Patch, Give, Post, Accept, Put, Get, Fetch, Resolve, Reclaim, ReclaimYoung, Begin, Scan, Pass, Sweep, Next, Data, Ack, Save, Reopen}
use Rattle.cell.specs.declared.call.CallOutcome.{CallOutcome}
use Rattle.cell.specs.declared.call.CallOutcome.TheVariants.{Done, Repeat, Early, Refused}
use Rattle.cell.specs.declared.trace.TraceLine.{TraceLine}

abbrev pub call_of : Event → Call
call_of (event.Alloc register places) = Alloc
call_of (event.Copy register source) = Copy
call_of (event.Drop register) = Drop
call_of (event.Load register object place) = Load
call_of (event.Store object place register) = Store
call_of (event.Clear object place) = Clear
call_of (event.Word object) = Word
call_of (event.SetWord object word) = SetWord
call_of (event.SetBytes object bytes) = SetBytes
call_of (event.Patch object offset bytes) = Patch
call_of (event.Give to label register) = Give
call_of (event.Post to label first count bytes) = Post
call_of (event.Accept register) = Accept
call_of (event.Put object place register) = Put
call_of (event.Get object place label) = Get
call_of (event.Fetch object label offset count) = Fetch
call_of (event.Resolve register reference) = Resolve
call_of (event.Reclaim scope.All) = Reclaim
call_of (event.Reclaim scope.Young) = ReclaimYoung
call_of event.Begin = Begin
call_of event.Scan = Scan
call_of event.Pass = Pass
call_of (event.Sweep count) = Sweep
call_of (event.Next from) = Next
call_of (event.Data d) = Data
call_of (event.Ack a) = Ack

abbrev pub word_of : Call → List ℕ
word_of Alloc = codes "alloc"
word_of Copy = codes "copy"
word_of Drop = codes "drop"
word_of Load = codes "load"
word_of Store = codes "store"
word_of Clear = codes "clear"
word_of Word = codes "word"
word_of SetWord = codes "setword"
word_of SetBytes = codes "setbytes"
word_of Patch = codes "patch"
word_of Give = codes "give"
word_of Post = codes "post"
word_of Accept = codes "accept"
word_of Put = codes "put"
word_of Get = codes "get"
word_of Fetch = codes "fetch"
word_of Resolve = codes "resolve"
word_of Reclaim = codes "reclaim"
word_of ReclaimYoung = codes "reclaim young"
word_of Begin = codes "begin"
word_of Scan = codes "scan"
word_of Pass = codes "pass"
word_of Sweep = codes "sweep"
word_of Next = codes "next"
word_of Data = codes "data"
word_of Ack = codes "ack"
word_of Save = codes "save"
word_of Reopen = codes "reopen"

-- a refusal is written as its number
abbrev pub outcome_text : CallOutcome → List ℕ
outcome_text Done = codes "ok"
outcome_text Repeat = codes "repeat"
outcome_text Early = codes "early"
outcome_text (Refused e) = decimal (number_of e)

abbrev pub line_text : TraceLine → List ℕ
line_text l = word_of l.call ++ (codes " " ++ outcome_text l.outcome)
