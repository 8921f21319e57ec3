-- What a script prints, and its exit status.
use Rattle.std.specs.Prelude.{◌≡◌, ◌≢◌, ℕ, ◌+◌, true, max, List, [], ◌∷◌, ◌++◌, ◌⊎◌, Option, Some, None, Result, Ok, Err, OnOk, IfErr, codes, decimal, replicate, cond, Bool, false, string_bytes}
use Rattle.std.specs.Io.KnownBytes.{Appends}
use Rattle.std.specs.Str.Lines.{lines}
use Rattle.std.specs.Borrow.{Bor}
use Rattle.std.specs.Str.{bytes_eq}
use Rattle.hex.specs.Hex.{decode_of, encode_lower}
use Rattle.hex.specs.declared.error.FromHexError.{FromHexError}
use Rattle.ids.specs.Limits.{Shaped, IsShape, plain_shape, wide_shape}
use Rattle.ids.specs.declared.refusal.Refusal.{Refusal}
use Rattle.ids.specs.declared.refusal.Refusal.TheVariants.{Memory, NoNode, ImageTooLarge}
use Rattle.model.specs.declared.event.Event.{Event}
use Rattle.model.specs.declared.event.Event.TheVariants as event
use Rattle.commands.specs.declared.bytes.Writing.{Writing}
use Rattle.commands.specs.declared.bytes.Writing.TheVariants as writing
use Rattle.model.specs.World.{World, IsStepRefusal, acknowledged, new_world, is_step_memory_free, take_step}
use Rattle.model.specs.declared.step.Outcome.{Outcome}
use Rattle.model.specs.declared.step.Outcome.TheVariants as outcome
use Rattle.model.specs.declared.step.Step.{Step}
use Rattle.model.specs.declared.step.Step.TheVariants as step
use Rattle.model.specs.State.{node_at}
use Rattle.model.specs.View.{NodeView}
use Rattle.image.specs.Images.{IsTooLarge}
use Rattle.script.specs.declared.line.Line.{Line}
use Rattle.script.specs.declared.line.Line.TheVariants as line
use Rattle.std.specs.declared.io.ErrorKind.TheVariants as kind
use Rattle.commands.specs.declared.reading.Unread.{Unread}
use Rattle.commands.specs.declared.simulation.Reply.{Reply}
use Rattle.commands.specs.declared.simulation.Reply.TheVariants as reply
use Rattle.commands.specs.declared.simulation.State.{State}
use Rattle.commands.specs.declared.simulation.State.TheVariants as state
use Rattle.commands.specs.Freed.{KeepsSums, freed_after}
use Rattle.script.specs.Grammar.{line_of, words_of}
use Rattle.world.specs.Shows.{ShowsNode, summary_at, bytes_read, letter_bytes_read}
use Rattle.world.specs.Spaces.{KeepsAfter, ShowsSpace, step_met}
use Rattle.script.specs.Text.{outcome_text, refused_text, report_text, summary_text}
use Rattle.node.specs.Keeping.{Rings, no_rings}
use Rattle.model.specs.declared.summary.Summary.{Summary}

-- the space of a script: not asked for yet, refused because memory ran out, or there
pub data Held : Type 0 where
  awaited : Held
  denied : Held
  -- with the messages that its nodes keep until their turn, and how many objects the sweeps of each
  -- cycle freed
  there : World → List Rings → List ℕ → Held

-- the program's space shows that of the definitions and keeps these messages; the program also
-- keeps the sums
abbrev pub ShowsHeld : State → Held → Type 0
ShowsHeld state.Unopened awaited = Unit {0}
ShowsHeld (state.Refused e) denied = e ≡ Memory
ShowsHeld (state.Open s f) (there w all sums) =
    ShowsSpace s w × (s.early ≡ all) × KeepsSums f.sums sums
ShowsHeld s h = ⊥

-- whatever the old state shows, the new one shows the result of this change
abbrev pub Moves : (Held → Held → Type 0) → State → State → Type 0
Moves becomes old new =
    (h : Held) → ShowsHeld old h → (later : Held) × becomes h later × ShowsHeld new later

-- The step saves a node, and an image of a node that shows its state is too large. A state doesn't
-- say which messages the node has dropped.
abbrev pub MayBeTooLarge : World → Step → Type 0
MayBeTooLarge w (step.Save i) =
    (n : NodeView)
    × ShowsNode (node_at w.saved i) (acknowledged w i) n (node_at w.current i)
    × IsTooLarge n
MayBeTooLarge w s = ⊥

-- A step is refused like this, on a space whose nodes keep these messages. A step that allocates
-- nothing isn't refused for lack of memory, and `ImageTooLarge` comes only from a save of an image
-- that is too large.
pub record RefusesStep (w : World) (all : List Rings) (step : Step) (e : Refusal) : Type 0 where
  pub first : IsStepRefusal w (step_met all step) e
  pub memory_free : is_step_memory_free w (step_met all step) ≡ true → e ≢ Memory
  pub too_large : e ≡ ImageTooLarge → MayBeTooLarge w step

-- What is printed for a step of a space that is there, and the space afterwards, with the messages
-- that its nodes keep and the sums.
abbrev pub IsStepReply : World → List Rings → List ℕ → Step → Reply → Held → Type 0
IsStepReply w all sums step (reply.Outcome o) later =
    (v : World) × (kept : List Rings) × (take_step w (step_met all step) ≡ Ok (v, o))
    × KeepsAfter w all step (Ok o) kept
    × (later ≡ there v kept (freed_after v step o sums))
IsStepReply w all sums step (reply.Refused e) later =
    (kept : List Rings) × RefusesStep w all step e × KeepsAfter w all step (Err e) kept
    × (later ≡ there w kept sums)
IsStepReply w all sums step reply.Nothing later = ⊥
IsStepReply w all sums step (reply.Summary s) later = ⊥
IsStepReply w all sums step (reply.Report freed) later = ⊥
IsStepReply w all sums step (reply.Bytes text) later = ⊥
IsStepReply w all sums step reply.NoCommand later = ⊥

abbrev pub TakesStep : Held → Step → Reply → Held → Type 0
TakesStep awaited step r later = (r ≡ reply.NoCommand) × (later ≡ awaited)
TakesStep denied step r later = (r ≡ reply.Refused Memory) × (later ≡ denied)
TakesStep (there w all sums) step r later = IsStepReply w all sums step r later

-- a step was taken, and this is the line with its outcome
pub record StepTaken (s : Step) (old new : State) (line : List ℕ) : Type 0 where
  pub outcome : Outcome
  pub answers : Moves (λ h later. TakesStep h s (reply.Outcome outcome) later) old new
  pub text : line ≡ outcome_text outcome ++ (10 ∷ [])

-- a step was refused
abbrev pub StepRefused : Step → State → State → Refusal → Type 0
StepRefused s old new e = Moves (λ h later. TakesStep h s (reply.Refused e) later) old new

-- a step was taken, and this is the line with its outcome; or it was refused
pub record StepDone (s : Step) (result : Result (Unit {0}) Refusal) (old new : State)
    (line : List ℕ) : Type 0 where
  pub taken : OnOk result (StepTaken s old new line)
  pub refused : IfErr result (λ e. StepRefused s old new e)

-- what is printed for a node in numbers, if there is such a node
abbrev pub state_reply : Option Summary → Reply
state_reply (Some s) = reply.Summary s
state_reply None = reply.Refused NoNode

abbrev pub TakesState : Held → ℕ → Reply → Held → Type 0
TakesState awaited node r later = (r ≡ reply.NoCommand) × (later ≡ awaited)
TakesState denied node r later = (r ≡ reply.Refused Memory) × (later ≡ denied)
TakesState (there w all sums) node r later =
    (r ≡ state_reply (summary_at w node)) × (later ≡ there w all sums)

-- the sums are printed; memory for them runs out only if there was a sweep
abbrev pub IsReport : List ℕ → Reply → Type 0
IsReport sums (reply.Report freed) = freed.items ≡ sums
IsReport sums (reply.Refused e) = (e ≡ Memory) × (sums ≢ [])
IsReport sums r = ⊥

abbrev pub TakesReport : Held → Reply → Held → Type 0
TakesReport awaited r later = (r ≡ reply.NoCommand) × (later ≡ awaited)
TakesReport denied r later = (r ≡ reply.Refused Memory) × (later ≡ denied)
TakesReport (there w all sums) r later = IsReport sums r × (later ≡ there w all sums)

-- ---- bytes of objects and of letters

-- the bytes that a word spells, with two hexadecimal digits for each; `-` spells none
abbrev pub hex_bytes : List ℕ → Result (List ℕ) FromHexError
hex_bytes word = cond (bytes_eq word (codes "-")) (Ok []) (decode_of word)

-- what spells these bytes in an answer
abbrev pub hex_text : List ℕ → List ℕ
hex_text [] = codes "-"
hex_text (b ∷ bs) = encode_lower (b ∷ bs)

abbrev pub wide_in : Option Summary → Bool
wide_in None = false
wide_in (Some s) = s.shape.wide

abbrev pub is_wide : World → Bool
is_wide w = wide_in (summary_at w 0)

-- A line that only the scripts of wide spaces have means this there.
pub record OnlyInWide (w : World) (h : Held) (Means : Reply → Held → Type 0) (r : Reply)
    (later : Held) : Type 0 where
  pub wide : is_wide w ≡ true → Means r later
  pub plain : is_wide w ≡ false → (r ≡ reply.NoCommand) × (later ≡ h)

-- the event that writes or sends these bytes
abbrev pub writes : Writing → Bor (List ℕ) → Event
writes (writing.All object) bytes = event.SetBytes object bytes
writes (writing.Part object offset) bytes = event.Patch object offset bytes
writes (writing.Letter to label first count) bytes = event.Post to label first count bytes

-- An event writes or sends the bytes that a word spells. If the word spells none, the line is
-- outside the grammar.
abbrev pub WritesBytes : Held → Result (List ℕ) FromHexError → (Bor (List ℕ) → Step) → Reply → Held
    → Type 0
WritesBytes h (Err e) s r later = (r ≡ reply.NoCommand) × (later ≡ h)
WritesBytes h (Ok bytes) s r later =
    (b : Bor (List ℕ)) × (b.now ≡ bytes) × TakesStep h (s b) r later

-- the same, or there is no memory for the bytes
abbrev pub TakesBytes : Held → Result (List ℕ) FromHexError → (Bor (List ℕ) → Step) → Reply → Held
    → Type 0
TakesBytes h spelled s r later =
    WritesBytes h spelled s r later ⊎ ((r ≡ reply.Refused Memory) × (later ≡ h))

-- a step that only the scripts of wide spaces ask for
abbrev pub TakesWide : Held → Step → Reply → Held → Type 0
TakesWide awaited s r later = (r ≡ reply.NoCommand) × (later ≡ awaited)
TakesWide denied s r later = (r ≡ reply.Refused Memory) × (later ≡ denied)
TakesWide (there w all sums) s r later =
    OnlyInWide w (there w all sums) (TakesStep (there w all sums) s) r later

abbrev pub TakesWrite : Held → List ℕ → (Bor (List ℕ) → Step) → Reply → Held → Type 0
TakesWrite awaited word s r later = (r ≡ reply.NoCommand) × (later ≡ awaited)
TakesWrite denied word s r later = (r ≡ reply.Refused Memory) × (later ≡ denied)
TakesWrite (there w all sums) word s r later =
    OnlyInWide w (there w all sums) (TakesBytes (there w all sums) (hex_bytes word) s) r later

-- the bytes that were read are printed, unless there is no memory for their text
abbrev pub IsRead : Result (List ℕ) Refusal → Reply → Type 0
IsRead (Ok bytes) (reply.Bytes text) = string_bytes text ≡ hex_text bytes
IsRead (Ok bytes) (reply.Refused e) = e ≡ Memory
IsRead (Ok bytes) r = ⊥
IsRead (Err e) r = r ≡ reply.Refused e

abbrev pub TakesRead : Held → (World → Result (List ℕ) Refusal) → Reply → Held → Type 0
TakesRead awaited read r later = (r ≡ reply.NoCommand) × (later ≡ awaited)
TakesRead denied read r later = (r ≡ reply.Refused Memory) × (later ≡ denied)
TakesRead (there w all sums) read r later =
    OnlyInWide w (there w all sums)
    (λ r later. IsRead (read w) r × (later ≡ there w all sums)) r later

-- ---- lines

-- the messages that the nodes of a new space keep
abbrev pub none_kept : ℕ → List Rings
none_kept nodes = replicate nodes (no_rings nodes)

-- a space of these sizes is created, or refused because memory ran out
abbrev pub IsNewReply : Shaped → Reply → Held → Type 0
IsNewReply sizes r later =
    ((r ≡ reply.Outcome outcome.Done)
    × (later ≡ there (new_world sizes) (none_kept sizes.nodes) []))
    ⊎ ((r ≡ reply.Refused Memory) × (later ≡ denied))

abbrev pub TakesSpace : Held → Shaped → Reply → Held → Type 0
TakesSpace awaited sizes r later = IsNewReply sizes r later
TakesSpace denied sizes r later = (r ≡ reply.NoCommand) × (later ≡ denied)
TakesSpace (there w all sums) sizes r later =
    (r ≡ reply.NoCommand) × (later ≡ there w all sums)

-- `space` or `wide` occurs only once and first, and its sizes are within the limits
pub record AsksSpace (h : Held) (sizes : Shaped) (r : Reply) (later : Held) : Type 0 where
  pub within : IsShape sizes → TakesSpace h sizes r later
  pub outside : (IsShape sizes → ⊥) → (r ≡ reply.NoCommand) × (later ≡ h)

-- the line has a meaning only in the scripts of wide spaces
abbrev pub is_wide_line : Line → Bool
is_wide_line (line.SetBytes node object hex) = true
is_wide_line (line.Patch node object offset hex) = true
is_wide_line (line.Bytes node object offset count) = true
is_wide_line (line.Post node to label first count hex) = true
is_wide_line (line.Fetch node object label offset count) = true
is_wide_line (line.Resolve node register reference) = true
is_wide_line (line.Letter node) = true
is_wide_line (line.Reclaim node scope) = true
is_wide_line l = false

-- what is printed for a line that says this, and the space afterwards
abbrev pub TakesLine : Held → Option Line → Reply → Held → Type 0
TakesLine h None r later = (r ≡ reply.NoCommand) × (later ≡ h)
TakesLine h (Some line.Blank) r later = (r ≡ reply.Nothing) × (later ≡ h)
TakesLine h (Some (line.Space nodes registers slots)) r later =
    AsksSpace h (plain_shape nodes registers slots) r later
TakesLine h (Some (line.Wide nodes registers slots places bytes)) r later =
    AsksSpace h (wide_shape nodes registers slots places bytes) r later
TakesLine h (Some (line.Step step)) r later = TakesStep h step r later
TakesLine h (Some (line.SetBytes node object hex)) r later =
    TakesWrite h hex.now (λ b. step.Act node (writes (writing.All object) b)) r later
TakesLine h (Some (line.Patch node object offset hex)) r later =
    TakesWrite h hex.now (λ b. step.Act node (writes (writing.Part object offset) b)) r later
TakesLine h (Some (line.Bytes node object offset count)) r later =
    TakesRead h (λ w. bytes_read w node object offset count) r later
TakesLine h (Some (line.Post node to label first count hex)) r later =
    TakesWrite h hex.now (λ b. step.Act node (writes (writing.Letter to label first count) b)) r
    later
TakesLine h (Some (line.Fetch node object label offset count)) r later =
    TakesWide h (step.Act node (event.Fetch object label offset count)) r later
TakesLine h (Some (line.Resolve node register reference)) r later =
    TakesWide h (step.Act node (event.Resolve register reference)) r later
TakesLine h (Some (line.Letter node)) r later = TakesRead h (λ w. letter_bytes_read w node) r later
TakesLine h (Some (line.Reclaim node scope)) r later =
    TakesWide h (step.Act node (event.Reclaim scope)) r later
TakesLine h (Some (line.State node)) r later = TakesState h node r later
TakesLine h (Some line.Report) r later = TakesReport h r later

-- the same for the text of a line
abbrev pub TakesText : Held → List ℕ → Reply → Held → Type 0
TakesText h text r later = TakesLine h (line_of (words_of text)) r later

-- what is printed for the reply to the line of this number
abbrev pub reply_text : ℕ → Reply → List ℕ
reply_text number reply.Nothing = []
reply_text number (reply.Outcome o) = outcome_text o ++ (10 ∷ [])
reply_text number (reply.Summary s) = summary_text s ++ (10 ∷ [])
reply_text number (reply.Report freed) = report_text freed.items
reply_text number (reply.Bytes text) = string_bytes text ++ (10 ∷ [])
reply_text number (reply.Refused e) = refused_text e ++ (10 ∷ [])
reply_text number reply.NoCommand =
    codes "line " ++ (decimal number ++ (codes ": not a command" ++ (10 ∷ [])))

-- what is printed for replies, the first of which is to the line of this number
abbrev pub printed : ℕ → List Reply → List ℕ
printed number [] = []
printed number (r ∷ rs) = reply_text number r ++ printed (number + 1) rs

abbrev pub status_after : Reply → ℕ
status_after reply.Nothing = 0
status_after (reply.Outcome o) = 0
status_after (reply.Summary s) = 0
status_after (reply.Report freed) = 0
status_after (reply.Bytes text) = 0
status_after (reply.Refused e) = 1
status_after reply.NoCommand = 2

-- A line that changes the space like this has a reply; the reply is printed, and the status is that
-- of the reply.
pub record PrintsReply (takes : Held → Reply → Held → Type 0) (number : ℕ) (old new : State)
    (before after : Option (List ℕ)) (status : ℕ) : Type 0 where
  pub reply : Reply
  pub answers : Moves (λ h later. takes h reply later) old new
  pub prints : Appends before after (reply_text number reply)
  pub is : status ≡ status_after reply

-- the status is that of the worst reply
abbrev pub status_of : List Reply → ℕ
status_of [] = 0
status_of (r ∷ rs) = max (status_after r) (status_of rs)

-- a line outside the grammar is the last
abbrev pub GoesOn : Reply → List Reply → Type 0 → Type 0
GoesOn reply.NoCommand rs rest = rs ≡ []
GoesOn r rs rest = rest

-- the replies to the lines, one by one
abbrev pub Replies : Held → List (List ℕ) → List Reply → Type 0
Replies h [] rs = rs ≡ []
Replies h (l ∷ ls) [] = ⊥
Replies h (l ∷ ls) (r ∷ rs) =
    (later : Held) × TakesText h l r later × GoesOn r rs (Replies later ls rs)

-- The program printed the replies to the script's lines, and its exit status is that of the worst.
-- The contents of the output before and afterwards are described if they are known.
pub record PrintsReplies (script : List ℕ) (status : ℕ) (old new : Option (List ℕ)) : Type 0 where
  pub replies : List Reply
  pub follow : Replies awaited (lines script) replies
  pub worst : status ≡ status_of replies
  pub appended : Appends old new (printed 1 replies)

-- the program printed why it couldn't read a text
pub record PrintsUnread (why : Unread) (status : ℕ) (old new : Option (List ℕ)) : Type 0 where
  pub memory : why.kind ≡ kind.OutOfMemory
      → (status ≡ 1) × Appends old new (refused_text Memory ++ (10 ∷ []))
  pub other : why.kind ≢ kind.OutOfMemory
      → (status ≡ 2) × Appends old new (codes "file refused" ++ (10 ∷ []))
