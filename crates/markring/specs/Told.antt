-- What `run` prints for a line of its script, and the status of the line.
use Rattle.std.specs.Prelude.{◌≡◌, ◌≢◌, ◌⊎◌, ◌<◌, ℕ, ◌+◌, Bool, true, false, max, List, [], ◌∷◌, ◌++◌, codes, decimal, length, map, string_bytes, Option, Some, None, Result, Ok, Err}
use Rattle.std.specs.Io.KnownBytes.{Appends}
use Rattle.std.specs.Str.Lines.{lines}
use Rattle.ids.specs.declared.refusal.Refusal.{Refusal}
use Rattle.ids.specs.declared.refusal.Refusal.TheVariants as refusal
use Rattle.script.specs.Grammar.{words_of}
use Rattle.script.specs.RunLines.{run_line_of}
use Rattle.script.specs.Text.{outcome_text, refused_text}
use Rattle.script.specs.declared.run_line.RunLine.{RunLine}
use Rattle.script.specs.declared.run_line.RunLine.TheVariants as said
use Rattle.model.specs.declared.event.Answer.{Answer}
use Rattle.model.specs.declared.event.Answer.TheVariants as answer
use Rattle.model.specs.declared.step.Outcome.TheVariants as outcome
use Rattle.commands.specs.Script.{hex_bytes, hex_text}
use Rattle.hex.specs.declared.error.FromHexError.{FromHexError}
use Rattle.markring.specs.declared.running.Told.{Told}
use Rattle.markring.specs.declared.running.Told.TheVariants as told

-- texts, each on a line
abbrev pub text_lines : List (List ℕ) → List ℕ
text_lines [] = []
text_lines (text ∷ more) = text ++ ((10 ∷ []) ++ text_lines more)

-- a node's last calls; a dash for no call
abbrev pub trace_text : List (List ℕ) → List ℕ
trace_text [] = codes "-" ++ (10 ∷ [])
trace_text (text ∷ more) = text_lines (text ∷ more)

-- what is printed for the outcome of the line of this number
abbrev pub told_text : ℕ → Told → List ℕ
told_text number told.Nothing = []
told_text number (told.Outcome o) = outcome_text o ++ (10 ∷ [])
told_text number (told.Trace texts) = trace_text (map string_bytes texts.items)
told_text number (told.Bytes text) = string_bytes text ++ (10 ∷ [])
told_text number (told.Refused e) = refused_text e ++ (10 ∷ [])
told_text number (told.NotAccepted last) = refused_text last.refusal ++ (10 ∷ [])
told_text number (told.NoVerdict last) = codes "no verdict" ++ (10 ∷ [])
told_text number told.NoCommand =
    codes "line " ++ (decimal number ++ (codes ": not a command" ++ (10 ∷ [])))

abbrev pub status_after : Told → ℕ
status_after told.Nothing = 0
status_after (told.Outcome o) = 0
status_after (told.Trace texts) = 0
status_after (told.Bytes text) = 0
status_after (told.Refused e) = 1
status_after (told.NotAccepted last) = 1
status_after (told.NoVerdict last) = 1
status_after told.NoCommand = 2

-- an event's answer, or its refusal
abbrev pub told_of : Result Answer Refusal → Told
told_of (Ok answer) = told.Outcome (outcome.Answer answer)
told_of (Err e) = told.Refused e

-- ---- A whole script

-- an outcome or a refusal
abbrev pub IsAnswer : Told → Type 0
IsAnswer (told.Outcome o) = Unit {0}
IsAnswer (told.Refused e) = Unit {0}
IsAnswer t = ⊥

-- the same, or no verdict
abbrev pub IsEnd : Told → Type 0
IsEnd (told.NoVerdict last) = Unit {0}
IsEnd t = IsAnswer t

-- that this cycle has ended, or that the last look showed an earlier one
abbrev pub IsVerdict : ℕ → Told → Type 0
IsVerdict cycle (told.Outcome o) = o ≡ outcome.Answer (answer.Ended cycle)
IsVerdict cycle (told.NoVerdict last) = last.cycle.number < cycle
IsVerdict cycle t = ⊥

-- an answer or a refusal; but that there is no letter only if all workers had ended before
abbrev pub IsAwaited : Told → Type 0
IsAwaited (told.Refused e) = e ≢ refusal.NoLetter
IsAwaited (told.NotAccepted last) = Unit {0}
IsAwaited t = IsAnswer t

-- a trace or a refusal
abbrev pub IsTrace : Told → Type 0
IsTrace (told.Trace texts) = Unit {0}
IsTrace (told.Refused e) = Unit {0}
IsTrace t = ⊥

-- Bytes that a word spells were written or sent, or there was no memory for them. If the word
-- spells none, the line is outside the grammar.
abbrev pub IsWritten : Result (List ℕ) FromHexError → Told → Type 0
IsWritten (Ok bytes) t = IsAnswer t
IsWritten (Err e) t = (t ≡ told.NoCommand) ⊎ (t ≡ told.Refused refusal.Memory)

-- the text spells this many bytes
pub record Spells (count : ℕ) (text : List ℕ) : Type 0 where
  pub bytes : List ℕ
  pub counted : length bytes ≡ count
  pub spelled : text ≡ hex_text bytes

-- as many bytes as were asked for, or a refusal
abbrev pub IsSpelled : ℕ → Told → Type 0
IsSpelled count (told.Bytes text) = Spells count (string_bytes text)
IsSpelled count (told.Refused e) = Unit {0}
IsSpelled count t = ⊥

-- the text spells bytes
pub record SpellsSome (text : List ℕ) : Type 0 where
  pub bytes : List ℕ
  pub spelled : text ≡ hex_text bytes

-- the bytes of a letter, or a refusal
abbrev pub IsLetter : Told → Type 0
IsLetter (told.Bytes text) = SpellsSome (string_bytes text)
IsLetter (told.Refused e) = Unit {0}
IsLetter t = ⊥

-- the line has a meaning only in wide spaces
abbrev pub is_only_wide : RunLine → Bool
is_only_wide (said.SetBytes node object hex) = true
is_only_wide (said.Patch node object offset hex) = true
is_only_wide (said.Bytes node object offset count) = true
is_only_wide (said.Post node to label first count hex) = true
is_only_wide (said.Letter node) = true
is_only_wide l = false

-- what kind of outcome a line has that says this
abbrev pub IsToldOf : Option RunLine → Told → Type 0
IsToldOf None t = t ≡ told.NoCommand
IsToldOf (Some said.Blank) t = t ≡ told.Nothing
IsToldOf (Some (said.Act node e)) t = IsAnswer t
IsToldOf (Some (said.Restart node)) t = IsAnswer t
IsToldOf (Some (said.SetBytes node object hex)) t = IsWritten (hex_bytes hex.now) t
IsToldOf (Some (said.Patch node object offset hex)) t = IsWritten (hex_bytes hex.now) t
IsToldOf (Some (said.Bytes node object offset count)) t = IsSpelled count t
IsToldOf (Some (said.Post node to label first count hex)) t = IsWritten (hex_bytes hex.now) t
IsToldOf (Some (said.Letter node)) t = IsLetter t
IsToldOf (Some said.Cycle) t = IsEnd t
IsToldOf (Some (said.Await node register)) t = IsAwaited t
IsToldOf (Some (said.Trace node)) t = IsTrace t

-- what kind of outcome a line of a script has, if the space is wide or not
abbrev pub IsTold : Bool → List ℕ → Told → Type 0
IsTold wide line t = IsToldOf (run_line_of wide (words_of line)) t

-- a line has such an outcome, which is printed, and the status is that of the outcome
pub record PrintsLine (wide : Bool) (line : List ℕ) (number : ℕ) (old new : Option (List ℕ))
    (status : ℕ)
    : Type 0 where
  pub outcome : Told
  pub of : IsTold wide line outcome
  pub prints : Appends old new (told_text number outcome)
  pub is : status ≡ status_after outcome

-- a line outside the grammar is the last
abbrev pub GoesOn : Told → List Told → Type 0 → Type 0
GoesOn told.NoCommand ts rest = ts ≡ []
GoesOn t ts rest = rest

-- the outcomes of the lines, one by one
abbrev pub AreTold : Bool → List (List ℕ) → List Told → Type 0
AreTold wide [] ts = ts ≡ []
AreTold wide (l ∷ ls) [] = ⊥
AreTold wide (l ∷ ls) (t ∷ ts) = IsTold wide l t × GoesOn t ts (AreTold wide ls ts)

-- what is printed for outcomes, the first of which is that of the line of this number
abbrev pub printed : ℕ → List Told → List ℕ
printed number [] = []
printed number (t ∷ ts) = told_text number t ++ printed (number + 1) ts

-- the status is that of the worst outcome
abbrev pub status_of : List Told → ℕ
status_of [] = 0
status_of (t ∷ ts) = max (status_after t) (status_of ts)

-- The outcomes of the script's lines were printed, and the status is that of the worst. The
-- contents of the output before and afterwards are described if they are known.
pub record PrintsTold (wide : Bool) (script : List ℕ) (status : ℕ) (old new : Option (List ℕ))
    : Type 0 where
  pub outcomes : List Told
  pub follow : AreTold wide (lines script) outcomes
  pub worst : status ≡ status_of outcomes
  pub appended : Appends old new (printed 1 outcomes)
