-- The meaning of the lines of a script that runs on node threads.
use Rattle.std.specs.Prelude.{ℕ, Bool, true, false, cond, List, [], ◌∷◌, Option, Some, None, codes, option_map}
use Rattle.std.specs.Str.{bytes_eq}
use Rattle.script.specs.Grammar.{line_of, of_two, u16_of, u8_of}
use Rattle.script.specs.declared.line.Line.{Line}
use Rattle.script.specs.declared.line.Line.TheVariants as line
use Rattle.script.specs.declared.run_line.RunLine.{RunLine}
use Rattle.script.specs.declared.run_line.RunLine.TheVariants as said
use Rattle.model.specs.Steps.{is_own, lent}
use Rattle.model.specs.declared.event.Event.{Event}
use Rattle.model.specs.declared.event.Event.TheVariants as event
use Rattle.model.specs.declared.step.Step.{Step}
use Rattle.model.specs.declared.step.Step.TheVariants as step

-- an event that the workers take care of: one of the collector's, or of a message that waits
abbrev pub is_for_workers : Event → Bool
is_for_workers event.Begin = true
is_for_workers event.Scan = true
is_for_workers event.Pass = true
is_for_workers (event.Sweep count) = true
is_for_workers (event.Next from) = true
is_for_workers e = false

-- what a step means here
abbrev pub step_said : Step → Option RunLine
step_said (step.Restart node) = Some (said.Restart node)
step_said (step.Act node e) = cond (is_for_workers e) None (Some (said.Act node e))
step_said s = None

-- what a line means here that asks for an event which only wide spaces have
abbrev pub wide_event_said : Line → Option RunLine
wide_event_said (line.Fetch node object label offset count) =
    Some (said.Act node (event.Fetch object label offset count))
wide_event_said (line.Resolve node register reference) =
    Some (said.Act node (event.Resolve register reference))
wide_event_said (line.Reclaim node scope) = Some (said.Act node (event.Reclaim scope))
wide_event_said l = None

-- what a line that only wide spaces have means here
abbrev pub wide_said : Line → Option RunLine
wide_said (line.SetBytes node object hex) = Some (said.SetBytes node object hex)
wide_said (line.Patch node object offset hex) = Some (said.Patch node object offset hex)
wide_said (line.Bytes node object offset count) = Some (said.Bytes node object offset count)
wide_said (line.Post node to label first count hex) =
    Some (said.Post node to label first count hex)
wide_said (line.Letter node) = Some (said.Letter node)
wide_said l = wide_event_said l

-- what a line of other scripts means here, in a space that is wide or not
abbrev pub shared_of : Bool → Line → Option RunLine
shared_of wide line.Blank = Some said.Blank
shared_of wide (line.Step s) = step_said s
shared_of wide l = cond wide (wide_said l) None

-- the meaning of one, two and three words that aren't a line of other scripts
unfoldable pub with_word : List ℕ → Option RunLine
with_word a = cond (bytes_eq a (codes "cycle")) (Some said.Cycle) None

unfoldable pub with_words : List ℕ → List ℕ → Option RunLine
with_words a b =
    cond (bytes_eq b (codes "trace")) (option_map (λ node. said.Trace node) (u8_of a)) None

unfoldable pub with_all : List ℕ → List ℕ → List ℕ → Option RunLine
with_all a b c =
    cond (bytes_eq a (codes "await"))
    (of_two u8_of u16_of (λ node register. said.Await node register) b c) None

-- the meaning of words that aren't a line of other scripts
unfoldable pub of_runs : List (List ℕ) → Option RunLine
of_runs (a ∷ []) = with_word a
of_runs (a ∷ b ∷ []) = with_words a b
of_runs (a ∷ b ∷ c ∷ []) = with_all a b c
of_runs words = None

-- a line of other scripts means here what it means there, or nothing
abbrev pub said_of : Bool → Option Line → List (List ℕ) → Option RunLine
said_of wide (Some l) words = shared_of wide l
said_of wide None words = of_runs words

-- What a line of these words says in a space that is wide or not, without the address of a word
-- that it borrows, or None if they are outside the grammar there.
abbrev pub run_line_of : Bool → List (List ℕ) → Option RunLine
run_line_of wide words = said_of wide (line_of words) words

-- the line without the address of the word that it borrows
abbrev pub plain_said : RunLine → RunLine
plain_said (said.SetBytes node object hex) = said.SetBytes node object (lent hex.now)
plain_said (said.Patch node object offset hex) = said.Patch node object offset (lent hex.now)
plain_said (said.Post node to label first count hex) =
    said.Post node to label first count (lent hex.now)
plain_said l = l

-- a line whose event, if it has one, is the node's own, so it comes from no other node
abbrev pub is_own_said : RunLine → Bool
is_own_said (said.Act node e) = is_own e
is_own_said l = true
