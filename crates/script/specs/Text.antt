-- What the program prints.
use Rattle.std.specs.Prelude.{ℕ, ◌+◌, Bool, true, false, cond, ◌&&◌, ◌==◌, List, [], ◌∷◌, ◌++◌, codes, decimal}
use Rattle.std.specs.Fmt.{signed_decimal}
use Rattle.ids.specs.declared.refusal.Refusal.{Refusal}
use Rattle.ids.specs.Refusals.{refusal_text}
use Rattle.ids.specs.Texts.{optional_text, reference_text}
use Rattle.script.specs.Frames.{colour_text}
use Rattle.msg.specs.declared.body.Token.{Token}
use Rattle.model.specs.declared.event.Accepted.{Accepted}
use Rattle.model.specs.declared.event.Answer.{Answer}
use Rattle.model.specs.declared.event.Answer.TheVariants as answer
use Rattle.model.specs.declared.step.Outcome.{Outcome}
use Rattle.model.specs.declared.step.Outcome.TheVariants as outcome
use Rattle.model.specs.declared.summary.Summary.{Summary}

-- the letter went into one register, and has no bytes
abbrev pub is_simple : Accepted → Bool
is_simple l = (l.count == 1) && (l.length == 0)

-- into how many registers it went, and how many bytes it has
abbrev pub sizes_text : Accepted → List ℕ
sizes_text l = codes " count " ++ (decimal l.count ++ (codes " bytes " ++ decimal l.length))

-- its sender, its label and its first reference
abbrev pub simple_text : Accepted → List ℕ
simple_text l =
    codes "from " ++ (decimal l.from ++ (codes " label "
    ++ (decimal l.label ++ (codes " " ++ optional_text l.reference))))

abbrev pub letter_text : Accepted → List ℕ
letter_text l = cond (is_simple l) (simple_text l) (simple_text l ++ sizes_text l)

-- the token as it was passed on
abbrev pub passed_text : Token → List ℕ
passed_text t = codes "passed " ++ (signed_decimal t.q ++ (codes " " ++ colour_text t.colour))

-- whether all slots are swept
abbrev pub done_or_more : Bool → List ℕ
done_or_more true = codes "done"
done_or_more false = codes "more"

abbrev pub freed_text : ℕ → Bool → List ℕ
freed_text count done = codes "freed " ++ (decimal count ++ (codes " " ++ done_or_more done))

abbrev pub answer_text : Answer → List ℕ
answer_text (answer.New r) = reference_text r
answer_text answer.Done = codes "ok"
answer_text (answer.Value r) = optional_text r
answer_text (answer.Word n) = decimal n
answer_text (answer.Sent n) = codes "sent " ++ decimal n
answer_text (answer.Letter l) = letter_text l
answer_text (answer.Begun cycle) = codes "cycle " ++ decimal cycle
answer_text (answer.Scanned r) = codes "scanned " ++ reference_text r
answer_text (answer.Passed token) = passed_text token
answer_text answer.ProbeAgain = codes "probe again"
answer_text (answer.Ended cycle) = codes "ended " ++ decimal cycle
answer_text (answer.Reclaimed count) = codes "reclaimed " ++ decimal count
answer_text (answer.Freed count done) = freed_text count done
answer_text answer.Received = codes "received"
answer_text answer.Repeat = codes "repeat"
answer_text answer.Early = codes "early"

-- the outcome of a step that wasn't refused
abbrev pub outcome_text : Outcome → List ℕ
outcome_text (outcome.Answer a) = answer_text a
outcome_text outcome.Done = codes "ok"
outcome_text (outcome.Handed n) = codes "ack " ++ decimal n
outcome_text outcome.NoFrame = codes "no frame"

abbrev pub yes_or_no : Bool → List ℕ
yes_or_no true = codes "yes"
yes_or_no false = codes "no"

-- a node's cycles, its part of the ring, and how much it holds
abbrev pub cycles_text : Summary → List ℕ
cycles_text s = codes "cycle " ++ (decimal s.cycle
    ++ (codes " ended " ++ (decimal s.ended ++ (codes " swept " ++ decimal s.swept))))

abbrev pub ring_text : Summary → List ℕ
ring_text s =
    codes "colour " ++ (colour_text s.colour ++ (codes " old "
    ++ (signed_decimal s.earlier ++ (codes " cur " ++ signed_decimal s.recent))))

abbrev pub counts_text : Summary → List ℕ
counts_text s =
    codes "grey " ++ (decimal s.grey ++ (codes " live "
    ++ (decimal s.live ++ (codes " token "
    ++ (yes_or_no s.has_token ++ (codes " letters " ++ decimal s.letters))))))

-- a node in numbers
abbrev pub summary_text : Summary → List ℕ
summary_text s = cycles_text s ++ (codes " " ++ (ring_text s ++ (codes " " ++ counts_text s)))

-- how many objects the sweeps of a cycle freed
abbrev pub cycle_line : ℕ → ℕ → List ℕ
cycle_line cycle freed =
    codes "cycle " ++ (decimal cycle ++ (codes " freed " ++ (decimal freed ++ (10 ∷ []))))

-- a line for each cycle from this one on
abbrev pub cycle_lines : ℕ → List ℕ → List ℕ
cycle_lines cycle [] = []
cycle_lines cycle (freed ∷ more) = cycle_line cycle freed ++ cycle_lines (cycle + 1) more

-- the lines of a report on all cycles from the first on
abbrev pub report_text : List ℕ → List ℕ
report_text [] = codes "no sweep" ++ (10 ∷ [])
report_text (freed ∷ more) = cycle_lines 1 (freed ∷ more)

-- a step that was refused
abbrev pub refused_text : Refusal → List ℕ
refused_text e = codes "refused " ++ refusal_text e
