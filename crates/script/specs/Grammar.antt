-- The grammar of a script's lines.
use Rattle.std.specs.Prelude.{ℕ, ◌+◌, ◌-◌, ◌*◌, ◌^◌, Bool, true, ◌&&◌, nat_lt, nat_le, cond, ◌==◌, List, [], ◌∷◌, length, filter, Option, Some, None, codes, option_map, option_and_then}
use Rattle.std.specs.Char.{is_ascii_digit}
use Rattle.std.specs.List.{slice_split, list_all, starts_with, before_first, after_first}
use Rattle.std.specs.Str.{bytes_eq}
use Rattle.std.specs.Str.Parse.{digits_value}
use Rattle.ids.specs.declared.names.Ref.{Ref}
use Rattle.script.specs.declared.line.Line.{Line}
use Rattle.script.specs.declared.line.Line.TheVariants as line
use Rattle.script.specs.declared.line.TheConstants.{MOST_DIGITS}
use Rattle.model.specs.declared.age.Scope.TheVariants as scope
use Rattle.model.specs.declared.event.Event.{Event}
use Rattle.model.specs.declared.event.Event.TheVariants as event
use Rattle.model.specs.declared.step.Step.{Step}
use Rattle.model.specs.declared.step.Step.TheVariants as step
use Rattle.model.specs.Steps.{lent}
use Rattle.model.specs.World.{is_own_step}

-- the words of a line, which spaces separate
unfoldable pub words_of : List ℕ → List (List ℕ)
words_of text = filter (λ word. nat_lt 0 (length word)) (slice_split (λ byte. byte == 32) text)

-- at least one digit, at most MOST_DIGITS of them, and nothing else
unfoldable pub is_number : List ℕ → Bool
is_number word =
    nat_lt 0 (length word) && (nat_le (length word) MOST_DIGITS && list_all is_ascii_digit word)

-- the number spelled by the digits of n followed by these, if it is below 2 ^ 64
abbrev pub value_after : ℕ → List ℕ → Option ℕ
value_after n [] = Some n
value_after n (c ∷ cs) =
    let more = n * 10 + (c - 48) in
    cond (is_ascii_digit c) (cond (nat_lt more (2 ^ 64)) (value_after more cs) None) None

-- the number that a word spells, if it is below the limit
abbrev pub number_below : ℕ → List ℕ → Option ℕ
number_below limit word =
    let n = digits_value 10 word in
    cond (is_number word) (cond (nat_lt n limit) (Some n) None) None

-- a number that fits the type of this name
unfoldable pub u8_of : List ℕ → Option ℕ
u8_of word = number_below (2 ^ 8) word

unfoldable pub u16_of : List ℕ → Option ℕ
u16_of word = number_below (2 ^ 16) word

unfoldable pub u32_of : List ℕ → Option ℕ
u32_of word = number_below (2 ^ 32) word

unfoldable pub u64_of : List ℕ → Option ℕ
u64_of word = number_below (2 ^ 64) word

-- values built from numbers, each of which is read from a word in its own way
abbrev pub Number : Type 0
Number = List ℕ → Option ℕ

abbrev pub of_two : {X : Type 0} → Number → Number → (ℕ → ℕ → X) → List ℕ → List ℕ → Option X
of_two first second make a b =
    option_and_then (λ x. option_map (λ y. make x y) (second b)) (first a)

abbrev pub of_three : {X : Type 0} → Number → Number → Number → (ℕ → ℕ → ℕ → X)
    → List ℕ → List ℕ → List ℕ → Option X
of_three first second third make a b c =
    option_and_then (λ x. of_two second third (λ y z. make x y z) b c) (first a)

-- what a verb means with no operand, with one, with two and with three
unfoldable pub with_none : List ℕ → Option Event
with_none verb =
    cond (bytes_eq verb (codes "begin")) (Some event.Begin)
    (cond (bytes_eq verb (codes "scan")) (Some event.Scan)
    (cond (bytes_eq verb (codes "pass")) (Some event.Pass) None))

unfoldable pub with_one : List ℕ → List ℕ → Option Event
with_one verb a =
    cond (bytes_eq verb (codes "drop"))
    (option_map (λ register. event.Drop register) (u16_of a))
    (cond (bytes_eq verb (codes "accept"))
    (option_map (λ register. event.Accept register) (u16_of a))
    (cond (bytes_eq verb (codes "word"))
    (option_map (λ object. event.Word object) (u16_of a))
    (cond (bytes_eq verb (codes "sweep"))
    (option_map (λ count. event.Sweep count) (u32_of a))
    (cond (bytes_eq verb (codes "next"))
    (option_map (λ from. event.Next from) (u8_of a)) None))))

unfoldable pub with_two : List ℕ → List ℕ → List ℕ → Option Event
with_two verb a b =
    cond (bytes_eq verb (codes "alloc"))
    (of_two u16_of u8_of (λ register places. event.Alloc register places) a b)
    (cond (bytes_eq verb (codes "copy"))
    (of_two u16_of u16_of (λ register source. event.Copy register source) a b)
    (cond (bytes_eq verb (codes "clear"))
    (of_two u16_of u8_of (λ object place. event.Clear object place) a b)
    (cond (bytes_eq verb (codes "setword"))
    (of_two u16_of u64_of (λ object word. event.SetWord object word) a b) None)))

unfoldable pub with_three : List ℕ → List ℕ → List ℕ → List ℕ → Option Event
with_three verb a b c =
    cond (bytes_eq verb (codes "give"))
    (of_three u8_of u32_of u16_of (λ to label register. event.Give to label register) a b c)
    (cond (bytes_eq verb (codes "load"))
    (of_three u16_of u16_of u8_of (λ register object place. event.Load register object place) a b c)
    (cond (bytes_eq verb (codes "store"))
    (of_three u16_of u8_of u16_of (λ object place register. event.Store object place register)
    a b c)
    (cond (bytes_eq verb (codes "put"))
    (of_three u16_of u8_of u16_of (λ object place register. event.Put object place register) a b c)
    (cond (bytes_eq verb (codes "get"))
    (of_three u16_of u8_of u32_of (λ object place label. event.Get object place label) a b c)
    None))))

abbrev pub acted : ℕ → Option Event → Option Line
acted node event = option_map (λ e. line.Step (step.Act node e)) event

-- a verb alone after a node's number
unfoldable pub alone : ℕ → List ℕ → Option Line
alone node verb =
    cond (bytes_eq verb (codes "save")) (Some (line.Step (step.Save node)))
    (cond (bytes_eq verb (codes "restart")) (Some (line.Step (step.Restart node)))
    (cond (bytes_eq verb (codes "state")) (Some (line.State node))
    (acted node (with_none verb))))

-- the words after a node's number, if all that follow the verb are numbers of an event or a step
unfoldable pub numbered_of : ℕ → List (List ℕ) → Option Line
numbered_of node (verb ∷ []) = alone node verb
numbered_of node (verb ∷ a ∷ []) = acted node (with_one verb a)
numbered_of node (verb ∷ a ∷ b ∷ []) = acted node (with_two verb a b)
numbered_of node (verb ∷ a ∷ b ∷ c ∷ []) = acted node (with_three verb a b c)
numbered_of node words = None

-- The words after `setbytes`, `patch` and `bytes`. Of the first two, the last word spells bytes; it
-- may be any here.
unfoldable pub set_bytes_of : ℕ → List (List ℕ) → Option Line
set_bytes_of node (a ∷ hex ∷ []) =
    option_map (λ object. line.SetBytes node object (lent hex)) (u16_of a)
set_bytes_of node words = None

unfoldable pub patch_of : ℕ → List (List ℕ) → Option Line
patch_of node (a ∷ b ∷ hex ∷ []) =
    of_two u16_of u32_of (λ object offset. line.Patch node object offset (lent hex)) a b
patch_of node words = None

unfoldable pub bytes_of : ℕ → List (List ℕ) → Option Line
bytes_of node (a ∷ b ∷ c ∷ []) =
    of_three u16_of u32_of u32_of (λ object offset count. line.Bytes node object offset count) a b c
bytes_of node words = None

-- The words after `post`. The last one spells bytes; it may be any here.
unfoldable pub post_of : ℕ → List (List ℕ) → Option Line
post_of node (a ∷ b ∷ c ∷ d ∷ hex ∷ []) =
    option_and_then (λ to. of_three u32_of u16_of u8_of
    (λ label first count. line.Post node to label first count (lent hex)) b c d) (u8_of a)
post_of node words = None

-- the words after `fetch`
unfoldable pub fetch_of : ℕ → List (List ℕ) → Option Line
fetch_of node (a ∷ b ∷ c ∷ d ∷ []) =
    option_and_then (λ object. of_three u32_of u32_of u32_of
    (λ label offset count. line.Fetch node object label offset count) b c d) (u16_of a)
fetch_of node words = None

-- the reference that a word spells: its node, slot and generation, separated by dots
abbrev pub is_dot : ℕ → Bool
is_dot byte = byte == 46

unfoldable pub reference_of : List ℕ → Option Ref
reference_of word =
    of_three u8_of u32_of u64_of
    (λ node slot generation. record { node = node; slot = slot; generation = generation })
    (before_first is_dot word)
    (before_first is_dot (after_first is_dot word))
    (after_first is_dot (after_first is_dot word))

-- the words after `resolve`
unfoldable pub resolve_of : ℕ → List (List ℕ) → Option Line
resolve_of node (a ∷ b ∷ []) =
    option_and_then (λ register.
    option_map (λ reference. line.Resolve node register reference) (reference_of b)) (u16_of a)
resolve_of node words = None

-- nothing after `letter`
unfoldable pub letter_of : ℕ → List (List ℕ) → Option Line
letter_of node [] = Some (line.Letter node)
letter_of node words = None

-- nothing after `reclaim`, or `young`
unfoldable pub reclaim_of : ℕ → List (List ℕ) → Option Line
reclaim_of node [] = Some (line.Reclaim node scope.All)
reclaim_of node (a ∷ []) =
    cond (bytes_eq a (codes "young")) (Some (line.Reclaim node scope.Young)) None
reclaim_of node words = None

-- The words after a node's number, if they are about what only the scripts of wide spaces have:
-- bytes of objects and of letters, letters with several references, spelled references, and private
-- objects.
unfoldable pub only_wide : ℕ → List (List ℕ) → Option Line
only_wide node [] = None
only_wide node (verb ∷ words) =
    cond (bytes_eq verb (codes "setbytes")) (set_bytes_of node words)
    (cond (bytes_eq verb (codes "patch")) (patch_of node words)
    (cond (bytes_eq verb (codes "bytes")) (bytes_of node words)
    (cond (bytes_eq verb (codes "post")) (post_of node words)
    (cond (bytes_eq verb (codes "fetch")) (fetch_of node words)
    (cond (bytes_eq verb (codes "resolve")) (resolve_of node words)
    (cond (bytes_eq verb (codes "letter")) (letter_of node words)
    (cond (bytes_eq verb (codes "reclaim")) (reclaim_of node words) None)))))))

abbrev pub either_of : Option Line → Option Line → Option Line
either_of (Some l) other = Some l
either_of None other = other

-- the words after a node's number
unfoldable pub node_line_of : ℕ → List (List ℕ) → Option Line
node_line_of node words = either_of (numbered_of node words) (only_wide node words)

-- the words after `space`
unfoldable pub space_of : List (List ℕ) → Option Line
space_of (a ∷ b ∷ c ∷ []) =
    of_three u8_of u16_of u32_of (λ nodes registers slots. line.Space nodes registers slots) a b c
space_of words = None

-- the words after `wide`
unfoldable pub wide_of : List (List ℕ) → Option Line
wide_of (a ∷ b ∷ c ∷ d ∷ e ∷ []) =
    option_and_then (λ nodes.
    option_and_then (λ registers.
    of_three u32_of u8_of u32_of
    (λ slots places bytes. line.Wide nodes registers slots places bytes) c d e) (u16_of b))
    (u8_of a)
wide_of words = None

-- the words after `deliver`
unfoldable pub delivery_of : List (List ℕ) → Option Step
delivery_of (a ∷ b ∷ c ∷ []) =
    of_three u8_of u8_of u64_of (λ from to number. step.Deliver from to number) a b c
delivery_of words = None

-- the words after `ack`
unfoldable pub hand_of : List (List ℕ) → Option Step
hand_of (a ∷ b ∷ []) = of_two u8_of u8_of (λ from to. step.Hand from to) a b
hand_of words = None

-- the words after `report`
unfoldable pub report_of : List (List ℕ) → Option Line
report_of [] = Some line.Report
report_of words = None

abbrev pub stepped : Option Step → Option Line
stepped step = option_map (λ s. line.Step s) step

-- the words after a first word, if there are at most three
unfoldable pub by_operands : List ℕ → List (List ℕ) → Option Line
by_operands first words =
    cond (bytes_eq first (codes "space")) (space_of words)
    (cond (bytes_eq first (codes "deliver")) (stepped (delivery_of words))
    (cond (bytes_eq first (codes "ack")) (stepped (hand_of words))
    (cond (bytes_eq first (codes "report")) (report_of words)
    (option_and_then (λ node. node_line_of node words) (u8_of first)))))

unfoldable pub command_of : List ℕ → List (List ℕ) → Option Line
command_of first words =
    cond (bytes_eq first (codes "wide")) (wide_of words) (by_operands first words)

-- What a line of these words says, without the address of a word that it borrows, or None if they
-- are outside the grammar.
unfoldable pub line_of : List (List ℕ) → Option Line
line_of [] = Some line.Blank
line_of (first ∷ words) =
    cond (starts_with (λ x y. x == y) first (codes "#")) (Some line.Blank) (command_of first words)

-- the line without the address of the word that it borrows
abbrev pub plain : Line → Line
plain (line.SetBytes node object hex) = line.SetBytes node object (lent hex.now)
plain (line.Patch node object offset hex) = line.Patch node object offset (lent hex.now)
plain (line.Post node to label first count hex) = line.Post node to label first count (lent hex.now)
plain l = l

-- a line whose event, if it has one, is the node's own, so it comes from no other node
abbrev pub is_own_line : Line → Bool
is_own_line (line.Step s) = is_own_step s
is_own_line line.Blank = true
is_own_line (line.Space nodes registers slots) = true
is_own_line (line.Wide nodes registers slots places bytes) = true
is_own_line (line.SetBytes node object hex) = true
is_own_line (line.Patch node object offset hex) = true
is_own_line (line.Bytes node object offset count) = true
is_own_line (line.Post node to label first count hex) = true
is_own_line (line.Fetch node object label offset count) = true
is_own_line (line.Resolve node register reference) = true
is_own_line (line.Letter node) = true
is_own_line (line.Reclaim node scope) = true
is_own_line (line.State node) = true
is_own_line line.Report = true
