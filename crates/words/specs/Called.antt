-- The program's arguments: what they ask for, and why they are rejected.
use Rattle.std.specs.Prelude.{◌≡◌, ◌≢◌, ⊤, Bool, true, false, ◌==◌, not, if◌then◌else◌, ℕ, List, [], ◌∷◌, Option, Some, None, Result, Ok, Err, option_and_then, option_map, codes}
use Rattle.std.specs.List.{list_all}
use Rattle.std.specs.Option.{option_map_or}
use Rattle.std.specs.Str.{bytes_eq}
use Rattle.clap.specs.Words.{App, Row, Rule, Shape, first_of, new_app, new_rule, with_rule, with_subcommand}
use Rattle.words.specs.declared.command.Command.{Command}
use Rattle.words.specs.declared.command.Command.TheVariants as command
use Rattle.words.specs.declared.fault.WordsError.{WordsError}
use Rattle.words.specs.declared.fault.WordsError.TheVariants.{OutOfMemory, Unknown}

-- what the program is asked to do
pub data Called : Type 0 where
  -- to run the script in this file, or the one on standard input
  sim : Option (List ℕ) → Called
  -- to print the frame that this word spells
  decode : List ℕ → Called
  -- to run the script in a file on node threads, as the configuration in another file says
  run : List ℕ → List ℕ → Called

abbrev pub call_of : Command → Called
call_of (command.Sim script) = sim (option_map (λ s. s.now) script)
call_of (command.Decode hex) = decode hex.now
call_of (command.Run config script) = run config.now script.now

-- the arguments after `sim`, and after `decode`
abbrev pub sim_of : List (List ℕ) → Option Called
sim_of [] = Some (sim None)
sim_of (script ∷ []) = Some (sim (Some script))
sim_of words = None

abbrev pub decode_of : List (List ℕ) → Option Called
decode_of (hex ∷ []) = Some (decode hex)
decode_of words = None

-- what the arguments mean to `clap`
abbrev pub called_of : List (List ℕ) → Option Called
called_of [] = Some (sim None)
called_of (first ∷ words) =
    if bytes_eq (codes "sim") first then sim_of words
    else (if bytes_eq (codes "decode") first then decode_of words else None)

abbrev pub is_dashed : List ℕ → Bool
is_dashed [] = false
is_dashed (b ∷ bs) = b == 45

abbrev pub has_no_dash : List (List ℕ) → Bool
has_no_dash words = list_all (λ word. not (is_dashed word)) words

-- The positional arguments: all words except the first `--`, which ends the options. `None` if a
-- word before it begins with a dash.
abbrev pub operands : List (List ℕ) → Option (List (List ℕ))
operands [] = Some []
operands (word ∷ words) =
    if bytes_eq word (codes "--") then Some words
    else (if is_dashed word then None else option_map (λ more. word ∷ more) (operands words))

-- none, one and two of them
abbrev pub none_of : List (List ℕ) → Option (List (List ℕ))
none_of [] = Some []
none_of words = None

abbrev pub one_of : List (List ℕ) → Option (List ℕ)
one_of [] = None
one_of (file ∷ words) = option_map (λ none. file) (none_of words)

abbrev pub run_from : List (List ℕ) → Option Called
run_from [] = None
run_from (config ∷ words) = option_map (λ script. run config script) (one_of words)

-- `run` and its two files
abbrev pub run_of : List (List ℕ) → Option Called
run_of [] = None
run_of (name ∷ words) =
    if bytes_eq name (codes "run") then option_and_then run_from (operands words) else None

-- a command that the arguments give is read
abbrev pub IsRead : Option Called → Result Command WordsError → Type 0
IsRead None result = ⊤
IsRead (Some c) (Ok command) = c ≡ call_of command
IsRead (Some c) (Err e) = ⊥

-- what the arguments after the program's name ask for, if none begins with a dash
abbrev pub asked_of : List (List ℕ) → Option Called
asked_of words = option_map_or (λ c. Some c) (run_of words) (called_of words)

-- What the arguments ask for is read, and arguments that ask for nothing are unknown. Either may
-- fail with `OutOfMemory` instead.
abbrev pub Reads : Option Called → Result Command WordsError → Type 0
Reads said (Ok c) = said ≡ Some (call_of c)
Reads said (Err Unknown) = said ≡ None
Reads said (Err OutOfMemory) = ⊤

-- what the name and the matches of a subcommand ask for
abbrev pub call_in : Option (List ℕ × List Row) → Option Called
call_in None = None
call_in (Some (name, rows)) =
    if bytes_eq (codes "sim") name then Some (sim (first_of (codes "script") rows))
    else (if bytes_eq (codes "decode") name then option_map (λ hex. decode hex)
    (first_of (codes "hex") rows) else None)

-- out of memory stays out of memory; any other kind of error means that the arguments are unknown
pub record TellsMemory {K : Type 0} (memory kind : K) (fault : WordsError) : Type 0 where
  pub wanted : kind ≡ memory → fault ≡ OutOfMemory
  pub other : kind ≢ memory → fault ≡ Unknown

-- the words that the program knows, for `clap`
abbrev pub script_rule : Rule
script_rule = new_rule (codes "script")

abbrev pub hex_rule : Rule
hex_rule = record (new_rule (codes "hex")) { required = true }

abbrev pub with_one_word : List ℕ → Rule → Shape
with_one_word name rule = (with_rule (new_app name) rule).top

abbrev pub program : App
program =
    let top = record (new_app (codes "markring")).top { subcommand_required = true } in
    with_subcommand
    (with_subcommand (record { top = top; subs = [] }) (with_one_word (codes "sim") script_rule))
    (with_one_word (codes "decode") hex_rule)
