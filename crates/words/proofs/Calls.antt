-- How `clap` reads arguments that begin with no dash.
use Rattle.std.proofs.Common.{subst, append-nil, ◌≡◌, ◌∙◌, refl, sym, ap, ℕ, Bool, true, false, ◌&&◌, List, [], ◌∷◌, ◌++◌, Option, Some, None, codes, append_assoc}
use Rattle.std.specs.Prelude.{option_map, slice_index_or, if◌then◌else◌, option_and_then, fold}
use Rattle.std.specs.Option.{option_map_or}
use Rattle.std.specs.Str.{bytes_eq}
use Rattle.std.proofs.lemmas.Slice.Eq.{bytes_eq-Decides}
use Rattle.clap.specs.Faults.{defaults_fault, fault_of, level_fault, flag_word_fault, bundle_fault, other_fault, step_fault, turn_fault, walk_fault, word_fault}
use Rattle.clap.specs.Kinds.{Kinds, or_else}
use Rattle.clap.specs.Lexer.{long_of, long_of_rest, short_of, short_of_rest, strip_byte}
use Rattle.clap.specs.Simple.{Shape, built, entered, names_of, rows_at, subcommand_of}
use Rattle.clap.specs.Walk.{Row, walk, after_step, first_of, nothing_held, rows_after, Held, Names, Rule, Text, Walk, arg_by_index, idle, long_or_other, short_or_plain, subcommand_met, subcommand_or_other, to_positional, trailing, value, walked, word_met}
use Rattle.clap.proofs.FaultLemmas.{stopped_fault}
use Rattle.clap.proofs.SimpleLemmas.{is_false}
use Rattle.clap.proofs.WalkLemmas.{both}
use Rattle.clap.specs.declared.error.kind.ErrorKind.{ErrorKind}
use Rattle.clap.specs.declared.error.kind.ErrorKind.TheVariants.{DisplayHelp, InvalidSubcommand, MissingRequiredArgument, UnknownArgument}
use Rattle.words.specs.Called.{Called, call_in, called_of, decode_of, has_no_dash, is_dashed, program, sim, decode, sim_of}

-- such an argument is neither a flag nor `--`
record IsBare (v : Text) : Type 0 where
  pub dashes : bytes_eq v (45 ∷ 45 ∷ []) ≡ false
  pub long : long_of v ≡ None
  pub short : short_of v ≡ None

bare : (v : Text) → is_dashed v ≡ false → IsBare v
bare [] undashed = record { dashes = refl; long = refl; short = refl }
bare (b ∷ bs) undashed =
    record {
      dashes = ap (λ t. t && bytes_eq bs (45 ∷ [])) undashed;
      long = ap (λ t. option_and_then long_of_rest
          (option_and_then (strip_byte 45) (if t then Some bs else None))) undashed;
      short = ap (λ t. option_and_then short_of_rest (if t then Some bs else None)) undashed;
    }

-- before an argument, when no option waits for a value
abbrev ready : Held → ℕ → Walk
ready h position = record {
  held = h;
  waiting = idle;
  position = position;
  is_trailing = false;
  stopped = None;
}

module _ (s : Shape) (names : Names) (h : Held) (position : ℕ) (v : Text)
    (undashed : is_dashed v ≡ false) (unnamed : subcommand_met names idle v ≡ None) where
  met_bare : word_met s.rules names false idle position v h ≡ (h, value)
  met_bare =
      let b = bare v undashed in
      ap (λ o. subcommand_or_other s.rules o idle position v h) unnamed
      ∙ ap (λ t. if t then (h, trailing position) else long_or_other s.rules idle v (long_of v) h)
      b.dashes
      ∙ ap (λ o. long_or_other s.rules idle v o h) b.long
      ∙ ap (λ o. short_or_plain s.rules idle v o h) b.short

  fault_bare : word_fault s names false idle v h ≡ []
  fault_bare =
      let b = bare v undashed in
      ap (λ o. other_fault s o v h) unnamed
      ∙ ap (λ t. if t then [] else flag_word_fault s.rules s.args_override_self (long_of v) v h)
      b.dashes
      ∙ ap (λ o. flag_word_fault s.rules s.args_override_self o v h) b.long
      ∙ ap (λ o. option_map_or (λ flags. bundle_fault s.rules s.args_override_self flags h) o [])
      b.short

  -- it is read as a positional argument
  pub turn_bare : turn_fault s names (ready h position) v ≡ step_fault s position h value
  turn_bare =
      ap (λ k. or_else k (step_fault s position (word_met s.rules names false idle position v h).0
      (word_met s.rules names false idle position v h).1)) fault_bare
      ∙ ap (λ m. step_fault s position m.0 m.1) met_bare

  pub walked_bare : walked s.rules names (ready h position) v
      ≡ to_positional s.rules (arg_by_index s.rules position) v (ready h position) h
  unfolding walked
  walked_bare = ap (λ m. after_step s.rules v (ready h position) m.0 m.1) met_bare

-- the subcommands as they are built
abbrev sim_shape : Shape
sim_shape = slice_index_or (built program).subs 0 (built program).top

abbrev decode_shape : Shape
decode_shape = slice_index_or (built program).subs 1 (built program).top

-- the faults of a subcommand for these arguments
abbrev faults : Shape → List Text → Kinds
faults s words = level_fault s [] nothing_held words false []

-- the value of the named argument in a subcommand's matches for these words
abbrev given : Shape → Text → List Text → Option Text
given s id words = first_of id (rows_after s.rules [] words)

module _ (v u : Text) (words : List Text) (undashed : is_dashed v ≡ false)
    (neither : is_dashed u ≡ false) where
  one_sim : (faults sim_shape (v ∷ []) ≡ []) × (given sim_shape (codes "script") (v ∷ []) ≡ Some v)
  unfolding walk_fault defaults_fault
  one_sim =
      let turn = turn_bare sim_shape [] nothing_held 1 v undashed refl in
      let walk = walked_bare sim_shape [] nothing_held 1 v undashed refl in
      (rw (turn, walk) refl, rw walk refl)

  one_decode : (faults decode_shape (v ∷ []) ≡ [])
      × (given decode_shape (codes "hex") (v ∷ []) ≡ Some v)
  unfolding walk_fault defaults_fault
  one_decode =
      let turn = turn_bare decode_shape [] nothing_held 1 v undashed refl in
      let walk = walked_bare decode_shape [] nothing_held 1 v undashed refl in
      (rw (turn, walk) refl, rw walk refl)

  -- the argument with the first word, before the second
  abbrev after_one : Text → Held
  after_one id = record { rows = []; pending = Some (id, v ∷ []); skip = 0 }

  two_sim : faults sim_shape (v ∷ u ∷ words) ≡ UnknownArgument ∷ []
  unfolding walk_fault
  two_sim =
      let turn = turn_bare sim_shape [] nothing_held 1 v undashed refl in
      let walk = walked_bare sim_shape [] nothing_held 1 v undashed refl in
      let second = turn_bare sim_shape [] (after_one (codes "script")) 2 u neither refl in
      rw (turn, walk) (rw second refl)

  two_decode : faults decode_shape (v ∷ u ∷ words) ≡ UnknownArgument ∷ []
  unfolding walk_fault
  two_decode =
      let turn = turn_bare decode_shape [] nothing_held 1 v undashed refl in
      let walk = walked_bare decode_shape [] nothing_held 1 v undashed refl in
      let second = turn_bare decode_shape [] (after_one (codes "hex")) 2 u neither refl in
      rw (turn, walk) (rw second refl)

-- words after a subcommand belong to the subcommand
walk_stopped : (c : List Rule) (names : Names) (w : Walk) (name : Text) (front words : List Text)
    → fold (walked c names) (record w { stopped = Some (name, front) }) words
    ≡ record w { stopped = Some (name, front ++ words) }
unfolding walked
walk_stopped c names w name front [] =
    ap (λ ws. record w { stopped = Some (name, ws) }) (sym (append-nil front))
walk_stopped c names w name front (v ∷ words) =
    walk_stopped c names w name (front ++ v ∷ []) words
    ∙ ap (λ ws. record w { stopped = Some (name, ws) }) (append_assoc front (v ∷ []) words)

or_else-nil : (kinds : Kinds) → or_else kinds [] ≡ kinds
or_else-nil [] = refl
or_else-nil (k ∷ ks) = refl

abbrev top : Shape
top = (built program).top

abbrev names : Names
names = names_of (built program)

-- before the words, and at a subcommand with words after it
abbrev at_start : Walk
at_start = ready nothing_held 1

abbrev at_name : Text → List Text → Walk
at_name name words = record at_start { stopped = Some (name, words) }

module _ (name : Text) (words : List Text)
    (met : walked top.rules names at_start name ≡ at_name name []) where
  walk_named : walk top.rules names nothing_held (name ∷ words) ≡ at_name name words
  walk_named =
      ap (λ w. fold (walked top.rules names) w words) met
      ∙ walk_stopped top.rules names at_start name [] words

  faults_named : turn_fault top names at_start name ≡ []
      → walk_fault top names at_start (name ∷ words) ≡ []
  unfolding walk_fault
  faults_named none =
      ap (λ k. or_else k (walk_fault top names (walked top.rules names at_start name) words)) none
      ∙ ap (λ w. walk_fault top names w words) met
      ∙ stopped_fault top names at_start (name, []) words

sim_met : walked top.rules names at_start (codes "sim") ≡ at_name (codes "sim") []
unfolding walked
sim_met = refl

decode_met : walked top.rules names at_start (codes "decode") ≡ at_name (codes "decode") []
unfolding walked
decode_met = refl

module _ (self : Text) (words : List Text) where
  sim_found : (fault_of program (self ∷ codes "sim" ∷ words) ≡ faults sim_shape words)
      × (subcommand_of program (self ∷ codes "sim" ∷ words) ≡ Some (rows_at sim_shape words))
  unfolding defaults_fault
  sim_found =
      let walk = walk_named (codes "sim") words sim_met in (
        rw (walk, faults_named (codes "sim") words sim_met refl)
            (or_else-nil (faults sim_shape words)),
        ap (λ (w : Walk). entered (built program) w.stopped) walk,
      )

  decode_found : (fault_of program (self ∷ codes "decode" ∷ words) ≡ faults decode_shape words)
      × (subcommand_of program (self ∷ codes "decode" ∷ words) ≡ Some (rows_at decode_shape words))
  unfolding defaults_fault
  decode_found =
      let walk = walk_named (codes "decode") words decode_met in (
        rw (walk, faults_named (codes "decode") words decode_met refl)
            (or_else-nil (faults decode_shape words)),
        ap (λ (w : Walk). entered (built program) w.stopped) walk,
      )

  -- words that name no subcommand of the program
  help_found : fault_of program (self ∷ codes "help" ∷ words) ≡ DisplayHelp ∷ InvalidSubcommand ∷ []
  unfolding walk_fault
  help_found = refl

  stray_found : (v : Text) → is_dashed v ≡ false → subcommand_met names idle v ≡ None
      → fault_of program (self ∷ v ∷ words) ≡ UnknownArgument ∷ InvalidSubcommand ∷ []
  unfolding walk_fault
  stray_found v undashed unnamed = rw (turn_bare top names nothing_held 1 v undashed unnamed) refl

-- if `clap` finds no fault, the matches give what the words ask for; otherwise the words ask for
-- nothing
pub data Agrees (faults : Kinds) (said : Option Called) (found : Option (Text × List Row)) : Type 0
  where
    known : faults ≡ [] → said ≡ call_in found → Agrees faults said found
    unknown : (kind : ErrorKind) (kinds : Kinds) → faults ≡ kind ∷ kinds → said ≡ None
        → Agrees faults said found

parts : (v : Text) (words : List Text) → has_no_dash (v ∷ words) ≡ true
    → (is_dashed v ≡ false) × (has_no_dash words ≡ true)
parts v words plain = let b = both _ _ plain in (is_false _ b.0, b.1)

sim_agrees : (self : Text) (words : List Text) → has_no_dash words ≡ true
    → Agrees (fault_of program (self ∷ codes "sim" ∷ words)) (sim_of words)
    (subcommand_of program (self ∷ codes "sim" ∷ words))
unfolding walk_fault defaults_fault
sim_agrees self [] plain =
    let found = sim_found self [] in
    known found.0 (sym (ap call_in found.1))
sim_agrees self (v ∷ []) plain =
    let found = sim_found self (v ∷ []) in
    let undashed = (parts v [] plain).0 in
    let one = one_sim v v [] undashed undashed in
    known (found.0 ∙ one.0) (sym (ap call_in found.1 ∙ ap (λ o. Some (sim o)) one.1))
sim_agrees self (v ∷ u ∷ words) plain =
    let found = sim_found self (v ∷ u ∷ words) in
    let p = parts v (u ∷ words) plain in
    let two = two_sim v u words p.0 (parts u words p.1).0 in
    unknown UnknownArgument [] (found.0 ∙ two) refl

decode_agrees : (self : Text) (words : List Text) → has_no_dash words ≡ true
    → Agrees (fault_of program (self ∷ codes "decode" ∷ words)) (decode_of words)
    (subcommand_of program (self ∷ codes "decode" ∷ words))
unfolding walk_fault defaults_fault
decode_agrees self [] plain =
    let found = decode_found self [] in
    unknown MissingRequiredArgument [] found.0 refl
decode_agrees self (v ∷ []) plain =
    let found = decode_found self (v ∷ []) in
    let undashed = (parts v [] plain).0 in
    let one = one_decode v v [] undashed undashed in
    known (found.0 ∙ one.0) (sym (ap call_in found.1 ∙ ap (option_map (λ hex. decode hex)) one.1))
decode_agrees self (v ∷ u ∷ words) plain =
    let found = decode_found self (v ∷ u ∷ words) in
    let p = parts v (u ∷ words) plain in
    let two = two_decode v u words p.0 (parts u words p.1).0 in
    unknown UnknownArgument [] (found.0 ∙ two) refl

-- the same, for the words after the program's own name
abbrev pub AgreesOn : Text → List Text → Text → Type 0
AgreesOn self words first = Agrees (fault_of program (self ∷ first ∷ words))
    (called_of (first ∷ words)) (subcommand_of program (self ∷ first ∷ words))

pub agrees : (self first : Text) (words : List Text) → has_no_dash (first ∷ words) ≡ true
    → AgreesOn self words first
agrees self first words plain =
    by (bytes_eq (codes "sim") first) (bytes_eq (codes "decode") first)
    (bytes_eq (codes "help") first) refl refl refl
  where
    rest : (is_dashed first ≡ false) × (has_no_dash words ≡ true)
    rest = parts first words plain

    by : (s d h : Bool) → bytes_eq (codes "sim") first ≡ s → bytes_eq (codes "decode") first ≡ d
        → bytes_eq (codes "help") first ≡ h → AgreesOn self words first
    by true d h is_sim is_decode is_help =
        subst (AgreesOn self words) ((bytes_eq-Decides (codes "sim") first).0 is_sim)
        (sim_agrees self words rest.1)
    by false true h is_sim is_decode is_help =
        subst (AgreesOn self words) ((bytes_eq-Decides (codes "decode") first).0 is_decode)
        (decode_agrees self words rest.1)
    by false false true is_sim is_decode is_help =
        subst (AgreesOn self words) ((bytes_eq-Decides (codes "help") first).0 is_help)
        (unknown DisplayHelp (InvalidSubcommand ∷ []) (help_found self words) refl)
    by false false false is_sim is_decode is_help =
        let stray = stray_found self words first rest.0 (rw (is_sim, is_decode, is_help) refl) in
        unknown UnknownArgument (InvalidSubcommand ∷ []) stray (rw (is_sim, is_decode) refl)
