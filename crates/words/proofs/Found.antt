-- What the matches of the program's arguments say.
use Rattle.std.proofs.Common.{◌<◌, length, drop, inl, inr, arith, Err, ◌≡◌, ◌∙◌, refl, sym, ap, Bool, true, false, List, [], ◌∷◌, Option, Some, None, Bor, codes}
use Rattle.std.specs.Prelude.{option_map, Box}
use Rattle.std.specs.Box.{box_value}
use Rattle.std.specs.Str.{bytes_eq}
use Rattle.std.proofs.lemmas.Slice.Eq.{bytes_eq-Decides}
use Rattle.std.specs.Option.{ok_or}
use Rattle.clap.specs.Faults.{fault_of}
use Rattle.clap.specs.Kinds.{HasKind}
use Rattle.clap.specs.Values.{kind_of}
use Rattle.clap.specs.Matches.{found_of, first_value, subcommand_name_of}
use Rattle.clap.specs.Simple.{subcommand_of, subcommand_rows, subcommand_rows_of}
use Rattle.clap.specs.Walk.{Text, Row, rows_of}
use Rattle.clap.specs.declared.parser.matches.ArgMatches.{ArgMatches}
use Rattle.clap.specs.declared.parser.matches.ArgMatches.TheViews.{out-ArgMatches, out-SubCommand}
use Rattle.clap.specs.declared.parser.matches.SubCommand.{SubCommand}
use Rattle.clap.proofs.WalkLemmas.{first_value-rows}
use Rattle.words.specs.Called.{Reads, TellsMemory, call_in, call_of, called_of, decode, has_no_dash, program, sim}
use Rattle.words.specs.declared.command.Command.{Command}
use Rattle.words.specs.declared.fault.WordsError.{WordsError}
use Rattle.words.specs.declared.fault.WordsError.TheVariants.{OutOfMemory, Unknown}
use Rattle.words.proofs.Calls.{agrees, known, unknown}
use Rattle.clap.specs.declared.error.Error.{Error}
use Rattle.clap.specs.declared.error.kind.ErrorKind.TheVariants as kind

-- a subcommand's name and matches, from what `ArgMatches::subcommand` says of each
rows_named : {Z : Type 0} (o : Option (Box SubCommand Z)) (name : Text) (rows : List Row)
    → Some name ≡ option_map (λ b. (out-SubCommand (box_value b)).name.now) o
    → Some rows ≡ option_map (λ p. p.1) (subcommand_rows o) → subcommand_rows o ≡ Some (name, rows)
rows_named None name rows named found = cc
rows_named (Some b) name rows named found = cc

different : (a b : Text) → (b ≡ a → ⊥) → bytes_eq a b ≡ false
different a b apart = by (bytes_eq a b) refl
  where
    by : (t : Bool) → bytes_eq a b ≡ t → t ≡ false
    by true same = absurd (apart (sym ((bytes_eq-Decides a b).0 same)))
    by false same = refl

-- the matches are those of a subcommand of this name
module _ (m : ArgMatches) (name : Text) (sub : ArgMatches)
    (named : Some name ≡ subcommand_name_of m)
    (found : Some (rows_of (found_of sub))
    ≡ option_map (λ p. p.1) (subcommand_rows (out-ArgMatches m).subcommand)) where
  rows_are : subcommand_rows_of m ≡ Some (name, rows_of (found_of sub))
  rows_are = rows_named (out-ArgMatches m).subcommand name (rows_of (found_of sub)) named found

  pub says_sim : name ≡ codes "sim" → (script : Option (Bor Text))
      → option_map (λ s. s.now) script ≡ first_value (found_of sub) (codes "script")
      → call_in (subcommand_rows_of m) ≡ Some (sim (option_map (λ s. s.now) script))
  says_sim is_sim script read =
      ap call_in rows_are ∙ ap (λ n. call_in (Some (n, rows_of (found_of sub)))) is_sim
      ∙ ap (λ o. Some (sim o)) (sym (read ∙ first_value-rows (found_of sub) (codes "script")))

  pub says_decode : name ≡ codes "decode" → (hex : Option (Bor Text))
      → option_map (λ s. s.now) hex ≡ first_value (found_of sub) (codes "hex")
      → call_in (subcommand_rows_of m) ≡ option_map (λ h. decode h) (option_map (λ s. s.now) hex)
  says_decode is_decode hex read =
      ap call_in rows_are ∙ ap (λ n. call_in (Some (n, rows_of (found_of sub)))) is_decode
      ∙ ap (option_map (λ h. decode h)) (sym (read ∙ first_value-rows (found_of sub) (codes "hex")))

  pub says_nothing : (name ≡ codes "sim" → ⊥) → (name ≡ codes "decode" → ⊥)
      → call_in (subcommand_rows_of m) ≡ None
  says_nothing no_sim no_decode =
      let sim_apart : bytes_eq (codes "sim") name ≡ false = different (codes "sim") name no_sim in
      let decode_apart : bytes_eq (codes "decode") name ≡ false =
      different (codes "decode") name no_decode in
      ap call_in rows_are ∙ rw (sim_apart, decode_apart) refl

-- more words than the program's name, none of which begins with a dash
module _ (texts : List Text) (more : 1 < length texts) (plain : has_no_dash (drop 1 texts) ≡ true)
  where
    -- `clap` rejects them with this error
    pub read_refused : (e : Error) (fault : WordsError) → HasKind (fault_of program texts) e
        → TellsMemory kind.OutOfMemory (kind_of e) fault
        → Reads (called_of (drop 1 texts)) (Err fault)
    read_refused e OutOfMemory refused tells = tt
    read_refused e Unknown refused tells = at texts more plain refused
      where
        at : (ts : List Text) → 1 < length ts → has_no_dash (drop 1 ts) ≡ true
            → HasKind (fault_of program ts) e → called_of (drop 1 ts) ≡ None
        at [] long undashed has = absurd (omega arith)
        at (self ∷ []) long undashed has = absurd (omega arith)
        at (self ∷ first ∷ words) long undashed has = elim (agrees self first words undashed) [
          | unknown kind kinds some none ↦ none
          | known none said ↦ elim (rw none at has) [
            | inl wanted ↦ let other : Unknown ≡ OutOfMemory = tells.wanted wanted in cc
            | inr among ↦ absurd among
          ]
        ]

    -- `clap` accepts them, with these matches
    pub read_taken : (m : ArgMatches) (command : Option Command) → fault_of program texts ≡ []
        → subcommand_rows_of m ≡ subcommand_of program texts
        → option_map call_of command ≡ call_in (subcommand_rows_of m)
        → Reads (called_of (drop 1 texts)) (ok_or command Unknown)
    read_taken m command faultless matches says =
        by command (sym (at texts more plain faultless matches ∙ sym says))
      where
        at : (ts : List Text) → 1 < length ts → has_no_dash (drop 1 ts) ≡ true
            → fault_of program ts ≡ [] → subcommand_rows_of m ≡ subcommand_of program ts
            → called_of (drop 1 ts) ≡ call_in (subcommand_rows_of m)
        at [] long undashed none found = absurd (omega arith)
        at (self ∷ []) long undashed none found = absurd (omega arith)
        at (self ∷ first ∷ words) long undashed none found =
            elim (agrees self first words undashed) [
              | unknown k ks some said ↦ absurd (let bad : k ∷ ks ≡ [] = sym some ∙ none in cc)
              | known faults said ↦ said ∙ ap call_in (sym found)
            ]

        by : (o : Option Command) → option_map call_of o ≡ called_of (drop 1 texts)
            → Reads (called_of (drop 1 texts)) (ok_or o Unknown)
        by None same = sym same
        by (Some c) same = sym same
