use Rattle.std.proofs.Common.{◌≡◌, ◌∙◌, [], ap, arith, map, string_bytes, subst}
use Rattle.std.proofs.lemmas.List.{length-map}
use Rattle.std.proofs.lemmas.Result.{err_from_is_err_and}
use Rattle.clap.specs.Words.{HasKind, fault_of, is_simple, is_simple_and_free, subcommand_of}
use Rattle.words.proofs.Found.{read_refused, read_taken}
use Rattle.words.proofs.command.Command.known_in.Goals as goal

pub returns-in_err-matches : goal.returns-in_err-matches
returns-in_err-matches c =
    let texts = map string_bytes c.args.words.now in
    let is = c.in_ok-known.ensures in
    let p = err_from_is_err_and c.from_residual-in_err-matches.result
    c.from_residual-in_err-matches.ensures.1 in
    let refused = subst (λ a. HasKind (fault_of a texts) c.in_err-matches.field-0.0) is
    (c.in_err-matches.ensures.kinds (ap is_simple_and_free is)) in
    rw p.1 (λ plain. read_refused texts (omega (arith, length-map c.args.words.now string_bytes))
    plain c.in_err-matches.field-0.0 p.0 refused p.2)

pub returns : goal.returns
returns c =
    let texts = map string_bytes c.args.words.now in
    let is = c.in_ok-known.ensures in
    let faultless = subst (λ a. fault_of a texts ≡ []) is
    (c.in_ok-matches.ensures.kinds (ap is_simple_and_free is)) in
    let found = (c.in_ok-matches.ensures.matches (ap is_simple is)).1
    ∙ ap (λ a. subcommand_of a texts) is in
    rw c.ok_or.ensures.value
    (λ plain. read_taken texts (omega (arith, length-map c.args.words.now string_bytes)) plain
    c.in_ok-matches.matches c.command_in.result faultless found c.command_in.ensures)
