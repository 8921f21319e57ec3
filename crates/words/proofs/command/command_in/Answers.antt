use Rattle.std.proofs.Common.{◌∙◌, sym, ap, Some, None, option_map}
use Rattle.words.specs.Called.{call_of}
use Rattle.words.proofs.Found.{says_decode, says_nothing, says_sim}
use Rattle.words.proofs.command.command_in.Goals as goal

pub returns-in_err-get_str-in-decode-default : goal.returns-in_err-get_str-in-decode-default
returns-in_err-get_str-in-decode-default c =
    let found = c.in_ok-sim.field-0 in
    let ensures = c.in_ok-sim.ensures in
    let none = says_decode c.args.matches.now found.0.now found.1.now ensures.name ensures.rows
    c.in-decode-default.is-decode-0 None c.in_err-get_str-in-decode-default.ensures in
    ap (option_map call_of) c.from_residual-in_err-get_str-in-decode-default.ensures ∙ sym none

pub returns-in-sim-default : goal.returns-in-sim-default
returns-in-sim-default c =
    let found = c.in_ok-sim.field-0 in
    let ensures = c.in_ok-sim.ensures in
    sym (says_sim c.args.matches.now found.0.now found.1.now ensures.name ensures.rows
    c.in-sim-default.is-sim-0 c.get_str.result c.get_str.ensures)

pub returns-in_ok-get_str-in-decode-default : goal.returns-in_ok-get_str-in-decode-default
returns-in_ok-get_str-in-decode-default c =
    let found = c.in_ok-sim.field-0 in
    let ensures = c.in_ok-sim.ensures in
    sym (says_decode c.args.matches.now found.0.now found.1.now ensures.name ensures.rows
    c.in-decode-default.is-decode-0 (Some c.in_ok-get_str-in-decode-default.field-0)
    c.in_ok-get_str-in-decode-default.ensures)

pub returns-in_default : goal.returns-in_default
returns-in_default c =
    let found = c.in_ok-sim.field-0 in
    let ensures = c.in_ok-sim.ensures in
    sym (says_nothing c.args.matches.now found.0.now found.1.now ensures.name ensures.rows
    c.in_default.not-sim-0 c.in_default.not-decode-0)
