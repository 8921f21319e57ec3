use Rattle.std.proofs.Common.{◌∙◌, arith, sym}
use Rattle.std.proofs.lemmas.Bool.{false≢true}
use Rattle.std.proofs.lemmas.Result.{err_from_is_err_and}
use Rattle.image_parts.specs.Parts.{stored_of}
use Rattle.image.proofs.Logged.{SaysLogged, image_unlogged, logged_image_is, logged_none, long_logged}
use Rattle.image.proofs.Logged.{unread_logged}
use Rattle.image.proofs.restoring.core_from_logged.Goals as goal
use Rattle.image.proofs.restoring.core_from_logged.Goals.{In_ok-layout}

pub returns-then-is_too_long-clause-refused : goal.returns-then-is_too_long-clause-refused
returns-then-is_too_long-clause-refused c =
    long_logged c.args.bytes.now c.requires (c.is_too_long.ensures.0 c.if-is_too_long.true)

pub returns-in_err-layout-clause-refused : goal.returns-in_err-layout-clause-refused
returns-in_err-layout-clause-refused c =
    let p = err_from_is_err_and c.from_residual.result c.from_residual.ensures.1 in
    rw (p.1, p.2) (unread_logged c.args.bytes.now c.requires _ c.in_err-layout.ensures)

-- what was read
said : (c : In_ok-layout) → SaysLogged c.args.bytes.now c.requires c.in_ok-layout.layout
    (stored_of c.in_ok-layout.image)
said c = record {
  are = λ i. omega (arith, c.type_inv.bytes i);
  within = λ long. false≢true (sym c.if-is_too_long.false ∙ c.is_too_long.ensures.1 long);
  says = c.in_ok-layout.ensures;
}

pub restored-requires : goal.restored-requires
restored-requires c =
    (image_unlogged c.args.bytes.now c.requires
    (said (goal.at.restored-requires c).In_ok-layout)).fits

pub returns-clause-read : goal.returns-clause-read
returns-clause-read c =
    logged_image_is c.args.bytes.now c.requires (said (goal.at.returns-clause-read c).In_ok-layout)
    c.restored.result c.restored.ensures.made c.restored.ensures.stands

pub returns-clause-refused : goal.returns-clause-refused
returns-clause-refused c =
    logged_none c.args.bytes.now c.requires (said (goal.at.returns-clause-refused c).In_ok-layout)
    c.restored.result c.restored.ensures.refused
