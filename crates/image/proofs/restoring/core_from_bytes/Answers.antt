use Rattle.std.proofs.Common.{◌∙◌, arith, sym}
use Rattle.std.proofs.lemmas.Bool.{false≢true}
use Rattle.std.proofs.lemmas.Result.{err_from_is_err_and}
use Rattle.image_parts.specs.Grammar.{IsImage}
use Rattle.image_parts.specs.Parts.{stored_of}
use Rattle.image.proofs.Made.{is_image, is_none, too_long, unread}
use Rattle.image_parts.proofs.Readings.{spelled_so}
use Rattle.image.proofs.restoring.core_from_bytes.Goals as goal
use Rattle.image.proofs.restoring.core_from_bytes.Goals.{In_ok-layout}

pub returns-then-is_too_long-clause-refused : goal.returns-then-is_too_long-clause-refused
returns-then-is_too_long-clause-refused c =
    too_long c.args.bytes.now (c.is_too_long.ensures.0 c.if-is_too_long.true)

pub returns-in_err-layout-clause-refused : goal.returns-in_err-layout-clause-refused
returns-in_err-layout-clause-refused c =
    let p = err_from_is_err_and c.from_residual.result c.from_residual.ensures.1 in
    rw (p.1, p.2) (unread c.args.bytes.now _ c.in_err-layout.ensures)

-- what was read
image : (c : In_ok-layout) → IsImage c.args.bytes.now c.in_ok-layout.layout
    (stored_of c.in_ok-layout.image)
image c =
    spelled_so c.args.bytes.now c.in_ok-layout.layout (stored_of c.in_ok-layout.image)
    (λ i. omega (arith, c.type_inv.bytes i))
    (λ long. false≢true (sym c.if-is_too_long.false ∙ c.is_too_long.ensures.1 long))
    c.in_ok-layout.ensures

pub restored-requires : goal.restored-requires
restored-requires c = (image (goal.at.restored-requires c).In_ok-layout).fits

pub returns-clause-read : goal.returns-clause-read
returns-clause-read c =
    is_image c.args.bytes.now c.in_ok-layout.layout (stored_of c.in_ok-layout.image)
    c.restored.result (image (goal.at.returns-clause-read c).In_ok-layout)
    c.restored.ensures.made c.restored.ensures.stands

pub returns-clause-refused : goal.returns-clause-refused
returns-clause-refused c =
    is_none c.args.bytes.now c.in_ok-layout.layout (stored_of c.in_ok-layout.image)
    (image (goal.at.returns-clause-refused c).In_ok-layout).fits c.in_ok-layout.ensures
    c.restored.result c.restored.ensures.refused
