use Rattle.std.proofs.Common.{◌∙◌, Some, [], ap, drop, inr, refl, subst, sym}
use Rattle.std.proofs.lemmas.Result.{err_from_is_err_and}
use Rattle.disk.specs.Areas.{part}
use Rattle.disk_shelf.specs.Seals.{IsEndSealed}
use Rattle.disk_shelf.proofs.Checks.{behind_here, end_gate, no_gate, other_gate}
use Rattle.disk_shelf.proofs.Quiet.{handed_err}
use Rattle.disk_shelf.proofs.seal.check_gate.Goals as goal

pub returns-in_default-clause-bad : goal.returns-in_default-clause-bad
returns-in_default-clause-bad g c bad =
    no_gate c.args.digest _ (c.in_ok-gate.ensures.byte ∙ c.in_default.is)

pub returns-then-gate-ne-SHUT-clause-bad : goal.returns-then-gate-ne-SHUT-clause-bad
returns-then-gate-ne-SHUT-clause-bad g c bad =
    other_gate c.args.digest _ c.in-Some.gate (c.in_ok-gate.ensures.byte ∙ c.in-Some.is)
    c.if-gate-eq-OPEN.false c.if-gate-ne-SHUT.true c.requires

pub returns-in_err-check_end-clause-bad : goal.returns-in_err-check_end-clause-bad
returns-in_err-check_end-clause-bad g c =
    let exit = c.from_residual-in_err-check_end in
    let p = err_from_is_err_and exit.result exit.ensures.1 in
    let held = part c.args.area (g.D.Disk.seen c.args.disk.now) in
    let zero = c.in_ok-gate.ensures.byte ∙ c.in-Some.is ∙ ap Some c.if-gate-ne-SHUT.false in
    let here = behind_here c.args.at c.in-Some-checked_add.ensures.1
    (ap (part c.args.area) c.byte_at.ensures.quiet.same) in
    rw (p.1, p.2) (λ bad sealed. c.in_err-check_end.ensures.bad (handed_err refl bad)
    (subst (IsEndSealed c.args.digest) (sym here)
    (end_gate c.args.digest (drop c.args.at held) zero sealed)))

pub returns-clause-sealed : goal.returns-clause-sealed
returns-clause-sealed g c =
    let zero = c.in_ok-gate.ensures.byte ∙ c.in-Some.is ∙ ap Some c.if-gate-ne-SHUT.false in
    let here = behind_here c.args.at c.in-Some-checked_add.ensures.1
    (ap (part c.args.area) c.byte_at.ensures.quiet.same) in
    ([], inr (zero, subst (IsEndSealed c.args.digest) here c.in_ok-check_end.ensures.sealed))
