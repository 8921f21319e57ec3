use Rattle.std.proofs.Common.{◌∙◌, Err, ap, refl}
use Rattle.std.proofs.lemmas.Bool.{false≢true}
use Rattle.std.proofs.lemmas.Result.{IfErr-weaker, on_ok_weaker}
use Rattle.ids.specs.declared.refusal.Refusal.TheVariants.{BadImage}
use Rattle.disk_shelf.proofs.Quiet.{both_unmoved}
use Rattle.cell.specs.Opened.{IsCause, IsWhyNot, unsealed}
use Rattle.cell.proofs.Causes.{by-cause, by-refusal, earlier-why, ok-no-error}
use Rattle.cell.proofs.Looking.{blank-intact}
use Rattle.cell.proofs.finding.look_at.Goals as goal

pub returns-in-Err-clause-why : goal.returns-in-Err-clause-why
returns-in-Err-clause-why g c =
    let own = c.args.own.number in
    let disk = c.args.disk.now in
    let said = c.in-Err.ensures in
    by-refusal (IsWhyNot g.D.Disk.seen g.D.Disk.seals g.D.Disk.moment g.D.Disk.faults c.args.shape
    own disk) own c.in-Err.refusal _ c.failed.ensures tt (λ other. (
      refl,
      by-cause (IsCause g.D.Disk.seen g.D.Disk.seals g.D.Disk.moment g.D.Disk.faults c.args.shape
          own disk) BadImage c.in-Err.refusal said.others other
          (λ is.
          let bad = said.bad (ap Err is) in
          record {
            written = λ blank. bad.1 (blank-intact blank);
            none = λ n opens intact. bad.1 (intact bad.0);
          })
          (λ is. record {
            after = c.check_seals.new.disk;
            later = said.quiet.any_moment.later;
            failed = said.cause.failed (ap Err is);
          }),
    ))

pub returns-in-Ok-false-clause-intact : goal.returns-in-Ok-false-clause-intact
returns-in-Ok-false-clause-intact g c =
    on_ok_weaker c.read_node.result (λ _. c.in-Ok.ensures.intact) c.read_node.ensures.fine

pub returns-in-Ok-false-clause-why : goal.returns-in-Ok-false-clause-why
returns-in-Ok-false-clause-why g c =
    let own = c.args.own.number in
    let disk = c.args.disk.now in
    let compared = c.in-Ok.ensures in
    let synced = c.in-Ok-false.ensures in
    IfErr-weaker c.read_node.result
    (IsWhyNot g.D.Disk.seen unsealed g.D.Disk.moment g.D.Disk.faults c.args.shape own
    c.is_blank.new.disk)
    (IsWhyNot g.D.Disk.seen g.D.Disk.seals g.D.Disk.moment g.D.Disk.faults c.args.shape own disk)
    (λ e. earlier-why g.D.Disk.seals g.D.Disk.faults c.args.shape own e
    (both_unmoved compared.quiet synced.quiet)
    (synced.cause.fine false≢true ∙ compared.cause.fine ok-no-error))
    c.read_node.ensures.why
