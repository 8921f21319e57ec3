use Rattle.std.proofs.Common.{subst}
use Rattle.ids.specs.declared.refusal.Refusal.TheVariants.{ImageTooLarge}
use Rattle.image.specs.Wholes.{IsWholeTooLarge}
use Rattle.node.specs.Keeping.{WholeNode}
use Rattle.node_store.specs.Stores.{disk_of, logs_in}
use Rattle.cell.specs.Opened.{IsCause, unsealed}
use Rattle.cell.proofs.Beside.{new-logs}
use Rattle.cell.proofs.Causes.{by-cause}
use Rattle.cell.proofs.NewCells.{opens-new}
use Rattle.cell.proofs.Underway.{created}
use Rattle.cell.proofs.finding.create.Goals as goal

pub returns-in-Ok-clause-opens : goal.returns-in-Ok-clause-opens
returns-in-Ok-clause-opens g c =
    opens-new c.args.node.now.core.local.shape c.args.node.now.core.local.own c.args.node.now
    (g.D.Disk.seen (disk_of c.in-Ok.store)) c.requires.1 c.in-Ok.ensures.created

pub returns-in-Err-clause-cause : goal.returns-in-Err-clause-cause
returns-in-Err-clause-cause g c =
    let local = c.args.node.now.core.local in
    let said = c.in-Err.ensures in λ other.
    by-cause
    (IsCause g.D.Disk.seen unsealed g.D.Disk.moment g.D.Disk.faults local.shape local.own
    c.args.disk) ImageTooLarge c.in-Err.refusal said.refused.others other
    (λ is. record {
      blank = c.requires.0 (g.D.Disk.seen c.args.disk) (g.met.D.Disk.reads_left c.args.disk);
      large = subst (λ (n : WholeNode). IsWholeTooLarge n) c.requires.1
          (said.refused.too_large.0 is);
    })
    (λ is. record { after = c.in-Err._disk; later = said.later; failed = said.refused.failed is })

pub returns-in-Ok-clause-logs : goal.returns-in-Ok-clause-logs
returns-in-Ok-clause-logs g c =
    new-logs c.args.saves (logs_in c.in-Ok.store) c.in-Ok.ensures.events c.in-Ok.ensures.images

pub returns-in-Ok-clause-any_moment : goal.returns-in-Ok-clause-any_moment
returns-in-Ok-clause-any_moment g c =
    let local = c.args.node.now.core.local in
    created g.D.Disk.seen g.D.Disk.may_leave local.shape local.own c.requires.0
    (g.met.D.Disk.reads_left c.args.disk) c.requires.1 c.in-Ok.ensures.any_moment
