use Rattle.std.proofs.Common.{◌∙◌, Err, ap, refl, subst, sym}
use Rattle.ids.specs.declared.refusal.Refusal.TheVariants.{BadImage}
use Rattle.cell.specs.Disks.{OpensToNode}
use Rattle.cell.specs.Opened.{IsCause, IsWhyNot, unsealed}
use Rattle.node_store.proofs.Stores.{same_lies}
use Rattle.cell.proofs.Causes.{by-cause, by-refusal}
use Rattle.cell.proofs.Opening.{core-found}
use Rattle.cell.proofs.finding.read_node.Goals as goal

pub returns-in-Err-clause-why : goal.returns-in-Err-clause-why
returns-in-Err-clause-why g c =
    let own = c.args.own.number in
    let disk = c.args.disk.now in
    let said = c.in-Err.ensures in
    by-refusal (IsWhyNot g.D.Disk.seen unsealed g.D.Disk.moment g.D.Disk.faults c.args.shape own
    disk) own c.in-Err.refusal _ c.failed.ensures tt (λ other. (
      refl,
      by-cause (IsCause g.D.Disk.seen unsealed g.D.Disk.moment g.D.Disk.faults c.args.shape own
          disk) BadImage c.in-Err.refusal said.refused.others other
          (λ is. record {
            written = c.requires;
            none = λ n opens intact. said.refused.bad is n opens;
          })
          (λ is. record {
            after = c.read_node.new.disk;
            later = said.quiet.any_moment.later;
            failed = said.cause.failed (ap Err is);
          }),
    ))

pub returns-else-is_node_of-clause-why : goal.returns-else-is_node_of-clause-why
returns-else-is_node_of-clause-why g c = (
  refl,
  record {
    node = c.in-Ok.found.1.core;
    opens = core-found c.in-Ok.found.1 (g.D.Disk.seen c.args.disk.now) c.in-Ok.ensures.value;
    is_other = c.is_node_of.ensures.other c.if-is_node_of.false;
  },
)

pub returns-then-is_node_of-clause-chosen : goal.returns-then-is_node_of-clause-chosen
returns-then-is_node_of-clause-chosen g c =
    let same = c.with_digest.ensures in
    record {
      events = λ is. same.logs ∙ c.in-Ok.ensures.events is;
      images = λ is plain. same.logs ∙ c.in-Ok.ensures.images is plain;
    }

pub returns-then-is_node_of-clause-holds : goal.returns-then-is_node_of-clause-holds
returns-then-is_node_of-clause-holds g c =
    let disk = c.read_node.new.disk in
    let found = c.in-Ok.found in (
      same_lies g.D.Disk.seen g.D.Disk.may_leave disk found.0 c.with_digest.result
          c.with_digest.ensures c.in-Ok.ensures.lies,
      subst (OpensToNode found.1) (sym c.read_node.ensures.quiet.same) c.in-Ok.ensures.value,
    )
