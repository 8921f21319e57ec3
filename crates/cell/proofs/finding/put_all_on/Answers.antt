use Rattle.std.proofs.Common.{◌≡◌, ◌<◌, ◌+◌, ◌∙◌, true, ap, arith, drop, length, length-append}
use Rattle.std.proofs.lemmas.List.{drop-drop}
use Rattle.disk.specs.Crashes.{LeavesOnly}
use Rattle.node_store.specs.Stores.{disk_of, is_ready_in, logs_in}
use Rattle.cell.specs.Ages.{IsWhy}
use Rattle.cell.specs.Looking.{IsOfReading, logs_at}
use Rattle.cell.specs.Disks.{OpensToNode}
use Rattle.cell.specs.Opened.{IsCause, StaysOrNew, unsealed}
use Rattle.cell.proofs.Beside.{beside-next}
use Rattle.cell.proofs.Causes.{as-node, by-refusal}
use Rattle.cell.proofs.Looking.{first-at, shelf-next, shelves-found}
use Rattle.cell.proofs.Underway.{beside-at}
use Rattle.cell.proofs.finding.put_all_on.Goals as goal

pub returns-in-Err-clause-why : goal.returns-in-Err-clause-why
returns-in-Err-clause-why g c =
    let inside : c.loop-number.number < length c.args.nodes.now = omega (arith, c.requires.count) in
    let it = first-at c.requires.on inside c.from-place.ensures c.loop-number.invariant.rest
    c.remove-disk.ensures.value c.index-nodes-place.is in
    by-refusal (IsWhy g.D.Disk.seen unsealed g.D.Disk.moment g.D.Disk.faults c.args.shape
    c.args.disks.items)
    c.loop-number.number c.in-Err.refusal _ c.failed.ensures tt (λ other. record {
      value = c.remove-disk.result;
      there = it.disk;
      is = as-node
          (λ shape own. IsCause g.D.Disk.seen unsealed g.D.Disk.moment g.D.Disk.faults shape own
          c.remove-disk.result c.in-Err.refusal)
          (c.requires.on.each _ _ _ _ it.disk it.node it.area).0 (c.in-Err.ensures.cause other);
    })

pub returns-in-Err-clause-all_read : goal.returns-in-Err-clause-all_read
returns-in-Err-clause-all_read g c =
    by-refusal (λ e. IsOfReading e → ⊥) c.loop-number.number c.in-Err.refusal _ c.failed.ensures
    (λ never. never) (λ _. c.in-Err.ensures.not_bad)

pub loop-number-preserved : goal.loop-number-preserved
loop-number-preserved g c =
    let inside : c.loop-number.number < length c.args.nodes.now = omega (arith, c.requires.count) in
    let it = first-at c.requires.on inside c.from-place.ensures c.loop-number.invariant.rest
    c.remove-disk.ensures.value c.index-nodes-place.is in
    record {
      moments = beside-at (λ k d x. LeavesOnly g.D.Disk.moment g.D.Disk.left_since d (disk_of x)
          (StaysOrNew g.D.Disk.seen g.D.Disk.may_leave c.args.shape k d)) c.args.disks.items
          c.loop-number.stores.items c.loop-number.invariant.moments c.loop-number.invariant.count
          it.disk
          (as-node (λ shape own. LeavesOnly g.D.Disk.moment g.D.Disk.left_since
          c.remove-disk.result (disk_of c.in-Ok.store)
          (StaysOrNew g.D.Disk.seen g.D.Disk.may_leave shape own c.remove-disk.result))
          (c.requires.on.each _ _ _ _ it.disk it.node it.area).0 c.in-Ok.ensures.any_moment)
          c.in_ok-add-in-Ok.ensures.added;
      logs = beside-next (λ place s. logs_in s ≡ logs_at c.args.saves place) c.args.areas.now
          c.loop-number.stores.items c.loop-number.invariant.logs c.loop-number.invariant.count
          it.area c.in-Ok.ensures.logs
          c.in_ok-add-in-Ok.ensures.added;
      made = shelf-next
          (λ n s. (is_ready_in s ≡ true) × OpensToNode n (g.D.Disk.seen (disk_of s))) _ _
          c.loop-number.invariant.made c.loop-number.invariant.count it.node
          (c.in-Ok.ensures.ready, c.in-Ok.ensures.opens) c.in_ok-add-in-Ok.ensures.added;
      count = ap length c.in_ok-add-in-Ok.ensures.added
          ∙ length-append c.loop-number.stores.items _
          ∙ ap (λ i. i + 1) c.loop-number.invariant.count;
      rest = c.remove-disk.ensures.items ∙ ap (drop 1) c.loop-number.invariant.rest
          ∙ drop-drop 1 c.loop-number.number c.args.disks.items;
      left = omega (arith, c.loop-number.invariant.left, c.remove-disk.ensures.len);
    }

pub returns-clause-found : goal.returns-clause-found
returns-clause-found g c =
    shelves-found (λ n s. (is_ready_in s ≡ true) × OpensToNode n (g.D.Disk.seen (disk_of s)))
    c.requires.on (omega (arith, c.loop-number.invariant.count)) c.loop-number.invariant.made

pub put_on-requires : goal.put_on-requires
put_on-requires g c =
    let inside : c.loop-number.number < length c.args.nodes.now = omega (arith, c.requires.count) in
    let it = first-at c.requires.on inside c.from-place.ensures c.loop-number.invariant.rest
    c.remove-disk.ensures.value c.index-nodes-place.is in
    (c.requires.on.each _ _ _ _ it.disk it.node it.area).1
