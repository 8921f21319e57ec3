use Rattle.std.proofs.Common.{◌≡◌, ℕ, get_or, ◌∙◌, arith, length-set, subst}
use Rattle.std.proofs.lemmas.Result.{err_from_is_err_and}
use Rattle.cell.specs.Looking.{AreLookedAt, IsLookedAt, logs_at}
use Rattle.cell.specs.Opened.{IsChosen}
use Rattle.cell.proofs.Beside.{beside-next}
use Rattle.cell.proofs.Causes.{why-there}
use Rattle.cell.proofs.Looking.{intact-all, intact-next, looked-at, read-there, unmoved-at}
use Rattle.cell.proofs.finding.look_at_all.Goals as goal

pub returns-in_err-node : goal.returns-in_err-node
returns-in_err-node g c =
    let x = get_or c.loop-number.disks c.from.result c.index-disks-from.result in
    let there = read-there c.from.result c.index-disks-from.result c.loop-number.invariant.looked
    c.loop-number.invariant.quiet.count c.from.ensures (omega (arith, c.requires)) in
    let p = err_from_is_err_and c.from_residual.result c.from_residual.ensures.1 in
    rw (p.1, p.2) (record {
      untouched = unmoved-at c.loop-number.number c.from.result x c.look_at.new.disk
          c.loop-number.invariant.quiet c.from.ensures there c.look_at.ensures.quiet;
      why = why-there g.D.Disk.seen g.D.Disk.seals g.D.Disk.moment g.D.Disk.faults c.args.shape
          c.args.disks.now c.loop-number.number _ (record {
            value = x;
            there = there;
            is = c.in_err-node.ensures.why;
          });
      found = tt;
      chosen = tt;
      intact = tt;
    })

pub returns-in_err-add : goal.returns-in_err-add
returns-in_err-add g c =
    let x = get_or c.loop-number.disks c.from.result c.index-disks-from.result in
    let there = read-there c.from.result c.index-disks-from.result c.loop-number.invariant.looked
    c.loop-number.invariant.quiet.count c.from.ensures (omega (arith, c.requires)) in
    let exit = c.from_residual-in_err-add in
    let p = err_from_is_err_and exit.result exit.ensures.1 in
    rw (p.1, p.2, c.in_err-add.ensures.refused) (record {
      untouched = unmoved-at c.loop-number.number c.from.result x c.look_at.new.disk
          c.loop-number.invariant.quiet c.from.ensures there c.look_at.ensures.quiet;
      why = tt;
      found = tt;
      chosen = tt;
      intact = tt;
    })

pub returns-in_err-add-2 : goal.returns-in_err-add-2
returns-in_err-add-2 g c =
    let x = get_or c.loop-number.disks c.from.result c.index-disks-from.result in
    let there = read-there c.from.result c.index-disks-from.result c.loop-number.invariant.looked
    c.loop-number.invariant.quiet.count c.from.ensures (omega (arith, c.requires)) in
    let exit = c.from_residual-in_err-add-2 in
    let p = err_from_is_err_and exit.result exit.ensures.1 in
    rw (p.1, p.2, c.in_err-add-2.ensures.refused) (record {
      untouched = unmoved-at c.loop-number.number c.from.result x c.look_at.new.disk
          c.loop-number.invariant.quiet c.from.ensures there c.look_at.ensures.quiet;
      why = tt;
      found = tt;
      chosen = tt;
      intact = tt;
    })

pub returns : goal.returns
returns g c =
    let all : c.loop-number.number ≡ c.args.shape.nodes = omega arith in
    record {
      untouched = c.loop-number.invariant.quiet;
      why = tt;
      found = subst (λ (n : ℕ). AreLookedAt g.D.Disk.seen g.D.Disk.may_leave g.D.Disk.faults
          c.args.shape n c.args.disks.now c.loop-number.disks c.loop-number.nodes.items
          c.loop-number.areas.items) all c.loop-number.invariant.looked;
      chosen = c.loop-number.invariant.chosen;
      intact = intact-all c.loop-number.invariant.intact (omega (arith, c.requires, all));
    }

pub loop-number-preserved : goal.loop-number-preserved
loop-number-preserved g c =
    let x = get_or c.loop-number.disks c.from.result c.index-disks-from.result in
    let there = read-there c.from.result c.index-disks-from.result c.loop-number.invariant.looked
    c.loop-number.invariant.quiet.count c.from.ensures (omega (arith, c.requires)) in
    let it : IsLookedAt g.D.Disk.seen g.D.Disk.may_leave g.D.Disk.faults c.args.shape
    c.loop-number.number x c.look_at.new.disk c.in_ok-node.node c.in_ok-node.area = record {
      node = c.in_ok-node.ensures.node;
      holds = c.in_ok-node.ensures.holds;
      read = c.in_ok-node.ensures.read;
      fine = c.in_ok-node.ensures.fine;
    } in
    record {
      quiet = unmoved-at c.loop-number.number c.from.result x c.look_at.new.disk
          c.loop-number.invariant.quiet c.from.ensures there c.look_at.ensures.quiet;
      looked = looked-at c.from.result c.loop-number.invariant.looked c.from.ensures there it
          (c.in_ok-add.ensures.added, c.in_ok-add-2.ensures.added);
      count = length-set c.loop-number.disks c.from.result c.look_at.new.disk
          ∙ c.loop-number.invariant.count;
      chosen = beside-next
          (λ d place. IsChosen c.args.saves (g.D.Disk.seen d) (logs_at c.args.saves place))
          c.args.disks.now c.loop-number.areas.items c.loop-number.invariant.chosen
          c.loop-number.invariant.looked.places_count there
          c.in_ok-node.ensures.chosen c.in_ok-add-2.ensures.added;
      intact = intact-next c.loop-number.invariant.intact there c.in_ok-node.ensures.intact;
    }
