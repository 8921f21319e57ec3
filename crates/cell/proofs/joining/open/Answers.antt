use Rattle.std.proofs.Common.{◌≡◌, ◌∙◌, ℕ, List, Some, ap, arith, length, map, subst, sym}
use Rattle.std.specs.Prelude.{slice_get}
use Rattle.std.proofs.lemmas.List.{length-map}
use Rattle.std.proofs.lemmas.Option.{slice_get_within}
use Rattle.std.proofs.lemmas.Result.{err_from_is_err_and}
use Rattle.node.specs.Keeping.{WholeNode}
use Rattle.disk.specs.Crashes.{LeavesOnly}
use Rattle.node_store.specs.Stores.{disk_of, logs_in}
use Rattle.node_store.proofs.Stores.{keeps_kept}
use Rattle.wire.specs.OneAge.{AreOfOneAge}
use Rattle.wire.specs.Readers.{IsMade}
use Rattle.cell.specs.Ages.{AreRead}
use Rattle.cell.specs.Opened.{AreBeside, IsChosen, IsNodeOf, IsReadFrom, StaysOrNew, cores, world_of}
use Rattle.cell.specs.Reached.{IsReached}
use Rattle.cell.proofs.Beside.{beside-mapped}
use Rattle.cell.proofs.Causes.{ok-no-error, same-error}
use Rattle.cell.proofs.Closed.{never-ages, new-begun, opened-again}
use Rattle.cell.proofs.Killed.{killed-begins}
use Rattle.cell.proofs.OnShelves.{found-kept}
use Rattle.wire.proofs.Places.{mapped-there, some_at}
use Rattle.cell.proofs.Ready.{opened}
use Rattle.cell.proofs.Starting.{ages-never, copies-begin, fresh-begins, left-ages, left-begins, never-apart}
use Rattle.cell.proofs.Underway.{beside-image, beside-of}
use Rattle.cell.proofs.joining.open.Goals as goal

pub join-requires : goal.join-requires
join-requires g c = λ κs within. (
  within,
  (
    opened c.args.shape _ c.in_ok-nodes.ensures.count
        (found-kept (λ m s lies. keeps_kept m _ lies.1) c.in_ok-nodes.ensures.found),
    c.in_ok-nodes.ensures.found,
  ),
)

pub returns-in_err-nodes : goal.returns-in_err-nodes
returns-in_err-nodes g c =
    let p = err_from_is_err_and c.from_residual.result c.from_residual.ensures.1 in
    rw (p.1, p.2) (record {
      disks = λ apart. same-error _ _ (c.in_err-nodes.ensures.disks apart);
      why = c.in_err-nodes.ensures.why;
      read = tt;
      any_moment = tt;
      logs = tt;
      shaped = tt;
      count = tt;
      all = tt;
      intact = tt;
      one_age = tt;
      closed = λ opening reached width once.
          never-ages (record { reached = reached; width = width; once = once }) g.D.Disk.seen
          g.met.D.Disk.reads_left g.D.Disk.seals g.D.Disk.moment g.D.Disk.faults _
          c.in_err-nodes.ensures.why;
      killed = λ opening reached width kill.
          ages-never g.D.Disk.seen c.args.shape c.args.disks.items (killed-begins g.D.Disk.seen
          c.args.shape opening c.args.disks.items reached width kill) g.D.Disk.seals
          g.D.Disk.moment g.D.Disk.faults _ c.in_err-nodes.ensures.why;
      fresh = λ fresh.
          ages-never g.D.Disk.seen c.args.shape c.args.disks.items (fresh-begins g.D.Disk.seen
          c.args.shape c.args.disks.items c.in_err-nodes.ensures.limits fresh) g.D.Disk.seals
          g.D.Disk.moment g.D.Disk.faults _ c.in_err-nodes.ensures.why;
      left = λ w on. tt;
      kept = λ w on held.
          never-apart g.D.Disk.seen c.args.shape c.args.disks.items (left-ages g.D.Disk.seen
          c.args.shape c.args.disks.items w on held) g.D.Disk.seals g.D.Disk.moment g.D.Disk.faults
          _ c.in_err-nodes.ensures.why;
      copies = λ steps on. tt;
      begun = tt;
      new = tt;
      made = tt;
    })

pub returns-in-Ok : goal.returns-in-Ok
returns-in-Ok g c =
    let nodes = c.in_ok-nodes.nodes.items in
    let found = c.in_ok-nodes.ensures.found in
    let made = c.in-Ok.ensures.made in
    let same = c.in-Ok.ensures.nodes in
    let all = sym (length-map _ (λ v. v.node)) ∙ ap length same in
    let one_age = subst AreOfOneAge (sym same) c.in_ok-nodes.ensures.one_age in
    let read : AreRead g.D.Disk.seen c.args.shape c.args.disks.items AreOfOneAge = record {
      nodes = nodes;
      count = c.in_ok-nodes.ensures.all;
      read = c.in_ok-nodes.ensures.read;
      are = c.in_ok-nodes.ensures.one_age;
    } in
    record {
      disks = λ apart. absurd (ok-no-error (c.in_ok-nodes.ensures.disks apart));
      why = tt;
      read = subst (λ (l : List WholeNode).
          AreBeside (λ k d n. IsReadFrom c.args.shape k (g.D.Disk.seen d) n) c.args.disks.items l)
          (sym same) c.in_ok-nodes.ensures.read;
      any_moment = beside-of (λ k d e. LeavesOnly g.D.Disk.moment g.D.Disk.left_since d e
          (StaysOrNew g.D.Disk.seen g.D.Disk.may_leave c.args.shape k d)) (λ v. v.disk)
          c.args.disks.items _
          (subst (λ (l : List g.row.D.Denot). AreBeside (λ k d e.
          LeavesOnly g.D.Disk.moment g.D.Disk.left_since d e
          (StaysOrNew g.D.Disk.seen g.D.Disk.may_leave c.args.shape k d)) c.args.disks.items l)
          (sym c.in-Ok.ensures.disks)
          (beside-image (λ k d e. LeavesOnly g.D.Disk.moment g.D.Disk.left_since d e
          (StaysOrNew g.D.Disk.seen g.D.Disk.may_leave c.args.shape k d)) disk_of c.args.disks.items
          c.in_ok-nodes.stores.items
          c.in_ok-nodes.ensures.any_moment));
      logs = beside-mapped (λ d logs. IsChosen c.args.saves (g.D.Disk.seen d) logs) logs_in
          (λ v. v.logs) c.args.disks.items c.in_ok-nodes.stores.items _ c.in-Ok.ensures.logs
          c.in_ok-nodes.ensures.logs;
      shaped = subst (λ (l : List WholeNode).
          (k : ℕ) (n : WholeNode) → slice_get l k ≡ Some n → IsNodeOf c.args.shape k n.core)
          (sym same) (λ k n there.
          let shelf = some_at c.in_ok-nodes.stores.items k
          (omega (arith, slice_get_within nodes k n there, found.same)) in
          (found.each k n shelf.0 there shelf.1).0);
      count = c.in-Ok.opened.1.ok.0 ∙ all ∙ c.in_ok-nodes.ensures.count;
      all = all ∙ c.in_ok-nodes.ensures.all;
      intact = c.in_ok-nodes.ensures.intact;
      one_age = one_age;
      closed = λ opening reached width once.
          subst IsReached (sym made.opening)
          (opened-again (record { reached = reached; width = width; once = once }) g.D.Disk.seen
          g.met.D.Disk.reads_left read).0;
      killed = λ opening reached width kill.
          subst IsReached (sym made.opening)
          (killed-begins g.D.Disk.seen c.args.shape opening c.args.disks.items reached width kill
          nodes read.count read.read).0;
      fresh = λ fresh.
          subst IsReached (sym made.opening)
          (fresh-begins g.D.Disk.seen c.args.shape c.args.disks.items c.in_ok-nodes.ensures.limits
          fresh nodes read.count read.read).0;
      left = λ w on.
          subst IsReached (sym made.opening)
          (left-begins g.D.Disk.seen c.args.shape c.args.disks.items w on nodes read.count read.read
          read.are).0;
      kept = λ w on held. tt;
      copies = λ steps on.
          subst IsReached (sym made.opening)
          (copies-begin g.D.Disk.seen c.args.shape c.args.disks.items
          c.in_ok-nodes.ensures.limits on nodes read.count read.read read.are).0;
      begun = new-begun _ c.in-Ok.ensures.new one_age
          (λ k d there.
          (let seat = made.each_seat k d.seat (mapped-there (λ x. x.seat) _ k d there) in (
            seat.of.2 ∙ made.opening
                ∙ ap (λ (l : List WholeNode). world_of (cores l)) (sym same),
            seat.node,
          )));
      new = c.in-Ok.ensures.new;
      made = subst (λ (l : List WholeNode). IsMade (world_of (cores l)) c.args.watches
          c.in-Ok.opened.0 (map (λ v. v.seat) c.in-Ok.opened.1.items) c.in-Ok.opened.2.items)
          (sym same) made;
    }

pub returns-clause-disks : goal.returns-clause-disks
returns-clause-disks g c = λ apart. absurd (ok-no-error (c.in_ok-nodes.ensures.disks apart))
