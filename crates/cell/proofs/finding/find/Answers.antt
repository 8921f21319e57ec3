use Rattle.std.proofs.Common.{◌≡◌, ◌∙◌, true, ap, refl, rules, subst, sym}
use Rattle.std.proofs.lemmas.List.{with_items_is}
use Rattle.std.proofs.lemmas.Result.{err_from_is_err_and}
use Rattle.disk.specs.Crashes.{LeavesOnly}
use Rattle.node_store.specs.Stores.{disk_of, is_ready_in, logs_in}
use Rattle.wire.specs.OneAge.{AreApart, AreOfOneAge}
use Rattle.cell.specs.Disks.{OpensToNode}
use Rattle.cell.specs.Ages.{IsWhy}
use Rattle.cell.specs.Looking.{AreIntact, AreOn, AreUnmoved, logs_at}
use Rattle.cell.specs.Opened.{AreBeside, AreFound, IsChosen, StaysOrNew, unsealed}
use Rattle.cell.proofs.Beside.{beside-by, chosen-as}
use Rattle.cell.proofs.Looking.{all-on, all-read, were-read, why-before}
use Rattle.cell.proofs.Underway.{all-stores-since}
use Rattle.cell.proofs.finding.find.Goals as goal

pub returns-then-len-from : goal.returns-then-len-from
returns-then-len-from g c = record {
  disks = λ _. refl;
  why = λ same. c.if-len-from.true (c.len.ensures ∙ c.args.disks.now.ok.0 ∙ same
      ∙ sym (c.from.ensures ∙ c.nodes.ensures.value));
  untouched = search rules;
  taken = tt;
  count = tt;
  found = tt;
  any_moment = tt;
  logs = tt;
  read = tt;
  all = tt;
  intact = tt;
  one_age = tt;
  limits = c.nodes.ensures.within;
}

pub returns-in_err-nodes-clause-disks : goal.returns-in_err-nodes-clause-disks
returns-in_err-nodes-clause-disks g c = λ other.
    absurd (other (sym c.len.ensures ∙ c.if-len-from.false ∙ c.from.ensures
    ∙ c.nodes.ensures.value))

pub returns-in_err-nodes-clause-why : goal.returns-in_err-nodes-clause-why
returns-in_err-nodes-clause-why g c =
    let p = err_from_is_err_and c.from_residual.result c.from_residual.ensures.1 in
    rw (p.1, p.2) (subst (λ l. IsWhy g.D.Disk.seen g.D.Disk.seals g.D.Disk.moment g.D.Disk.faults
    c.args.shape l c.in_err-nodes.field-0.0) c.as_mut_slice.ensures.value
    c.in_err-nodes.ensures.why)

pub returns-in_err-nodes-clause-untouched : goal.returns-in_err-nodes-clause-untouched
returns-in_err-nodes-clause-untouched g c =
    let p = err_from_is_err_and c.from_residual.result c.from_residual.ensures.1 in
    let quiet = subst
    (λ l. AreUnmoved g.D.Disk.seen g.D.Disk.may_leave g.D.Disk.moment g.D.Disk.left_since l
    c.look_at_all.new.disks) c.as_mut_slice.ensures.value c.in_err-nodes.ensures.untouched in
    rw (p.1, p.2) (λ _. rw (with_items_is c.args.disks.now c.look_at_all.new.disks
    (quiet.count ∙ sym c.args.disks.now.ok.0)) quiet)

pub returns-in-Some : goal.returns-in-Some
returns-in-Some g c =
    let same = sym c.len.ensures ∙ c.if-len-from.false ∙ c.from.ensures ∙ c.nodes.ensures.value in
    let read = were-read c.as_mut_slice.ensures.value (sym c.args.disks.now.ok.0 ∙ same)
    c.in_ok-nodes.ensures.untouched c.in_ok-nodes.ensures.found in
    record {
      disks = λ other. absurd (other same);
      why = record {
        nodes = c.in_ok-nodes.nodes.items;
        count = read.found.nodes_count ∙ sym read.many;
        read = all-read read;
        are = subst (λ l. AreApart l c.in-Some.sender c.in-Some.receiver) c.as_slice.ensures.value
            c.in-Some.ensures.apart;
      };
      untouched = λ _. rw (with_items_is c.args.disks.now c.look_at_all.new.disks
          (read.quiet.count ∙ sym c.args.disks.now.ok.0)) read.quiet;
      taken = tt;
      count = tt;
      found = tt;
      any_moment = tt;
      logs = tt;
      read = tt;
      all = tt;
      intact = tt;
      one_age = tt;
      limits = c.nodes.ensures.within;
    }

pub put_all_on-requires-clause-on : goal.put_all_on-requires-clause-on
put_all_on-requires-clause-on g c =
    let same = sym c.len.ensures ∙ c.if-len-from.false ∙ c.from.ensures ∙ c.nodes.ensures.value in
    let read = were-read c.as_mut_slice.ensures.value (sym c.args.disks.now.ok.0 ∙ same)
    c.in_ok-nodes.ensures.untouched c.in_ok-nodes.ensures.found in
    let new = c.look_at_all.new.disks in
    let items : c.replace-found.result.items ≡ new =
    ap (λ v. v.items) c.replace-found.ensures.value
    ∙ with_items_is c.args.disks.now new (read.quiet.count ∙ sym c.args.disks.now.ok.0) in
    subst
    (λ l. AreOn g.D.Disk.seen g.D.Disk.may_leave c.args.shape l c.as_slice-2.result.now
    c.as_slice-3.result.now) (sym items)
    (subst
    (λ l. AreOn g.D.Disk.seen g.D.Disk.may_leave c.args.shape new l c.as_slice-3.result.now)
    (sym c.as_slice-2.ensures.value)
    (subst
    (λ l. AreOn g.D.Disk.seen g.D.Disk.may_leave c.args.shape new c.in_ok-nodes.nodes.items l)
    (sym c.as_slice-3.ensures.value) (all-on read)))

pub returns-in_err-stores-clause-disks : goal.returns-in_err-stores-clause-disks
returns-in_err-stores-clause-disks g c = λ other.
    absurd (other (sym c.len.ensures ∙ c.if-len-from.false ∙ c.from.ensures
    ∙ c.nodes.ensures.value))

pub returns-in_err-stores-clause-why : goal.returns-in_err-stores-clause-why
returns-in_err-stores-clause-why g c =
    let p = err_from_is_err_and c.from_residual-in_err-stores.result
    c.from_residual-in_err-stores.ensures.1 in
    let same = sym c.len.ensures ∙ c.if-len-from.false ∙ c.from.ensures ∙ c.nodes.ensures.value in
    let read = were-read c.as_mut_slice.ensures.value (sym c.args.disks.now.ok.0 ∙ same)
    c.in_ok-nodes.ensures.untouched c.in_ok-nodes.ensures.found in
    let items : c.replace-found.result.items ≡ c.look_at_all.new.disks =
    ap (λ v. v.items) c.replace-found.ensures.value
    ∙ with_items_is c.args.disks.now c.look_at_all.new.disks
    (read.quiet.count ∙ sym c.args.disks.now.ok.0) in
    rw (p.1, p.2) (why-before read g.D.Disk.seals _ c.in_err-stores.ensures.all_read
    (subst (λ l. IsWhy g.D.Disk.seen unsealed g.D.Disk.moment g.D.Disk.faults c.args.shape l
    c.in_err-stores.field-0.0) items c.in_err-stores.ensures.why))

pub returns-in_err-stores-clause-untouched : goal.returns-in_err-stores-clause-untouched
returns-in_err-stores-clause-untouched g c =
    let p = err_from_is_err_and c.from_residual-in_err-stores.result
    c.from_residual-in_err-stores.ensures.1 in
    rw (p.1, p.2) (λ reading. absurd (c.in_err-stores.ensures.all_read reading))

pub returns : goal.returns
returns g c =
    let seen = g.D.Disk.seen in
    let saves = c.args.saves in
    let same = sym c.len.ensures ∙ c.if-len-from.false ∙ c.from.ensures ∙ c.nodes.ensures.value in
    let read = were-read c.as_mut_slice.ensures.value (sym c.args.disks.now.ok.0 ∙ same)
    c.in_ok-nodes.ensures.untouched c.in_ok-nodes.ensures.found in
    let areas = c.in_ok-nodes.areas.items in
    let chosen = subst
    (λ l. AreBeside (λ k d place. IsChosen saves (seen d) (logs_at saves place)) l areas)
    c.as_mut_slice.ensures.value c.in_ok-nodes.ensures.chosen in
    let logs = subst
    (λ l. AreBeside (λ k place s. logs_in s ≡ logs_at saves place) l c.in_ok-stores.stores.items)
    c.as_slice-3.ensures.value c.in_ok-stores.ensures.logs in
    let items : c.replace-found.result.items ≡ c.look_at_all.new.disks =
    ap (λ v. v.items) c.replace-found.ensures.value
    ∙ with_items_is c.args.disks.now c.look_at_all.new.disks
    (read.quiet.count ∙ sym c.args.disks.now.ok.0) in
    record {
      disks = λ other. absurd (other same);
      why = tt;
      untouched = tt;
      taken = ap (λ v. v.items) c.replace-found.ensures.after ∙ c.new.ensures.items;
      count = read.found.nodes_count;
      found = subst
          (λ l. AreFound (λ n s. (is_ready_in s ≡ true) × OpensToNode n (seen (disk_of s)))
          c.args.shape l c.in_ok-stores.stores.items)
          c.as_slice-2.ensures.value c.in_ok-stores.ensures.found;
      any_moment = all-stores-since seen g.D.Disk.may_leave disk_of c.in_ok-stores.stores.items
          read.quiet (subst (λ l. AreBeside (λ k d s.
          LeavesOnly g.D.Disk.moment g.D.Disk.left_since d (disk_of s)
          (StaysOrNew seen g.D.Disk.may_leave c.args.shape k d)) l
          c.in_ok-stores.stores.items) items c.in_ok-stores.ensures.any_moment);
      logs = beside-by c.args.disks.now.items areas c.in_ok-stores.stores.items
          (c.in_ok-nodes.ensures.found.places_count ∙ sym read.many)
          (λ d place s. chosen-as saves (seen d) place (logs_in s)) chosen logs;
      read = all-read read;
      all = read.found.nodes_count ∙ sym read.many;
      intact = subst (AreIntact seen g.D.Disk.seals) c.as_mut_slice.ensures.value
          c.in_ok-nodes.ensures.intact;
      one_age = subst AreOfOneAge c.as_slice.ensures.value c.in_default.ensures.fit;
      limits = c.nodes.ensures.within;
    }
