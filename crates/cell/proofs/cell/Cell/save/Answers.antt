use Rattle.std.proofs.Common.{◌≡◌, ◌≢◌, Bool, true, Err, ⊎_elim, sym, ap, ◌∙◌, subst}
use Rattle.std.proofs.lemmas.Bool.{cases_Bool, false≢true}
use Rattle.ids.specs.declared.refusal.Refusal.{Refusal}
use Rattle.ids.specs.declared.refusal.Refusal.TheVariants as refusal
use Rattle.model.specs.View.{kept_view}
use Rattle.node_store.specs.Stores.{disk_of, is_ready_in, logs_in}
use Rattle.disk.specs.Areas.{Areas}
use Rattle.node.specs.Keeping.{alone}
use Rattle.disk.specs.Crashes.{LeavesOnly}
use Rattle.cell.specs.Cells.{CellView, HoldsEither}
use Rattle.cell.specs.Disks.{HoldsSaved, OpensTo, OpensToEither}
use Rattle.wire.specs.Readers.{known}
use Rattle.cell.specs.Desks.{HasDropped}
use Rattle.cell.proofs.Causes.{closed-no-disk, large-no-disk, memory-no-disk, ok-no-error, same-refusal}
use Rattle.cell.proofs.Dropping.{dropped-kept, took-same}
use Rattle.cell.proofs.Opening.{IsImaged, failed-left, imaged-found, open-holds, saved-by, saved-since, stays-open, still-since}
use Rattle.cell.proofs.Views.{cell_at}
use Rattle.cell.proofs.cell.Cell.save.Goals as goal

pub invariant_of-self-inside-in-Err : goal.invariant_of-self-inside-in-Err
invariant_of-self-inside-in-Err g c =
    let cell = c.self.inside in
    let old = disk_of cell.store in
    let new = disk_of c.save.new.self in
    let saved = cell.desk.saved in
    let n = cell.desk.node.core in
    let e = c.in-Err.refusal in
    let said = c.in-Err.ensures in
    let Kept : Type 0 =
    (is_ready_in c.save.new.self ≡ true → HoldsSaved (g.D.Disk.may_leave new) saved)
    × ((x : Areas) → g.D.Disk.may_leave new x → ∥ OpensToEither saved n x ∥₁) in
    let unchanged : (e ≢ refusal.Disk) → Kept = λ apart.
    (let same = said.after.unchanged apart in (
      λ ready. subst (λ d. HoldsSaved (g.D.Disk.may_leave d) saved) (sym same.0)
          (cell.while_open (sym same.1 ∙ ready)),
      λ x may. cell.left x (subst (λ d. g.D.Disk.may_leave d x) same.0 may),
    )) in
    let failed : e ≡ refusal.Disk → Kept = λ is.
    (let was_open : is_ready_in cell.store ≡ true =
    ⊎_elim (λ opens. opens)
    (λ shut.
    let closed : e ≡ refusal.Closed = same-refusal (said.after.closed.1 shut) in
    absurd (closed-no-disk (sym closed ∙ is))) (cases_Bool (is_ready_in cell.store)) in (
      λ ready. absurd (false≢true
          (sym (said.after.failed (ap (λ (r : Refusal). Err r) is)).1 ∙ ready)),
      failed-left g.D.Disk.may_leave saved n
          (g.met.D.Disk.counts_now new)
          (saved-by (cell.while_open was_open (g.D.Disk.seen old) (g.met.D.Disk.reads_left old))
          c.logged.ensures.led
          ((rw c.logged.ensures.value at (said.any_moment is)) (alone saved))),
    )) in
    let kept : Kept =
    ⊎_elim (λ is. unchanged (λ d. absurd (closed-no-disk (sym is ∙ d))))
    (⊎_elim (λ is. unchanged (λ d. absurd (large-no-disk (sym is ∙ d))))
    (⊎_elim (λ is. unchanged (λ d. absurd (memory-no-disk (sym is ∙ d)))) failed))
    said.after.others in
    let imaged : IsImaged (logs_in c.save.new.self) saved = λ none.
    cell.imaged (sym c.save.ensures.logs ∙ none) in
    (cell.dropped, (cell.saved_dropped, (kept.0, (kept.1, (imaged, tt)))))

pub invariant_of-self-inside : goal.invariant_of-self-inside
invariant_of-self-inside g c =
    let cell = c.self.inside in
    let n = cell.desk.node.core in
    let old = disk_of cell.store in
    let store = c.save.new.self in
    let may_leave = g.D.Disk.may_leave (disk_of store) in
    let desk = c.save-in-Ok.new.self in
    let said = c.in-Ok.ensures in
    let now = c.save-in-Ok.ensures in
    let v = known cell.desk.seat in
    let w = known desk.seat in
    let took = took-same v w (ap (λ u. u.me) now.known) (ap (λ u. u.taken) now.known) in
    let first = cell.origin.value in
    let kept = dropped-kept first v w n took cell.dropped in
    let was_open : is_ready_in cell.store ≡ true =
    ⊎_elim (λ opens. opens) (λ shut. absurd (ok-no-error (said.after.closed.1 shut)))
    (cases_Bool (is_ready_in cell.store)) in
    let seen = g.D.Disk.seen (disk_of store) in
    let opens : ∥ OpensTo (kept_view n) seen ∥₁ =
    saved-by (cell.while_open was_open (g.D.Disk.seen old) (g.met.D.Disk.reads_left old))
    c.logged.ensures.led ((rw c.logged.ensures.value at said.saved) (alone cell.desk.saved)) in (
      subst (HasDropped first w) (sym (ap (λ d. d.node.core) now.done)) kept,
      (
        subst (HasDropped first w) (sym (ap (λ d. d.saved) now.done)) kept,
        stays-open (kept_view n) desk.saved desk.node.core may_leave (ap (λ d. d.saved) now.done)
            (open-holds (kept_view n) seen may_leave said.only opens)
            (imaged-found (kept_view n) seen may_leave (g.met.D.Disk.reads_left (disk_of store))
            (λ none. c.logs-logs.ensures.plain (c.logs-logs.ensures.value ∙ none)) opens),
      ),
    )

pub returns-in-Ok-clause-done : goal.returns-in-Ok-clause-done
returns-in-Ok-clause-done g c =
    let store = c.save.new.self in
    let first = c.self.inside.origin.value in
    let trace = c.push.new.self in
    let desk = c.save-in-Ok.new.self in
    rw (← c.self.view_is)
    (ap (λ (b : Bool). cell_at first (disk_of store) b (logs_in store) trace desk)
    c.in-Ok.ensures.after.ready
    ∙ ap (λ (b : Bool). cell_at first (disk_of store) true b trace desk) c.save.ensures.logs
    ∙ ap (cell_at first (disk_of store) true (logs_in c.self.inside.store) trace)
    c.save-in-Ok.ensures.done)

pub returns-in-Ok-clause-any_moment : goal.returns-in-Ok-clause-any_moment
returns-in-Ok-clause-any_moment g c =
    let cell = c.self.inside in
    let old = disk_of cell.store in
    let said = c.in-Ok.ensures in
    let was_open : is_ready_in cell.store ≡ true =
    ⊎_elim (λ opens. opens) (λ shut. absurd (ok-no-error (said.after.closed.1 shut)))
    (cases_Bool (is_ready_in cell.store)) in
    subst (λ (v : CellView g.row.D.Denot). ∥ LeavesOnly g.D.Disk.moment g.D.Disk.left_since v.disk
    (disk_of c.save.new.self) (HoldsEither v) ∥₁) c.self.view_is
    (saved-since cell.desk.saved cell.desk.node.core
    (saved-by (cell.while_open was_open (g.D.Disk.seen old) (g.met.D.Disk.reads_left old))
    c.logged.ensures.led ((rw c.logged.ensures.value at said.any_moment) (alone cell.desk.saved))))

pub returns-in-Err-clause-any_moment : goal.returns-in-Err-clause-any_moment
returns-in-Err-clause-any_moment g c =
    let cell = c.self.inside in
    let old = disk_of cell.store in
    let new = disk_of c.save.new.self in
    let saved = cell.desk.saved in
    let n = cell.desk.node.core in
    let e = c.in-Err.refusal in
    let said = c.in-Err.ensures in
    let Since : Type 0 = ∥ LeavesOnly g.D.Disk.moment g.D.Disk.left_since old new
    (λ x. ∥ OpensToEither saved n x ∥₁) ∥₁ in
    let unchanged : (e ≢ refusal.Disk) → Since = λ apart.
    ∣ still-since (g.met.D.Disk.only_now old) (said.after.unchanged apart).0 cell.left ∣₁ in
    let failed : e ≡ refusal.Disk → Since = λ is.
    (let was_open : is_ready_in cell.store ≡ true =
    ⊎_elim (λ opens. opens)
    (λ shut.
    let closed : e ≡ refusal.Closed = same-refusal (said.after.closed.1 shut) in
    absurd (closed-no-disk (sym closed ∙ is))) (cases_Bool (is_ready_in cell.store)) in
    saved-since saved n
    (saved-by (cell.while_open was_open (g.D.Disk.seen old) (g.met.D.Disk.reads_left old))
    c.logged.ensures.led ((rw c.logged.ensures.value at (said.any_moment is)) (alone saved)))) in
    subst (λ (v : CellView g.row.D.Denot). ∥ LeavesOnly g.D.Disk.moment g.D.Disk.left_since v.disk
    new (HoldsEither v) ∥₁) c.self.view_is
    (⊎_elim (λ is. unchanged (λ d. absurd (closed-no-disk (sym is ∙ d))))
    (⊎_elim (λ is. unchanged (λ d. absurd (large-no-disk (sym is ∙ d))))
    (⊎_elim (λ is. unchanged (λ d. absurd (memory-no-disk (sym is ∙ d)))) failed))
    said.after.others)
