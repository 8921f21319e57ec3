use Rattle.std.proofs.Common.{◌≡◌, ◌⊎◌, Bool, IsTrue, inl, inr, ⊎_elim, true, false, refl, sym, ap, ◌∙◌, subst, [], ◌∷◌, ◌++◌}
use Rattle.circular_buffer.specs.Buffer.{keep_last}
use Rattle.ids.specs.declared.limits.TheConstants.{TRACE_EVENTS}
use Rattle.node.specs.Keeping.{WholeNode}
use Rattle.cell.specs.declared.call.Call.TheVariants as call
use Rattle.cell.specs.declared.call.CallOutcome.TheVariants as outcome
use Rattle.disk.specs.Crashes.{LeavesOnly}
use Rattle.wire.specs.Readers.{known, IsSame}
use Rattle.cell.specs.Cells.{CellView}
use Rattle.cell.specs.Disks.{HoldsSaved, OpensTo, OpensToNode, is_same_node}
use Rattle.cell.specs.Events.{found_step, reopened_by, restarted_by}
use Rattle.wire.specs.Entering.{Entered}
use Rattle.cell.specs.Desks.{new_desk, HasDropped}
use Rattle.cell.proofs.Dropping.{dropped-found, took-same}
use Rattle.cell.proofs.Opening.{core-found, imaged-found, never-bad, open-holds, saved-found, stays-open, which-found}
use Rattle.node_store.specs.Stores.{disk_of, logs_in}
use Rattle.node_store.proofs.Stores.{keeps_alone, keeps_kept}
use Rattle.cell.proofs.Views.{cell_at}
use Rattle.cell.proofs.cell.Cell.reopen.Goals as goal

pub returns-in-Err-clause-others : goal.returns-in-Err-clause-others
returns-in-Err-clause-others g c =
    let cell = c.self.inside in
    let seen = g.D.Disk.seen (disk_of cell.store) in
    ⊎_elim inl
    (⊎_elim
    (λ bad. absurd (never-bad cell.desk.saved cell.desk.node.core seen
    (cell.left seen (g.met.D.Disk.reads_left (disk_of cell.store)))
    (c.in-Err.ensures.refused.bad bad)))
    inr)
    c.in-Err.ensures.refused.others

pub reopen-requires-in-Ok-clause-kept : goal.reopen-requires-in-Ok-clause-kept
reopen-requires-in-Ok-clause-kept g c =
    keeps_kept c.in-Ok.found (g.D.Disk.seen (disk_of c.self.inside.store)) c.in-Ok.ensures.opened

pub reopen-requires-in-Ok-clause-alone : goal.reopen-requires-in-Ok-clause-alone
reopen-requires-in-Ok-clause-alone g c =
    keeps_alone c.in-Ok.found (g.D.Disk.seen (disk_of c.self.inside.store)) c.in-Ok.ensures.opened

pub reopen-requires-in-Ok-clause-which : goal.reopen-requires-in-Ok-clause-which
reopen-requires-in-Ok-clause-which g c =
    let cell = c.self.inside in
    let seen = g.D.Disk.seen (disk_of cell.store) in
    which-found cell.desk.saved cell.desk.node.core c.in-Ok.found.core seen
    (core-found c.in-Ok.found seen c.in-Ok.ensures.opened)
    (cell.left seen (g.met.D.Disk.reads_left (disk_of cell.store)))

pub invariant_of-self-inside : goal.invariant_of-self-inside
invariant_of-self-inside g c =
    let store = c.reopen.new.self in
    let desk = c.reopen-in-Ok.new.self in
    let seen = g.D.Disk.seen (disk_of store) in
    let found = c.in-Ok.found in
    let cell = c.self.inside in
    let was_seen = g.D.Disk.seen (disk_of cell.store) in
    let said = c.reopen-in-Ok.ensures in
    let there = core-found found was_seen c.in-Ok.ensures.opened in
    let v = known cell.desk.seat in
    let w = known desk.seat in
    let took = took-same v w (ap (λ u. u.me) said.known) (ap (λ u. u.taken) said.known) in
    let first = cell.origin.value in
    let kept = dropped-found found.core took
    (which-found cell.desk.saved cell.desk.node.core found.core was_seen there
    (cell.left was_seen (g.met.D.Disk.reads_left (disk_of cell.store))))
    cell.dropped cell.saved_dropped in
    let opens : ∥ OpensTo found.core seen ∥₁ =
    ∣ subst (OpensTo found.core) (sym c.reopen.ensures.read.quiet.same) there ∣₁ in (
      subst (HasDropped first w) (sym (ap (λ d. d.node.core) said.done)) kept,
      (
        subst (HasDropped first w) (sym (ap (λ d. d.saved) said.done)) kept,
        stays-open found.core desk.saved desk.node.core
            (g.D.Disk.may_leave (disk_of store)) (ap (λ d. d.saved) said.done)
            (open-holds found.core seen (g.D.Disk.may_leave (disk_of store)) c.in-Ok.ensures.only
            opens)
            (imaged-found found.core seen (g.D.Disk.may_leave (disk_of store))
            (g.met.D.Disk.reads_left (disk_of store))
            (λ none. c.logs-logs.ensures.plain (c.logs-logs.ensures.value ∙ none)) opens),
      ),
    )

pub returns-in-Ok-clause-restarted : goal.returns-in-Ok-clause-restarted
returns-in-Ok-clause-restarted g c =
    let cell = c.self.inside in
    let seen = g.D.Disk.seen (disk_of cell.store) in
    subst (λ (v : CellView g.row.D.Denot).
    IsTrue v.is_open ⊎ HoldsSaved (g.D.Disk.may_leave v.disk) v.saved
    → known c.reopen-in-Ok.new.self.seat ≡ restarted_by (known v.seat)) c.self.view_is
    (λ held. c.reopen-in-Ok.ensures.known
    ∙ ap (λ (b : Bool). reopened_by b (known cell.desk.seat))
    (saved-found cell.desk.saved c.in-Ok.found.core seen
    (core-found c.in-Ok.found seen c.in-Ok.ensures.opened)
    (⊎_elim (λ ready. cell.while_open ready seen (g.met.D.Disk.reads_left (disk_of cell.store)))
    (λ holds. holds seen (g.met.D.Disk.reads_left (disk_of cell.store))) held)))

pub returns-in-Ok-clause-entered : goal.returns-in-Ok-clause-entered
returns-in-Ok-clause-entered g c =
    let desk = c.reopen-in-Ok.new.self in
    subst (λ (v : CellView g.row.D.Denot).
    Entered (found_step (is_same_node desk.node.core v.saved) (known v.seat).me) (known v.seat)
    (known desk.seat)) c.self.view_is
    (subst (λ (n : WholeNode).
    Entered (found_step (is_same_node n.core c.self.inside.desk.saved)
    (known c.self.inside.desk.seat).me) (known c.self.inside.desk.seat) (known desk.seat))
    (sym (ap (λ d. d.node) c.reopen-in-Ok.ensures.done)) c.reopen-in-Ok.ensures.entered)

pub returns-in-Err-clause-saved_still : goal.returns-in-Err-clause-saved_still
returns-in-Err-clause-saved_still g c =
    let cell = c.self.inside in
    let saved = cell.desk.saved in
    subst (λ (v : CellView g.row.D.Denot).
    IsTrue v.is_open ⊎ HoldsSaved (g.D.Disk.may_leave v.disk) v.saved
    → HoldsSaved (g.D.Disk.may_leave (disk_of c.reopen.new.self)) saved) c.self.view_is
    (λ held x may.
    ⊎_elim
    (λ ready. cell.while_open ready)
    (λ holds. holds) held x (c.reopen.ensures.read.quiet.crash x may))

pub returns-in-Ok-clause-done : goal.returns-in-Ok-clause-done
returns-in-Ok-clause-done g c =
    let desk = c.reopen-in-Ok.new.self in
    let said = c.reopen-in-Ok.ensures in
    let store = c.reopen.new.self in
    let first = c.self.inside.origin.value in
    let trace = c.push.new.self in
    rw (← c.self.view_is)
    (ap (λ (b : Bool). cell_at first (disk_of store) b (logs_in store) trace desk)
    c.in-Ok.ensures.ready
    ∙ ap (λ (b : Bool). cell_at first (disk_of store) true b trace desk) c.reopen.ensures.logs
    ∙ ap (cell_at first (disk_of store) true (logs_in c.self.inside.store) trace)
    (said.done ∙ ap (λ (n : WholeNode). new_desk n desk.seat)
    (sym (ap (λ d. d.node) said.done))))

pub returns-in-Ok-clause-opened : goal.returns-in-Ok-clause-opened
returns-in-Ok-clause-opened g c =
    let node = c.reopen-in-Ok.new.self.node in
    subst (λ (v : CellView g.row.D.Denot). OpensToNode node (g.D.Disk.seen v.disk)) c.self.view_is
    (subst (λ (n : WholeNode). OpensToNode n (g.D.Disk.seen (disk_of c.self.inside.store)))
    (sym (ap (λ d. d.node) c.reopen-in-Ok.ensures.done)) c.in-Ok.ensures.opened)

pub returns-in-Ok-clause-known : goal.returns-in-Ok-clause-known
returns-in-Ok-clause-known g c =
    let desk = c.reopen-in-Ok.new.self in
    let old = c.self.inside.desk in
    subst (λ (v : CellView g.row.D.Denot).
    known desk.seat ≡ reopened_by (is_same_node desk.node.core v.saved) (known v.seat))
    c.self.view_is
    (c.reopen-in-Ok.ensures.known
    ∙ ap (λ (n : WholeNode). reopened_by (is_same_node n.core old.saved) (known old.seat))
    (sym (ap (λ d. d.node) c.reopen-in-Ok.ensures.done)))

pub returns-in-Ok-clause-same : goal.returns-in-Ok-clause-same
returns-in-Ok-clause-same g c =
    subst (λ (v : CellView g.row.D.Denot). IsSame v.seat c.reopen-in-Ok.new.self.seat)
    c.self.view_is c.reopen-in-Ok.ensures.same

pub returns-in-Ok-clause-traced : goal.returns-in-Ok-clause-traced
returns-in-Ok-clause-traced g c =
    subst (λ (v : CellView g.row.D.Denot).
    c.push.new.self ≡ keep_last TRACE_EVENTS (v.trace
    ++ record { call = call.Reopen; outcome = outcome.Done } ∷ [])) c.self.view_is c.push.ensures

pub returns-in-Err-clause-refused : goal.returns-in-Err-clause-refused
returns-in-Err-clause-refused g c =
    rw (← c.self.view_is)
    (ap (λ (b : Bool). cell_at c.self.inside.origin.value (disk_of c.reopen.new.self) b
    (logs_in c.reopen.new.self) c.push-in-Err.new.self c.self.inside.desk)
    (c.in-Err.ensures.shut refl)
    ∙ ap (λ (b : Bool). cell_at c.self.inside.origin.value (disk_of c.reopen.new.self) false b
    c.push-in-Err.new.self c.self.inside.desk) c.reopen.ensures.logs)

pub returns-in-Err-clause-same : goal.returns-in-Err-clause-same
returns-in-Err-clause-same g c =
    subst (λ (v : CellView g.row.D.Denot). IsSame v.seat c.self.inside.desk.seat) c.self.view_is
    (refl, refl, refl, refl, refl)

pub returns-in-Err-clause-traced : goal.returns-in-Err-clause-traced
returns-in-Err-clause-traced g c =
    subst (λ (v : CellView g.row.D.Denot).
    c.push-in-Err.new.self ≡ keep_last TRACE_EVENTS (v.trace
    ++ record { call = call.Reopen; outcome = outcome.Refused c.in-Err.refusal } ∷ []))
    c.self.view_is c.push-in-Err.ensures

pub returns-in-Ok-clause-any_moment : goal.returns-in-Ok-clause-any_moment
returns-in-Ok-clause-any_moment g c =
    subst (λ (v : CellView g.row.D.Denot). LeavesOnly g.D.Disk.moment g.D.Disk.left_since v.disk
    (disk_of c.reopen.new.self) (g.D.Disk.may_leave v.disk)) c.self.view_is
    c.reopen.ensures.read.quiet.any_moment

pub returns-in-Err-clause-any_moment : goal.returns-in-Err-clause-any_moment
returns-in-Err-clause-any_moment g c =
    subst (λ (v : CellView g.row.D.Denot). LeavesOnly g.D.Disk.moment g.D.Disk.left_since v.disk
    (disk_of c.reopen.new.self) (g.D.Disk.may_leave v.disk)) c.self.view_is
    c.reopen.ensures.read.quiet.any_moment
