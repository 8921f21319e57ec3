use Rattle.std.proofs.Common.{◌≡◌, true, false, ap, sym, ◌∙◌, Bool}
use Rattle.wire.specs.Readers.{known}
use Rattle.node_store.specs.Stores.{disk_of, is_ready_in, logs_in}
use Rattle.cell.proofs.Dropping.{dropped-as, given-dropped, given-took, own-none}
use Rattle.cell.proofs.Opening.{stays-open}
use Rattle.model.specs.Steps.{is_shading}
use Rattle.node.specs.Keeping.{met}
use Rattle.cell.proofs.Marks.{marked-after}
use Rattle.cell.proofs.Refusing.{never-closed}
use Rattle.cell.proofs.Views.{cell_at}
use Rattle.cell.proofs.cell.Cell.act.Goals as goal

pub invariant_of-self-inside-2 : goal.invariant_of-self-inside-2
invariant_of-self-inside-2 g c =
    let cell = c.self.inside in
    let desk = c.act-answered.new.self in
    let ready : is_ready_in cell.store ≡ true =
    sym c.is_ready.ensures.ready ∙ c.if-not-is_ready.false in
    let v = known cell.desk.seat in
    let w = known desk.seat in
    let given = c.act-answered.ensures.given in
    let same = ap (λ d. d.saved) c.act-answered.ensures.stays in
    let first = cell.origin.value in (
      given-dropped given (own-none cell.desk.node.early c.args.event.now c.requires.own)
          cell.dropped,
      (
        dropped-as first v w cell.desk.saved desk.saved (given-took given) same
            cell.saved_dropped,
        stays-open cell.desk.saved desk.saved desk.node.core
            (g.D.Disk.may_leave (disk_of cell.store)) same (cell.while_open ready) cell.imaged,
      ),
    )

pub returns-clause-closed : goal.returns-clause-closed
returns-clause-closed g c =
    let old = c.self.inside.desk.node in (
      λ closed. absurd (never-closed (is_shading (met old.early c.args.event.now))
          (met old.early c.args.event.now) old.core c.act-answered.new.self.node.core
          c.act-answered.result c.act-answered.ensures.given.acted.performs closed),
      λ shut. (let never : ◌≡◌ {A = Bool} true false =
          sym c.if-not-is_ready.false ∙ c.is_ready.ensures.ready
          ∙ ap (λ v. v.is_open) c.self.view_is ∙ shut in absurd cc),
    )

pub returns-clause-goes_on : goal.returns-clause-goes_on
returns-clause-goes_on g c =
    let cell = c.self.inside in
    let said = c.act-answered.ensures in
    rw (← c.self.view_is)
    record {
      same = said.same;
      marked = marked-after _ _ c.act-answered.result _ _ said.given.acted.known said.unsaved;
      stays = ap (cell_at cell.origin.value (disk_of cell.store) (is_ready_in cell.store)
          (logs_in cell.store) c.push-2.new.self)
          said.stays;
    }
