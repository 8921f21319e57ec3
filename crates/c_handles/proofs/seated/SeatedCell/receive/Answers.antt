use Rattle.std.proofs.Common.{ap, refl, subst, sym, ◌∙◌}
use Rattle.std.specs.Arc.{arc_value}
use Rattle.std.proofs.lemmas.Bool.{false≢true}
use Rattle.std.proofs.lemmas.Result.{err_from_is_err_and}
use Rattle.disk.specs.declared.memory.MemoryDisk.{MemoryDisk}
use Rattle.wire.specs.Readers.{IsSeatOf}
use Rattle.wire.specs.declared.seats.Wire.{Wire}
use Rattle.wire.proofs.Same.{still-of}
use Rattle.cell.specs.Cells.{CellView}
use Rattle.c_handles.proofs.Seats.{pumped_by}
use Rattle.c_handles.proofs.Staying.{still-empty, still-refused}
use Rattle.c_handles.proofs.seated.SeatedCell.receive.Goals as goal

pub returns-in_err-pump_in : goal.returns-in_err-pump_in
returns-in_err-pump_in c =
    let p = err_from_is_err_and c.from_residual.result c.from_residual.ensures.1 in
    let h = c.in_err-pump_in.ensures in
    rw (p.1, p.2) (pumped_by (record { wire = refl; mark = refl; imaged = refl; gone = refl })
    h.pumped h.closed h.shut h.no_node h.goes_on refl)

pub returns-in-Empty : goal.returns-in-Empty
returns-in-Empty c =
    let h = rw c.in-Empty.is at c.in_ok-pump_in.ensures in
    pumped_by (record { wire = refl; mark = refl; imaged = refl; gone = refl })
    h.pumped h.closed h.shut h.no_node h.goes_on refl

pub returns-in-Event : goal.returns-in-Event
returns-in-Event c =
    let h = rw c.in-Event.is at c.in_ok-pump_in.ensures in
    pumped_by (record { wire = refl; mark = refl; imaged = refl; gone = refl })
    h.pumped h.closed h.shut h.no_node h.goes_on refl

pub pump_in-requires : goal.pump_in-requires
pump_in-requires c = record {
  wire = subst (λ (w : Wire). IsSeatOf w c.args.self.now.cell.seat) (sym c.deref.ensures)
      c.args.self.now.sits;
}

pub invariant_of-self : goal.invariant_of-self
invariant_of-self c =
    let old = c.args.self.now in
    let h = c.in_err-pump_in.ensures in
    record {
      sits = still-of (arc_value old.wire) old.cell.seat c.pump_in.new.self.seat old.sits
          h.goes_on.same;
      fresh = λ is.
          old.fresh is
          ∙ sym (still-refused c.args.from old.cell c.pump_in.new.self _ (h.shut, h.no_node) _
          h.pumped);
      plain = ap (λ (v : CellView MemoryDisk). v.logs) h.goes_on.stays ∙ old.plain;
    }

pub invariant_of-self-in-Empty : goal.invariant_of-self-in-Empty
invariant_of-self-in-Empty c =
    let old = c.args.self.now in
    let h = rw c.in-Empty.is at c.in_ok-pump_in.ensures in
    record {
      sits = still-of (arc_value old.wire) old.cell.seat c.pump_in.new.self.seat old.sits
          h.goes_on.same;
      fresh = λ is.
          old.fresh is
          ∙ sym (still-empty c.args.from old.cell c.pump_in.new.self _ (h.shut, h.no_node)
          h.pumped);
      plain = ap (λ (v : CellView MemoryDisk). v.logs) h.goes_on.stays ∙ old.plain;
    }

pub invariant_of-self-in-Event : goal.invariant_of-self-in-Event
invariant_of-self-in-Event c =
    let old = c.args.self.now in
    let h = c.in_ok-pump_in.ensures in
    record {
      sits = still-of (arc_value old.wire) old.cell.seat c.pump_in.new.self.seat old.sits
          h.goes_on.same;
      fresh = λ is. absurd (false≢true is);
      plain = ap (λ (v : CellView MemoryDisk). v.logs) h.goes_on.stays ∙ old.plain;
    }
