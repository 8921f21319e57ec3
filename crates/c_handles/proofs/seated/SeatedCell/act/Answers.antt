use Rattle.std.proofs.Common.{ap, inl, refl, subst, sym, ◌∙◌}
use Rattle.std.specs.Arc.{arc_value}
use Rattle.std.proofs.lemmas.Bool.{false≢true}
use Rattle.std.proofs.lemmas.Result.{err_from_is_err_and}
use Rattle.disk.specs.declared.memory.MemoryDisk.{MemoryDisk}
use Rattle.wire.specs.Readers.{IsSeatOf}
use Rattle.wire.specs.declared.seats.Wire.{Wire}
use Rattle.wire.proofs.Same.{still-of}
use Rattle.cell.specs.Cells.{CellView}
use Rattle.c_handles.proofs.Seats.{acted_by, acted_plain}
use Rattle.c_handles.proofs.Staying.{in-both}
use Rattle.c_handles.proofs.seated.SeatedCell.act.Goals as goal

pub act-requires : goal.act-requires
act-requires c = record {
  wire = subst (λ (w : Wire). IsSeatOf w c.args.self.now.cell.seat) (sym c.deref.ensures)
      c.args.self.now.sits;
  own = c.requires.own;
}

pub invariant_of-self : goal.invariant_of-self
invariant_of-self c =
    let old = c.args.self.now in
    let h = c.in_err-answer.ensures in
    record {
      sits = still-of (arc_value old.wire) old.cell.seat c.act.new.self.seat old.sits
          h.goes_on.same;
      fresh = λ is.
          old.fresh is
          ∙ sym (in-both old.cell.is_open (λ ready. (h.given ready).acted.unchanged)
          (λ shut. ap (λ (v : CellView MemoryDisk). v.node.core) (h.shut shut)));
      plain = ap (λ (v : CellView MemoryDisk). v.logs) h.goes_on.stays ∙ old.plain;
    }

pub invariant_of-self-2 : goal.invariant_of-self-2
invariant_of-self-2 c =
    let old = c.args.self.now in
    let h = c.in_ok-answer.ensures in
    record {
      sits = still-of (arc_value old.wire) old.cell.seat c.act.new.self.seat old.sits
          h.goes_on.same;
      fresh = λ is. absurd (false≢true is);
      plain = ap (λ (v : CellView MemoryDisk). v.logs) h.goes_on.stays ∙ old.plain;
    }

pub returns-in_err-answer : goal.returns-in_err-answer
returns-in_err-answer c =
    let p = err_from_is_err_and c.from_residual.result c.from_residual.ensures.1 in
    let h = c.in_err-answer.ensures in
    rw (p.1, p.2)
    (inl (acted_by (record { wire = refl; mark = refl; imaged = refl; gone = refl })
    h.given h.memory_free h.closed h.shut h.goes_on h.traced refl))

pub returns : goal.returns
returns c =
    let h = c.in_ok-answer.ensures in
    acted_plain {old = c.args.self.now} (sym c.lists.ensures ∙ c.if-lists.false)
    (acted_by (record { wire = refl; mark = refl; imaged = refl; gone = refl })
    h.given h.memory_free h.closed h.shut h.goes_on h.traced refl)
