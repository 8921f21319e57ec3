use Rattle.std.proofs.Common.{Some, ap, ◌∙◌, subst, sym}
use Rattle.std.specs.Arc.{arc_value}
use Rattle.wire.specs.Readers.{opened_with}
use Rattle.wire.specs.Rule.{nodes_of}
use Rattle.wire.specs.declared.seats.Wire.{Wire}
use Rattle.cell.specs.Closing.{AreOfOneMoment}
use Rattle.cell.specs.Names.{name_of}
use Rattle.supervisor.proofs.closing.close_cells.Goals as goal

pub take_at_once-requires-clause-named : goal.take_at_once-requires-clause-named
take_at_once-requires-clause-named g c =
    c.requires.named ∙ ap (λ (w : Wire). Some (name_of w)) (sym c.deref.ensures)

pub take_at_once-requires-clause-wide : goal.take_at_once-requires-clause-wide
take_at_once-requires-clause-wide g c =
    ap (λ (w : Wire). nodes_of (opened_with w)) c.deref.ensures ∙ c.requires.wide

pub invariant_of-result : goal.invariant_of-result
invariant_of-result g c = record {
  once = ∣ subst
      (λ (w : Wire).
      AreOfOneMoment g.D.Disk.may_leave (opened_with w) c.in_ok-disks.disks.items)
      (c.deref.ensures ∙ ap (λ x. arc_value x) (sym c.of.ensures)) c.in_ok-disks.ensures.once ∣₁;
}

pub returns-clause-once : goal.returns-clause-once
returns-clause-once g c =
    subst
    (λ (w : Wire).
    AreOfOneMoment g.D.Disk.may_leave (opened_with w) c.in_ok-disks.disks.items)
    c.deref.ensures c.in_ok-disks.ensures.once
