use Rattle.std.proofs.Common.{◌∙◌, List, ap, map, subst, sym}
use Rattle.std.proofs.lemmas.List.{length-map}
use Rattle.std.specs.Arc.{arc_value}
use Rattle.std.specs.Global.{Vec}
use Rattle.wire.specs.Readers.{opened_with}
use Rattle.wire.specs.declared.seats.Watch.{Watch}
use Rattle.wire.specs.declared.seats.Wire.{Wire}
use Rattle.cell.specs.Cells.{desk_of}
use Rattle.cell.specs.Desks.{DeskView}
use Rattle.cell.specs.Reached.{IsReached}
use Rattle.supervisor.specs.Opened.{HaveOpened}
use Rattle.supervisor.proofs.Openings.{have-opened}
use Rattle.supervisor.proofs.space.SpaceOn+D+Unnamed.open.Goals as goal

pub returns-in-Ok-clause-closed : goal.returns-in-Ok-clause-closed
returns-in-Ok-clause-closed g c = λ opening reached width once.
    subst (λ (w : Wire). IsReached (opened_with w)) (sym c.in-Ok.ensures.wire)
    (c.in_ok-opened.ensures.closed opening reached width once)

pub returns-in-Ok-clause-killed : goal.returns-in-Ok-clause-killed
returns-in-Ok-clause-killed g c = λ opening reached width kill.
    subst (λ (w : Wire). IsReached (opened_with w)) (sym c.in-Ok.ensures.wire)
    (c.in_ok-opened.ensures.killed opening reached width kill)

pub returns-in-Ok-clause-fresh_disks : goal.returns-in-Ok-clause-fresh_disks
returns-in-Ok-clause-fresh_disks g c = λ fresh.
    subst (λ (w : Wire). IsReached (opened_with w)) (sym c.in-Ok.ensures.wire)
    (c.in_ok-opened.ensures.fresh fresh)

pub returns-in-Ok-clause-left : goal.returns-in-Ok-clause-left
returns-in-Ok-clause-left g c = λ w on.
    subst (λ (x : Wire). IsReached (opened_with x)) (sym c.in-Ok.ensures.wire)
    (c.in_ok-opened.ensures.left w on)

pub returns-in-Ok-clause-copies : goal.returns-in-Ok-clause-copies
returns-in-Ok-clause-copies g c = λ steps on.
    subst (λ (x : Wire). IsReached (opened_with x)) (sym c.in-Ok.ensures.wire)
    (c.in_ok-opened.ensures.copies steps on)

pub returns-in-Ok-clause-begins : goal.returns-in-Ok-clause-begins
returns-in-Ok-clause-begins g c =
    let opened = c.in_ok-opened.ensures in
    record {
      nodes = map (λ x. x.node) c.in_ok-opened.opened.cells.items;
      count = length-map c.in_ok-opened.opened.cells.items (λ x. x.node) ∙ opened.all;
      read = opened.read;
      are = ap opened_with c.in-Ok.ensures.wire ∙ opened.made.opening;
    }

pub returns-in-Ok-clause-opened : goal.returns-in-Ok-clause-opened
returns-in-Ok-clause-opened g c =
    let opened = c.in_ok-opened.ensures in
    let space = c.in-Ok.space in
    let shared = c.in-Ok.ensures in
    subst
    (λ (l : List DeskView). HaveOpened g.D.Disk.seen c.args.config.now.shape c.args.disks.items l
    (arc_value space.wire) space.watches.items)
    (sym shared.cells)
    (subst
    (λ (w : Wire). HaveOpened g.D.Disk.seen c.args.config.now.shape c.args.disks.items
    (map desk_of c.in_ok-opened.opened.cells.items) w space.watches.items)
    (sym shared.wire)
    (subst
    (λ (v : Vec Watch). HaveOpened g.D.Disk.seen c.args.config.now.shape c.args.disks.items
    (map desk_of c.in_ok-opened.opened.cells.items) c.in_ok-opened.opened.wire v.items)
    (sym shared.watches)
    (have-opened c.in_ok-opened.opened.cells.items opened.all opened.read opened.new opened.made)))
