use Rattle.cell.proofs.Ready.{opened-read}
use Rattle.cell.specs.Ages.{IfAges, IsWhy}
use Rattle.supervisor.proofs.Faults.{disks_by, unopened_by}
use Rattle.supervisor.proofs.cells.open_alone.Goals as goal

pub returns-in-Ok-clause-seats : goal.returns-in-Ok-clause-seats
returns-in-Ok-clause-seats g c = λ k s there. (c.in-Ok.ensures.made.each_seat k s there).of

pub returns-in-Ok-clause-one_age : goal.returns-in-Ok-clause-one_age
returns-in-Ok-clause-one_age g c =
    opened-read _ _ _ _ c.in-Ok.ensures.all c.in-Ok.ensures.read c.in-Ok.ensures.one_age

pub returns-in-Ok-clause-places : goal.returns-in-Ok-clause-places
returns-in-Ok-clause-places g c = λ k n there. (c.in-Ok.ensures.shaped k n there).numbered

pub returns-in-Ok-clause-watches : goal.returns-in-Ok-clause-watches
returns-in-Ok-clause-watches g c = λ k x there. (c.in-Ok.ensures.made.each_watch k x there).of

pub returns-in-Err-clause-disks : goal.returns-in-Err-clause-disks
returns-in-Err-clause-disks g c =
    λ other. disks_by c.in-Err.why c.fault_of.result c.fault_of.ensures
    (c.in-Err.ensures.disks other)

pub returns-in-Err-clause-why : goal.returns-in-Err-clause-why
returns-in-Err-clause-why g c =
    unopened_by
    (IsWhy g.D.Disk.seen g.D.Disk.seals g.D.Disk.moment g.D.Disk.faults c.args.shape
    c.args.disks.items)
    c.in-Err.why c.fault_of.result c.fault_of.ensures c.in-Err.ensures.why

pub returns-in-Err-clause-closed : goal.returns-in-Err-clause-closed
returns-in-Err-clause-closed g c =
    λ opening reached wide closed.
    unopened_by (IfAges (λ _ _. ⊥)) c.in-Err.why c.fault_of.result c.fault_of.ensures
    (c.in-Err.ensures.closed opening reached wide closed)

pub returns-in-Err-clause-killed : goal.returns-in-Err-clause-killed
returns-in-Err-clause-killed g c =
    λ opening reached wide killed.
    unopened_by (IfAges (λ _ _. ⊥)) c.in-Err.why c.fault_of.result c.fault_of.ensures
    (c.in-Err.ensures.killed opening reached wide killed)

pub returns-in-Err-clause-fresh : goal.returns-in-Err-clause-fresh
returns-in-Err-clause-fresh g c =
    λ fresh. unopened_by (IfAges (λ _ _. ⊥)) c.in-Err.why c.fault_of.result c.fault_of.ensures
    (c.in-Err.ensures.fresh fresh)

pub returns-in-Err-clause-kept : goal.returns-in-Err-clause-kept
returns-in-Err-clause-kept g c =
    λ w left held. unopened_by (IfAges (λ _ _. ⊥)) c.in-Err.why c.fault_of.result c.fault_of.ensures
    (c.in-Err.ensures.kept w left held)
