use Rattle.cell.proofs.Closed.{closed-is-left, closed-is-reached}
use Rattle.cell.proofs.Killed.{killed-is-left}
use Rattle.cell.proofs.Together.{cells-agree, cells-have-named, cells-free-garbage}
use Rattle.cell.proofs.headline.laws_at_once.Goals as goal

pub returns-clause-agreement : goal.returns-clause-agreement
returns-clause-agreement g c = cells-agree g.D.Disk.may_leave

pub returns-clause-live : goal.returns-clause-live
returns-clause-live g c = cells-have-named g.D.Disk.may_leave

pub returns-clause-gone : goal.returns-clause-gone
returns-clause-gone g c = cells-free-garbage g.D.Disk.may_leave

pub returns-clause-left : goal.returns-clause-left
returns-clause-left g c = closed-is-left g.D.Disk.may_leave

pub returns-clause-closed : goal.returns-clause-closed
returns-clause-closed g c = closed-is-reached g.D.Disk.may_leave

pub returns-clause-killed : goal.returns-clause-killed
returns-clause-killed g c = killed-is-left g.D.Disk.may_leave
