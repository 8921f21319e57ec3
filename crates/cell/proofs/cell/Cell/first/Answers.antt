use Rattle.cell.proofs.cell.Cell.first.Goals as goal

pub returns : goal.returns
returns g c = rw (← c.self.view_is) c.of.ensures
