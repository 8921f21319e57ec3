use Rattle.cell.proofs.desk.Desk.logged.Goals as goal

pub returns-clause-led : goal.returns-clause-led
returns-clause-led c = rw (← c.self.view_is) c.self.inside.led
