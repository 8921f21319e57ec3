use Rattle.cell.proofs.desk.Desk.perform.Given as goal

abbrev pub ghost-enter : goal.ghost-enter
ghost-enter g a = g.was
