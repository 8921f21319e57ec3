use Rattle.cell.proofs.joining.join.Given as goal

abbrev pub ghost-new : goal.ghost-new
ghost-new g a = g.opening
