use Rattle.cell.specs.Opened.{cores, world_of}
use Rattle.cell.proofs.joining.open.Given as goal

abbrev pub ghost-join : goal.ghost-join
ghost-join g a = world_of (cores a.nodes.items)
