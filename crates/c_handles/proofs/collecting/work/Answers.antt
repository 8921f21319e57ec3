use Rattle.c_handles.proofs.Handles.{at_cell}
use Rattle.c_handles.proofs.collecting.work.Goals as goal

pub returns-clause-does : goal.returns-clause-does
returns-clause-does c = record {
  work = c.work-worked.new.work;
  at = at_cell c.args.cells.now c.args.node c.from.result c.index-cells-from.result
      c.work-worked.new.self c.from.ensures c.requires c.work-worked.ensures;
}
