use Rattle.c_handles.specs.Collecting.{Receives}
use Rattle.c_handles.proofs.Handles.{at_cell}
use Rattle.c_handles.proofs.Moves.{of_other}
use Rattle.c_handles.proofs.collecting.receive.Goals as goal

pub returns-clause-does : goal.returns-clause-does
returns-clause-does c =
    of_other (Receives c.args.node c.args.from) c.args.node c.args.from _ _ c.received.result
    c.if-node-from.false (record {
      result = c.receive-receipt.result;
      at = at_cell c.args.cells.now c.args.node c.from.result c.index-cells-from.result
          c.receive-receipt.new.self c.from.ensures c.requires c.receive-receipt.ensures;
      says = c.received.ensures;
    })
