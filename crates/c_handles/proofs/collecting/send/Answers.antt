use Rattle.std.proofs.Common.{refl, Ok, Err}
use Rattle.c_handles.specs.Collecting.{Sends}
use Rattle.c_handles.proofs.Handles.{at_cell}
use Rattle.c_handles.proofs.Moves.{of_other}
use Rattle.c_handles.proofs.collecting.send.Goals as goal

pub returns-in-Ok-clause-does : goal.returns-in-Ok-clause-does
returns-in-Ok-clause-does c =
    of_other (Sends c.args.node c.args.to) c.args.node c.args.to _ _ (Ok tt)
    c.if-node-to.false (record {
      result = Ok c.in-Ok.field-0;
      at = at_cell c.args.cells.now c.args.node c.from.result c.index-cells-from.result
          c.send.new.self c.from.ensures c.requires c.in-Ok.ensures;
      says = refl;
    })

pub returns-in-Err-clause-does : goal.returns-in-Err-clause-does
returns-in-Err-clause-does c =
    of_other (Sends c.args.node c.args.to) c.args.node c.args.to _ _ (Err c.in-Err.fault)
    c.if-node-to.false (record {
      result = Err c.in-Err.fault;
      at = at_cell c.args.cells.now c.args.node c.from.result c.index-cells-from.result
          c.send.new.self c.from.ensures c.requires c.in-Err.ensures;
      says = refl;
    })
