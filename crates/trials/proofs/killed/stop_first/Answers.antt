use Rattle.std.proofs.Common.{get_or}
use Rattle.std.proofs.lemmas.Option.{slice_get-get_or}
use Rattle.trials.proofs.Chained.{each-set}
use Rattle.trials.proofs.killed.stop_first.Goals as goal

pub returns-clause-cells : goal.returns-clause-cells
returns-clause-cells c =
    let xs = c.args.cells.now in
    each-set c.args.wire.now xs 0 (get_or xs 0 c.index-cells-0.result) c.stop_in_save.new.cell
    c.requires.cells (slice_get-get_or xs 0 c.index-cells-0.result c.requires.some)
    c.stop_in_save.ensures.same c.stop_in_save.ensures.origin
