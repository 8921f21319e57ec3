use Rattle.std.proofs.Common.{subst}
use Rattle.c_handles.specs.Collecting.{Collects, helds}
use Rattle.c_handles.proofs.Garbage.{in-order, out-of-order}
use Rattle.c_handles.proofs.collecting.collect.Goals as goal

pub returns-in-Some : goal.returns-in-Some
returns-in-Some c =
    in-order c.args.cycle (helds c.args.cells.now) (helds c.collect_in_order.new.cells)
    c.collect_in_order.result c.in-Some.ensures.counts.1
    (subst (λ cells. Collects c.args.cycle cells (helds c.collect_in_order.new.cells)
    c.collect_in_order.result) c.count_in_order.ensures.same c.collect_in_order.ensures)

pub returns-in-None : goal.returns-in-None
returns-in-None c =
    out-of-order c.args.cycle (helds c.args.cells.now) (helds c.count_in_order.new.cells)
    c.in-None.ensures.counts c.in-None.ensures.same
