use Rattle.script.proofs.Reports.{next_line}
use Rattle.script.proofs.printing.print_report.Goals as goal

pub loop-place-preserved : goal.loop-place-preserved
loop-place-preserved g c =
    let contents = g.W.Write.contents in
    next_line (contents c.args.out.now) (contents c.loop-place.out)
    (contents c.print_cycle.new.out) c.args.sums.now c.loop-place.place c.loop-place-test.true
    c.loop-place.invariant c.in_ok-print_cycle.ensures
