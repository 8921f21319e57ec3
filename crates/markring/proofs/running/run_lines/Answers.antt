use Rattle.std.proofs.Common.{◌+◌, ◌∙◌, refl, sym, arith, rules}
use Rattle.std.proofs.lemmas.Bool.{eqb-true}
use Rattle.markring.specs.Told.{PrintsTold}
use Rattle.markring.proofs.Lines.{printed_all, printed_last, printed_more, printed_nothing, small_status}
use Rattle.markring.proofs.running.run_lines.Goals as goal

pub loop-rest-init : goal.loop-rest-init
loop-rest-init g c = (
  search rules,
  omega arith,
  c.requires,
  printed_nothing c.args.bytes.wide c.args.script.now (g.W.Write.contents c.args.out.now),
)

-- a line that doesn't end the program
pub loop-rest-preserved : goal.loop-rest-preserved
loop-rest-preserved g c = (
  search rules,
  omega (arith, c.loop-rest.invariant.1, c.next_line.ensures.less),
  c.in_ok-reached.ensures.watch,
  printed_more c.args.bytes.wide c.args.script.now (g.W.Write.contents c.args.out.now) _ _
      c.loop-rest.invariant.3
      (record {
        text = c.next_line.result.0.now;
        status = c.in_ok-reached.reached;
        step = c.next_line.ensures.line;
        counts = refl;
        says = c.in_ok-reached.ensures.told;
        worse = c.max-status.ensures;
      })
      c.if-reached-eq-UNREADABLE.false,
)

-- a line that does
pub returns-then-reached-eq-UNREADABLE : goal.returns-then-reached-eq-UNREADABLE
returns-then-reached-eq-UNREADABLE g c =
    let out = g.W.Write.contents c.run_line.new.out in
    let told : PrintsTold c.args.bytes.wide c.args.script.now c.max-status.result
    (g.W.Write.contents c.args.out.now) out =
    printed_last c.args.bytes.wide c.args.script.now (g.W.Write.contents c.args.out.now) _
    (record {
      rest = c.next_line.result.1.now;
      count = c.loop-rest.number + 1;
      status = c.max-status.result;
      output = out;
    })
    c.loop-rest.invariant.3
    (record {
      text = c.next_line.result.0.now;
      status = c.in_ok-reached.reached;
      step = c.next_line.ensures.line;
      counts = refl;
      says = c.in_ok-reached.ensures.told;
      worse = c.max-status.ensures;
    })
    c.if-reached-eq-UNREADABLE.true in
    record { told = told; small = small_status told }

-- the end of the script
pub returns : goal.returns
returns g c =
    let told : PrintsTold c.args.bytes.wide c.args.script.now c.loop-rest.status
    (g.W.Write.contents c.args.out.now) (g.W.Write.contents c.loop-rest.out) =
    printed_all c.args.bytes.wide c.args.script.now (g.W.Write.contents c.args.out.now) _
    c.loop-rest.invariant.3
    (eqb-true _ 0 (sym c.is_empty.ensures ∙ c.loop-rest-test.false)) in
    record { told = told; small = small_status told }
