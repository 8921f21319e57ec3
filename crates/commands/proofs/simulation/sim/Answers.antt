use Rattle.std.proofs.Common.{◌+◌, ◌∙◌, refl, sym, arith, rules}
use Rattle.std.proofs.lemmas.Bool.{eqb-true}
use Rattle.commands.proofs.Printing.{flushed_replies, printed_all, printed_last, printed_more, printed_nothing, small_replies}
use Rattle.commands.proofs.simulation.sim.Goals as goal

pub loop-rest-init : goal.loop-rest-init
loop-rest-init g c = (
  search rules,
  omega arith,
  rw (c.in-Ok.is, c.as_str-text.ensures.value)
      (printed_nothing _ (g.W.Write.contents c.args.out.now)),
)

-- a line that doesn't end the program
pub loop-rest-preserved : goal.loop-rest-preserved
loop-rest-preserved g c = (
  search rules,
  omega (arith, c.loop-rest.invariant.1, c.first_line.ensures.less),
  rw c.in-Ok.is
      (printed_more _ (g.W.Write.contents c.args.out.now) _ _
      (rw c.in-Ok.is at c.loop-rest.invariant.2)
      (record {
        text = c.first_line.result.0.now;
        status = c.in_ok-reached.reached;
        step = c.first_line.ensures.line;
        counts = refl;
        says = c.in_ok-reached.ensures;
        worse = c.max-status.ensures;
      })
      c.if-reached-eq-UNREADABLE.false),
)

-- a line that does
pub returns-then-reached-eq-UNREADABLE-clause-replies :
    goal.returns-then-reached-eq-UNREADABLE-clause-replies
returns-then-reached-eq-UNREADABLE-clause-replies g c =
    rw c.in-Ok.is
    (flushed_replies _ _ _ _ _
    (printed_last _ (g.W.Write.contents c.args.out.now) _
    (record {
      rest = c.first_line.result.1.now;
      count = c.loop-rest.number + 1;
      state = c.run_line.new.state;
      status = c.max-status.result;
      output = g.W.Write.contents c.run_line.new.out;
    })
    (rw c.in-Ok.is at c.loop-rest.invariant.2)
    (record {
      text = c.first_line.result.0.now;
      status = c.in_ok-reached.reached;
      step = c.first_line.ensures.line;
      counts = refl;
      says = c.in_ok-reached.ensures;
      worse = c.max-status.ensures;
    })
    c.if-reached-eq-UNREADABLE.true)
    (search rules))

pub returns-then-reached-eq-UNREADABLE-clause-small :
    goal.returns-then-reached-eq-UNREADABLE-clause-small
returns-then-reached-eq-UNREADABLE-clause-small g c =
    small_replies _ _ _ _
    (rw c.in-Ok.is at (returns-then-reached-eq-UNREADABLE-clause-replies g c))

-- the end of the script
pub returns-clause-replies : goal.returns-clause-replies
returns-clause-replies g c =
    rw c.in-Ok.is
    (flushed_replies _ _ _ _ _
    (printed_all _ (g.W.Write.contents c.args.out.now) _
    (rw c.in-Ok.is at c.loop-rest.invariant.2)
    (eqb-true _ 0 (sym c.is_empty.ensures ∙ c.loop-rest-test.false)))
    (search rules))

pub returns-clause-small : goal.returns-clause-small
returns-clause-small g c =
    small_replies _ _ _ _ (rw c.in-Ok.is at (returns-clause-replies g c))
