use Rattle.std.proofs.Common.{arith}
use Rattle.wire.proofs.Rounds.{first-begins, first-next, second-begins, second-ends, second-next}
use Rattle.wire.proofs.surveying.survey.Goals as goal

pub loop-to-init : goal.loop-to-init
loop-to-init g c = first-begins g.T.Learner.seating c.args.wire.now c.args.learners.now c.requires

pub learn_from-requires-clause-wire : goal.learn_from-requires-clause-wire
learn_from-requires-clause-wire g c = c.loop-to.invariant.seats

pub learn_from-requires-clause-from : goal.learn_from-requires-clause-from
learn_from-requires-clause-from g c = omega (arith, c.loop-to.invariant.within)

pub loop-to-preserved : goal.loop-to-preserved
loop-to-preserved g c =
    first-next g.T.Learner.seating c.args.wire.now c.args.learners.now
    c.loop-to.invariant (omega arith) c.learn_from.ensures

pub loop-place-init : goal.loop-place-init
loop-place-init g c =
    second-begins g.T.Learner.seating c.args.wire.now c.args.learners.now
    c.loop-to.invariant (omega arith)

pub learn_from-requires-in-loop-place-clause-wire
    : goal.learn_from-requires-in-loop-place-clause-wire
learn_from-requires-in-loop-place-clause-wire g c = c.loop-place.invariant.seats

pub learn_from-requires-in-loop-place-clause-from
    : goal.learn_from-requires-in-loop-place-clause-from
learn_from-requires-in-loop-place-clause-from g c =
    (let last = c.loop-place.invariant.inside (omega arith) in omega (arith, last))

pub loop-place-preserved : goal.loop-place-preserved
loop-place-preserved g c =
    second-next g.T.Learner.seating c.args.wire.now c.args.learners.now
    c.loop-place.invariant (omega arith) c.learn_from-in-loop-place.ensures

pub returns-clause-at_once : goal.returns-clause-at_once
returns-clause-at_once g c =
    second-ends g.T.Learner.seating c.args.wire.now c.args.learners.now
    c.loop-place.invariant (omega arith)

pub returns-clause-learned : goal.returns-clause-learned
returns-clause-learned g c = c.loop-place.invariant.learned
