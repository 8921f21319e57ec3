use Rattle.wire.proofs.Rounds.{FirstRound, SecondRound}
use Rattle.wire.proofs.surveying.survey.Given as goal

abbrev pub invariant-loop-to : goal.invariant-loop-to
invariant-loop-to g l =
    FirstRound g.T.Learner.seating l.wire l.fn.learners l.learners l.to l.last

abbrev pub invariant-loop-place : goal.invariant-loop-place
invariant-loop-place g l =
    SecondRound g.T.Learner.seating l.wire l.fn.learners l.learners l.place l.last
