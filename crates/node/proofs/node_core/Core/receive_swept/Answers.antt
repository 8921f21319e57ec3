use Rattle.std.proofs.Common.{◌<◌, ◌∙◌, arith, ap, subst, sym}
use Rattle.std.proofs.lemmas.Bool.{eqb-true}
use Rattle.ids.specs.Limits.{Shaped}
use Rattle.node.proofs.Receiving.{follows, swept-now}
use Rattle.node.proofs.Runs.{run-phases, run-stands}
use Rattle.node.proofs.node_core.Core.receive_swept.Goals as goal

pub note_swept-requires-clause-director : goal.note_swept-requires-clause-director
note_swept-requires-clause-director c =
    (run-stands c.args.stamp _ _ _ c.in_ok-run.ensures.done).own
    ∙ eqb-true c.args.self.now.local.own 0 (follows c.requires)

pub note_swept-requires-clause-there : goal.note_swept-requires-clause-there
note_swept-requires-clause-there c =
    subst (λ (s : Shaped). c.args.from < s.nodes)
    (sym (run-stands c.args.stamp _ _ _ c.in_ok-run.ensures.done).shape) c.requires.sender.there

pub note_swept-requires-clause-reached : goal.note_swept-requires-clause-reached
note_swept-requires-clause-reached c =
    let now = ap (λ p. p.cycle) (run-phases c.args.stamp _ _ _ c.in_ok-run.ensures.done) in
    omega (arith, now, swept-now c.args.self.now.local c.args.stamp c.requires)
