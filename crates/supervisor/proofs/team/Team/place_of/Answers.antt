use Rattle.std.proofs.Common.{map, arith}
use Rattle.std.proofs.lemmas.List.{length-map}
use Rattle.std.proofs.lemmas.Option.{slice_get_within}
use Rattle.supervisor.proofs.Teams.{others-next}
use Rattle.supervisor.proofs.team.Team.place_of.Goals as goal

pub loop-place-init : goal.loop-place-init
loop-place-init c = λ k n there below. absurd (omega (arith, below))

pub loop-place-preserved : goal.loop-place-preserved
loop-place-preserved c =
    others-next (λ w. w.of.node) c.args.self.now.workers.items c.args.node c.loop-place.place
    (omega (
      arith,
      c.loop-place-test.true,
      c.len-place-end.ensures,
      c.args.self.now.workers.ok.0,
    ))
    c.index.ensures c.if-index-node.false c.loop-place.invariant

pub returns : goal.returns
returns c = record {
  within = tt;
  none = λ k n there.
      c.loop-place.invariant k n there
      (let workers = c.args.self.now.workers.items in
      let inside = slice_get_within (map (λ w. w.of.node) workers) k n there in
      let long = length-map workers (λ w. w.of.node) in
      omega (arith, inside, long));
}
