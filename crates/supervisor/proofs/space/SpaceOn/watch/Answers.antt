use Rattle.std.specs.Arc.{arc_value}
use Rattle.supervisor.proofs.Watches.{handed-of, left-of}
use Rattle.supervisor.proofs.space.SpaceOn.watch.Goals as goal

pub invariant_of-self : goal.invariant_of-self
invariant_of-self g c =
    let space = c.args.self.now in
    record {
      each = space.each;
      some = space.some;
      wide = space.wide;
      of = left-of (arc_value space.wire) _ _ c.pop.result space.of c.pop.ensures.items;
      planned = space.planned;
    }

pub returns-clause-of : goal.returns-clause-of
returns-clause-of g c =
    let space = c.args.self.now in
    handed-of (arc_value space.wire) _ _ c.pop.result space.of c.pop.ensures.items
