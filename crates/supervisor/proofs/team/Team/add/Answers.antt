use Rattle.std.proofs.Common.{◌≡◌, arith}
use Rattle.std.proofs.lemmas.List.Elements.{All-push, All-same}
use Rattle.supervisor.specs.declared.team.Worker.{Worker}
use Rattle.supervisor.proofs.team.Team.add.Goals as goal

pub invariant_of-self : goal.invariant_of-self
invariant_of-self c =
    let team = c.args.self.now in
    let Planned = λ (w : Worker). w.of.plan ≡ team.plan in
    record {
      room = omega (arith, c.requires.room.report, c.push_reserved.ensures.len);
      planned = All-same Planned _ _ c.push_reserved.ensures.items
          (All-push Planned team.workers.items c.args.worker team.planned c.requires.planned);
      reported = team.reported;
    }
