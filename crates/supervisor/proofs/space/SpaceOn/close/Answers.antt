use Rattle.supervisor.proofs.Teams.{reported-as}
use Rattle.supervisor.proofs.space.SpaceOn.close.Goals as goal

pub returns-in-Some-clause-reports : goal.returns-in-Some-clause-reports
returns-in-Some-clause-reports g c =
    reported-as _ (c.args.self.planned c.in-Some.team c.in-Some.is) c.close.ensures.reports
