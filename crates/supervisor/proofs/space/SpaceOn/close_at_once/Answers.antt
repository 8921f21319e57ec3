use Rattle.supervisor.proofs.Teams.{none-reported, reported-as, reported-in}
use Rattle.supervisor.proofs.space.SpaceOn.close_at_once.Goals as goal
use Rattle.supervisor.proofs.space.SpaceOn.close_at_once.Goals.{in-Some, in-None}

pub returns-clause-reports : goal.returns-clause-reports
returns-clause-reports g c =
    elim c.match-team.branch [
      | in-Some w ↦ reported-in c.args.self.plan w.reports-is
          (reported-as _ (c.args.self.planned w.in-Some.team w.in-Some.is)
          w.close-reports.ensures.reports)
      | in-None w ↦
          reported-in c.args.self.plan w.reports-is
          (none-reported c.args.self.plan _ w.new-reports.ensures.items)
    ]
