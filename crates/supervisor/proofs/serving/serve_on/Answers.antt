use Rattle.std.proofs.Common.{◌∙◌}
use Rattle.supervisor.proofs.Teams.{first-stays, reported-as}
use Rattle.supervisor.proofs.serving.serve_on.Goals as goal

pub returns-clause-reports : goal.returns-clause-reports
returns-clause-reports g c =
    reported-as _ (first-stays c.start.ensures.stays ∙ c.in_ok-space.ensures.plan)
    c.close_at_once-reports.ensures.reports
