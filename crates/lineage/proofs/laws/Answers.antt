use Rattle.lineage.proofs.Meeting.{latest-alone, never-back, newest-is-met}
use Rattle.lineage.proofs.Systems.{ends-with-cause, finds-older, newest-goes-on}
use Rattle.lineage.proofs.laws.Goals as goal

pub returns-clause-ends_with_cause : goal.returns-clause-ends_with_cause
returns-clause-ends_with_cause c = ends-with-cause

pub returns-clause-finds_older : goal.returns-clause-finds_older
returns-clause-finds_older c = finds-older

pub returns-clause-newest_goes_on : goal.returns-clause-newest_goes_on
returns-clause-newest_goes_on c = newest-goes-on

pub returns-clause-never_back : goal.returns-clause-never_back
returns-clause-never_back c = never-back

pub returns-clause-latest_alone : goal.returns-clause-latest_alone
returns-clause-latest_alone c = latest-alone

pub returns-clause-newest_is_met : goal.returns-clause-newest_is_met
returns-clause-newest_is_met c = newest-is-met
