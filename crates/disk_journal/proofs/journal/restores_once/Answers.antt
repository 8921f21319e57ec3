use Rattle.disk_journal.proofs.Values.{restores_one}
use Rattle.disk_journal.proofs.journal.restores_once.Goals as goal

pub returns : goal.returns
returns g c =
    restores_one g.met.P.Persist.one_value g.met.P.Persist.one_end
