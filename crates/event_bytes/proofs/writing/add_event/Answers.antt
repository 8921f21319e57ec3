use Rattle.event_bytes.proofs.Starts.{started}
use Rattle.event_bytes.proofs.writing.add_event.Goals as goal

pub returns-clause-start : goal.returns-clause-start
returns-clause-start c = λ short. started c.args.event.now short c.add_start.ensures
