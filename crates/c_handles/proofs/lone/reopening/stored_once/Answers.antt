use Rattle.c_handles.proofs.Batches.{stored_one}
use Rattle.c_handles.proofs.lone.reopening.stored_once.Goals as goal

pub returns : goal.returns
returns c = stored_one
