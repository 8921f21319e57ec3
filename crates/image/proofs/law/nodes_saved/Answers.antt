use Rattle.image.proofs.Conditions.{saved_both}
use Rattle.image.proofs.law.nodes_saved.Goals as goal

pub returns : goal.returns
returns c = saved_both
