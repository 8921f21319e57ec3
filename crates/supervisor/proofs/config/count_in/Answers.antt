use Rattle.std.proofs.Common.{◌∙◌, sym}
use Rattle.supervisor.proofs.Keys.{as-many-keys}
use Rattle.supervisor.proofs.config.count_in.Goals as goal

pub returns : goal.returns
returns c = c.len.ensures.len ∙ sym (as-many-keys c.args.table.now.entries)
