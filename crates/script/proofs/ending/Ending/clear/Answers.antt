use Rattle.std.proofs.Common.{arith}
use Rattle.std.proofs.lemmas.List.{drop_all}
use Rattle.script.specs.declared.ending.TheConstants.{ROOM}
use Rattle.script.proofs.ending.Ending.clear.Goals as goal

pub returns-clause-empty : goal.returns-clause-empty
returns-clause-empty c = drop_all ROOM c.args.self.now.bytes (omega arith)
