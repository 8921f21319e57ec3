use Rattle.std.proofs.Common.{Some, true}
use Rattle.cell.specs.Names.{name_of}
use Rattle.supervisor.proofs.space.Opened.serve.Given as goal

abbrev pub ghosts-serve_on : goal.ghosts-serve_on
ghosts-serve_on g a = record { wire = Some (name_of a.opened.wire); begun = true }
