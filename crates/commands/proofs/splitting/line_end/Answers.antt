use Rattle.commands.proofs.FirstLines.{first_near}
use Rattle.commands.proofs.splitting.line_end.Goals as goal

pub returns-in-Some : goal.returns-in-Some
returns-in-Some c = first_near c.args.text.now _ c.in-Some.end c.in-Some.ensures
