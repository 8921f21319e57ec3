use Rattle.frames.proofs.Frames.{no_spelling_begins_another}
use Rattle.frames.proofs.law.grammar.Goals as goal

pub returns : goal.returns
returns c = no_spelling_begins_another
