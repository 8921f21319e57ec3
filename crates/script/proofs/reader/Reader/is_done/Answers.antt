use Rattle.std.proofs.Common.{◌≡◌, ◌∙◌, Some, ap, rules, sym}
use Rattle.script.specs.Grammar.{words_of}
use Rattle.script.specs.Readers.{is_done}
use Rattle.script.specs.Words.{IsTrimmed}
use Rattle.script.proofs.Readers.{empty_is_done}
use Rattle.script.proofs.reader.Reader.is_done.Goals as goal

pub returns-in-Some : goal.returns-in-Some
returns-in-Some c =
    let left : c.args.self.now ≡ Some (words_of c.in-Some.text.now) = search rules in
    let trimmed : IsTrimmed c.in-Some.text.now = search rules in
    empty_is_done c.in-Some.text.now c.is_empty.result trimmed (sym c.is_empty.ensures)
    ∙ ap is_done (sym left)
