use Rattle.std.proofs.Common.{◌∙◌, ◌&&◌, ap, codes}
use Rattle.std.specs.Str.{bytes_eq}
use Rattle.script.proofs.Readers.{reclaim_read, young}
use Rattle.script.proofs.line.reclaim.Goals as goal

pub returns : goal.returns
returns c =
    let word = c.in-Some.word.now in
    let rest = c.in-Some.rest.now in
    c.say_if.ensures
    ∙ ap (young c.args.node) (ap (λ b. b && c.is_empty.result) c.eq.ensures
    ∙ ap (λ b. bytes_eq word (codes "young") && b) c.is_empty.ensures)
    ∙ reclaim_read c.args.node word rest c.in-Some.ensures.trimmed c.in-Some.ensures.word
