use Rattle.std.proofs.Common.{map, string_bytes, subst}
use Rattle.markring.specs.Told.{text_lines}
use Rattle.markring.proofs.Texts.{Written, next_text, one_less}
use Rattle.markring.proofs.running.print_texts.Goals as goal

pub loop-text-preserved : goal.loop-text-preserved
loop-text-preserved g c =
    let contents = g.W.Write.contents in
    let all = text_lines (map string_bytes c.args.texts.now) in
    next_text
    (subst (Written (contents c.args.out.now) (contents c.loop-text.out) all)
    (one_less string_bytes c.args.texts.now c.loop-text.text-index c.text-item.result
    c.loop-text-test.true c.text-item.is) c.loop-text.invariant)
    c.in_ok-writeln.ensures.bytes
