use Rattle.std.proofs.Common.{drop, map, string_bytes}
use Rattle.markring.specs.Told.{text_lines}
use Rattle.markring.proofs.Texts.{Written}
use Rattle.markring.proofs.running.print_texts.Given as goal

abbrev pub invariant-loop-text : goal.invariant-loop-text
invariant-loop-text g l =
    Written (g.W.Write.contents l.initial.out) (g.W.Write.contents l.out)
    (text_lines (map string_bytes l.texts)) (map string_bytes (drop l.text-index l.texts))
