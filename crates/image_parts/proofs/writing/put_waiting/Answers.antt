use Rattle.std.proofs.Common.{◌≡◌, [], sym, ◌∙◌}
use Rattle.std.proofs.lemmas.Bool.{eqb-true}
use Rattle.std.proofs.lemmas.List.{nil_from_length}
use Rattle.image_parts.proofs.writing.put_waiting.Goals as goal

pub returns-then-letters-eq0 : goal.returns-then-letters-eq0
returns-then-letters-eq0 c =
    let letters : c.args.heap.now.heap.letters ≡ [] =
    nil_from_length c.args.heap.now.heap.letters (sym c.letters.ensures ∙ c.if-letters-eq0.true) in
    let asked : c.args.asked.now ≡ [] =
    nil_from_length c.args.asked.now (eqb-true _ 0 (sym c.is_empty.ensures ∙ c.if-is_empty.true)) in
    rw (asked, letters) (c.put_none_waiting.ensures c.args.wide)
