use Rattle.std.proofs.Common.{◌≡◌, Bool, true, false, ap, sym, ◌∙◌}
use Rattle.cell.proofs.Bytes.{letter-open}
use Rattle.cell.proofs.cell.Cell.letter_part.Goals as goal

pub returns-clause-closed : goal.returns-clause-closed
returns-clause-closed g c =
    let p = c.node.result.now.core.local in (
      λ closed. absurd (letter-open p.heap c.args.count
          c.letter_part.result c.letter_part.ensures.refused closed),
      λ shut. (let never : ◌≡◌ {A = Bool} true false =
          sym c.if-not-is_ready.false ∙ c.is_ready.ensures.ready
          ∙ ap (λ v. v.is_open) c.self.view_is ∙ shut in absurd cc),
    )
