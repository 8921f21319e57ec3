use Rattle.std.proofs.Common.{◌≡◌, Bool, true, false, ap, sym, ◌∙◌}
use Rattle.cell.proofs.Bytes.{open-never-closed}
use Rattle.cell.proofs.cell.Cell.bytes.Goals as goal

pub returns-clause-closed : goal.returns-clause-closed
returns-clause-closed g c =
    let p = c.node.result.now.core.local in (
      λ closed. absurd (open-never-closed p.own p.heap c.args.object c.args.offset c.args.count
          c.bytes.result c.bytes.ensures.refused closed),
      λ shut. (let never : ◌≡◌ {A = Bool} true false =
          sym c.if-not-is_ready.false ∙ c.is_ready.ensures.ready
          ∙ ap (λ v. v.is_open) c.self.view_is ∙ shut in absurd cc),
    )
