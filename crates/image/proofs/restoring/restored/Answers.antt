use Rattle.std.proofs.Common.{refl, sym, true≢false, arith}
use Rattle.image_parts.specs.Parts.{stored_of}
use Rattle.image_parts.proofs.Readings.{own_below, links_count}
use Rattle.image.specs.Nodes.{node_of}
use Rattle.image.proofs.Made.{said_refused}
use Rattle.image.proofs.restoring.restored.Goals as goal

pub returns-in_default-clause-refused : goal.returns-in_default-clause-refused
returns-in_default-clause-refused c = λ other.
    (refl, λ is. absurd (true≢false (sym (c.in_default.ensures.within.1 is.node.shape))))

pub returns-in_default-from_parts-clause-refused : goal.returns-in_default-from_parts-clause-refused
returns-in_default-from_parts-clause-refused c = λ other. (
  refl,
  λ is.
      absurd
      (true≢false
      (sym
      (c.in_default-from_parts.ensures.within.1
      (rw c.in_ok-reports.ensures.made is.node.phases.phases)))),
)

pub every_link-requires : goal.every_link-requires
every_link-requires c =
    let image = stored_of c.args.image in
    let l = c.args.layout in
    omega (arith, own_below l image c.requires, links_count l image c.requires)

pub returns-clause-refused : goal.returns-clause-refused
returns-clause-refused c =
    said_refused (node_of c.args.layout (stored_of c.args.image)) c.from_parts-2.result
    c.from_parts-2.ensures.refused
    (rw (
      c.in_ok-links.ensures.sent,
      c.in_ok-links.ensures.taken,
      c.in-Some.ensures.value,
      c.in-Some-from_parts.ensures.value,
      c.in_ok-reports.ensures.made,
    ) refl)
