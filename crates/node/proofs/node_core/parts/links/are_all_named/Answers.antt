use Rattle.std.proofs.Common.{◌∙◌, refl}
use Rattle.node.specs.Parts.{is_any_named, is_named}
use Rattle.node.proofs.Listed.{all_filled}
use Rattle.node.proofs.node_core.parts.links.are_all_named.Goals as goal

pub returns : goal.returns
returns c =
    c.are_any_named.ensures
    ∙ all_filled (is_named c.args.shape) (is_any_named c.args.shape) refl (λ r. refl)
    c.args.references.now
