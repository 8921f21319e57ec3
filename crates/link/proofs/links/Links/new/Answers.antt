use Rattle.std.proofs.Common.{◌∷◌, ◌++◌, ◌∙◌, List, [], replicate, sym, ap, subst, arith}
use Rattle.std.proofs.lemmas.List.{replicate_more}
use Rattle.link.specs.Links.{IsLinks, new_links}
use Rattle.link.specs.declared.links.Ends.{Ends}
use Rattle.link.specs.Ends.{new_ends, view_of}
use Rattle.link.proofs.Ends.{ends_new}
use Rattle.link.proofs.EveryLink.{links-new}
use Rattle.link.proofs.links.Links.new.Goals as goal

pub loop-node-preserved : goal.loop-node-preserved
loop-node-preserved c =
    c.in_ok-push.ensures.items
    ∙ ap (λ (es : List Ends). es ++ c.new.result ∷ []) c.loop-node.invariant
    ∙ ap (λ (e : Ends). replicate c.loop-node._node new_ends ++ e ∷ []) c.new.ensures
    ∙ replicate_more c.loop-node._node new_ends

pub invariant_of-result : goal.invariant_of-result
invariant_of-result c =
    let made = ap view_of c.loop-node.invariant ∙ ends_new c.loop-node._node in
    subst IsLinks (sym made) (links-new c.loop-node._node (omega arith))

pub returns-clause-made : goal.returns-clause-made
returns-clause-made c =
    let made = ap view_of c.loop-node.invariant ∙ ends_new c.loop-node._node in
    made ∙ ap new_links (omega arith)
