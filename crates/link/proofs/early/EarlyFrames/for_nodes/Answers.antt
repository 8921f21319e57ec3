use Rattle.std.proofs.Common.{◌∷◌, ◌++◌, ◌∙◌, List, [], Option, ap, ℕ, replicate, arith}
use Rattle.std.proofs.lemmas.List.{replicate_more}
use Rattle.msg.specs.declared.frame.Data.{Data}
use Rattle.link.specs.Early.{no_early}
use Rattle.link.proofs.early.EarlyFrames.for_nodes.Goals as goal

pub loop-node-preserved : goal.loop-node-preserved
loop-node-preserved c =
    c.in_ok-push.ensures.items
    ∙ ap (λ (es : List (List (Option Data))). es ++ c.in_ok-new.field-0 ∷ [])
    c.loop-node.invariant
    ∙ ap (λ (e : List (Option Data)). replicate c.loop-node._node no_early ++ e ∷ [])
    c.in_ok-new.ensures.made
    ∙ replicate_more c.loop-node._node no_early

pub returns-clause-made : goal.returns-clause-made
returns-clause-made c =
    c.loop-node.invariant ∙ ap (λ (n : ℕ). replicate n no_early) (omega arith)
