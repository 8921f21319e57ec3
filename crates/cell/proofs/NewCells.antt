-- The cell of a new node.
use Rattle.std.proofs.Common.{◌≡◌, ℕ, sym, ap, ◌∙◌, subst}
use Rattle.ids.specs.Limits.{Shaped}
use Rattle.model.proofs.NewNodes.{new-kept}
use Rattle.node.specs.Keeping.{WholeNode, alone, new_whole}
use Rattle.image.specs.Wholes.{saved_whole}
use Rattle.disk.specs.Areas.{Areas}
use Rattle.cell.specs.Disks.{OpensToNode}

-- the disk on which the node was created opens to it
pub opens-new : (shape : Shaped) (own : ℕ) (n : WholeNode) (c : Areas) → n ≡ new_whole shape own
    → OpensToNode (saved_whole n) c → OpensToNode n c
opens-new shape own n c is found =
    let kept : saved_whole n ≡ n =
    ap saved_whole is ∙ ap alone (new-kept shape own) ∙ sym is in
    subst (λ (m : WholeNode). OpensToNode m c) kept found
