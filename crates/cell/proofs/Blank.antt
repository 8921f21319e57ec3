-- Cells that are opened on blank disks begin in the world of new nodes.
use Rattle.std.proofs.Common.{◌≡◌, ◌+◌, ℕ, zero, suc, List, [], ◌∷◌, Some, length, map, replicate, slice_get, refl, ap, ◌∙◌, arith}
use Rattle.std.specs.List.{range_with_len}
use Rattle.ids.specs.Limits.{Shaped}
use Rattle.model.specs.State.{NodeState, new_node}
use Rattle.model.specs.View.{new_view, no_link}
use Rattle.node.specs.Keeping.{WholeNode}
use Rattle.cell.specs.Laws.{BlankIsNew}
use Rattle.cell.specs.Opened.{cores, sent_of, state_of}

map-replicated : {A B : Type 0} (f : A → B) (n : ℕ) (x : A)
    → map f (replicate n x) ≡ replicate n (f x)
map-replicated f zero x = refl
map-replicated f (suc n) x = ap (λ l. f x ∷ l) (map-replicated f n x)

new-state : (shape : Shaped) (own : ℕ) → state_of (new_view shape own) ≡ new_node shape own
new-state shape own =
    ap (λ l. record (new_node shape own) { sent = l }) (map-replicated sent_of shape.nodes no_link)

-- the nodes from this number on
new-states : (shape : Shaped) (first : ℕ) (nodes : List WholeNode)
    → ((k : ℕ) (n : WholeNode) → slice_get nodes k ≡ Some n → n.core ≡ new_view shape (first + k))
    → map state_of (cores nodes) ≡ map (new_node shape) (range_with_len first (length nodes))
new-states shape first [] new = refl
new-states shape first (n ∷ ns) new =
    let same : n.core ≡ new_view shape first =
    new zero n refl ∙ ap (new_view shape) (omega arith) in
    (λ i. (ap state_of same ∙ new-state shape first) i
    ∷ new-states shape (first + 1) ns (λ k m there.
    new (suc k) m there ∙ ap (new_view shape) (omega arith)) i)

pub blank-new : BlankIsNew
blank-new shape nodes count blank =
    let each : (k : ℕ) (n : WholeNode) → slice_get nodes k ≡ Some n
    → n.core ≡ new_view shape (0 + k) =
    λ k n there.
    (let from = blank k n there in
    ap (λ (m : WholeNode). m.core) (from.2.blank from.1)
    ∙ ap (new_view shape) (omega arith)) in
    ap (λ (l : List NodeState). record { current = l; saved = l })
    (new-states shape 0 nodes each
    ∙ ap (λ (n : ℕ). map (new_node shape) (range_with_len 0 n)) count)
