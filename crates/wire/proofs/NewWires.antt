-- The nodes of a shape as they are made, and the world whose states they have.
use Rattle.std.proofs.Common.{◌≡◌, ◌<◌, ℕ, zero, suc, List, [], ◌∷◌, length, get_or, Some, refl, sym, ap, arith, slice_get}
use Rattle.std.proofs.lemmas.List.FromFn.{get_or-map-range_with_len, length-map-range_with_len}
use Rattle.ids.specs.Limits.{Shaped}
use Rattle.model.specs.State.{new_node, no_node, node_at}
use Rattle.model.specs.View.{new_view}
use Rattle.model.specs.World.{new_world}
use Rattle.model.proofs.NewNodes.{new-counted, new-shown}
use Rattle.wire.specs.Readers.{IsSavedAs}

pub new-saved : (shape : Shaped) (own : ℕ) → IsSavedAs (new_view shape own) (new_node shape own)
new-saved shape own =
    record { shows = new-shown shape own; released = new-counted shape own; acks = refl }

pub new-width : (shape : Shaped) → length (new_world shape).current ≡ shape.nodes
new-width shape = length-map-range_with_len (new_node shape) 0 shape.nodes

pub new-at : (shape : Shaped) (k : ℕ) → k < shape.nodes
    → node_at (new_world shape).current k ≡ new_node shape k
new-at shape k inside =
    get_or-map-range_with_len (new_node shape) 0 shape.nodes k k no_node inside (omega arith)

-- ---- An element of a row

pub there : {A : Type 0} (xs : List A) (k : ℕ) (x : A) → k < length xs → x ≡ get_or xs k x
    → slice_get xs k ≡ Some x
there [] k x below is = absurd (omega arith)
there (y ∷ ys) zero x below is = ap Some (sym is)
there (y ∷ ys) (suc k) x below is = there ys k x (omega arith) is
