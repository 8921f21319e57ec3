-- Nodes on their shelves, one after another.
use Rattle.std.proofs.Common.{◌≡◌, ◌<◌, ◌+◌, ℕ, List, Some, length, drop, get_or, slice_get, ap, ◌∙◌, sym, subst, arith}
use Rattle.std.proofs.lemmas.List.{get_or-drop}
use Rattle.std.proofs.lemmas.Option.{slice_get_within, get_or_from_slice_get}
use Rattle.ids.specs.Limits.{Shaped}
use Rattle.model.specs.View.{kept_view}
use Rattle.node.specs.Keeping.{WholeNode}
use Rattle.cell.specs.Opened.{AreFound}
use Rattle.wire.proofs.Places.{some_at}

-- what holds of everything on a shelf holds of each node
pub found-kept : {S : Type 0} {Lies : WholeNode → S → Type 0} {shape : Shaped}
    {nodes : List WholeNode} {shelves : List S}
    → ((n : WholeNode) (s : S) → Lies n s → kept_view n.core ≡ n.core)
    → AreFound Lies shape nodes shelves
    → (k : ℕ) (n : WholeNode) → slice_get nodes k ≡ Some n → kept_view n.core ≡ n.core
found-kept {nodes = nodes} {shelves = shelves} kept h k n there =
    let inside : k < length shelves = omega (arith, h.same, slice_get_within nodes k n there) in
    let shelf = some_at shelves k inside in
    kept n shelf.0 (h.each k n shelf.0 there shelf.1).1

-- the first element of the rest of a list, by its place in the whole list
pub first-there : {X : Type 0} (xs : List X) (number : ℕ) (x : X) → number < length xs
    → x ≡ get_or (drop number xs) 0 x → slice_get xs number ≡ Some x
first-there xs number x inside first =
    let found = some_at xs number inside in
    let at : number + 0 ≡ number = omega arith in
    let same : x ≡ found.0 =
    first ∙ get_or-drop number xs 0 x ∙ ap (λ (i : ℕ). get_or xs i x) at
    ∙ get_or_from_slice_get xs number found.0 x found.1 in
    subst (λ z. slice_get xs number ≡ Some z) (sym same) found.1
