-- Elements of a list.
use Rattle.std.proofs.Common.{suc, List, ◌∷◌, refl, arith}
use Rattle.std.specs.List.{Contains}

pub contains-head : {X : Type 0} (x : X) (xs : List X) → Contains (x ∷ xs) x
contains-head x xs = (0, omega arith, refl)

pub contains-more : {X : Type 0} (x y : X) (xs : List X) → Contains xs y → Contains (x ∷ xs) y
contains-more x y xs h =
    let inside = h.1 in
    (suc h.0, omega (arith, inside), h.2)
