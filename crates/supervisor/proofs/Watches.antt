-- Watches of a wire, the last of which is given out.
use Rattle.std.proofs.Common.{◌≡◌, ℕ, zero, suc, List, [], ◌∷◌, ◌++◌, length, Option, Some, None, IfSome, slice_get, refl, ap, ◌∙◌}
use Rattle.std.specs.Prelude.{option_to_list}
use Rattle.wire.specs.Readers.{IsWatchOf}
use Rattle.wire.specs.declared.seats.Watch.{Watch}
use Rattle.wire.specs.declared.seats.Wire.{Wire}
use Rattle.supervisor.specs.Opened.{AreWatches}

stays-there : (xs ys : List Watch) (k : ℕ) (x : Watch) → slice_get xs k ≡ Some x
    → slice_get (xs ++ ys) k ≡ Some x
stays-there [] ys k x there = absurd cc
stays-there (y ∷ xs) ys zero x there = there
stays-there (y ∷ xs) ys (suc k) x there = stays-there xs ys k x there

last-there : (xs : List Watch) (x : Watch) → slice_get (xs ++ x ∷ []) (length xs) ≡ Some x
last-there [] x = refl
last-there (y ∷ xs) x = last-there xs x

pub left-of : (wire : Wire) (all left : List Watch) (o : Option Watch) → AreWatches wire all
    → all ≡ left ++ option_to_list o → AreWatches wire left
left-of wire all left o h is k x there =
    h k x (ap (λ (l : List Watch). slice_get l k) is
    ∙ stays-there left (option_to_list o) k x there)

pub handed-of : (wire : Wire) (all left : List Watch) (o : Option Watch) → AreWatches wire all
    → all ≡ left ++ option_to_list o → IfSome o (λ x. IsWatchOf wire x)
handed-of wire all left None h is = tt
handed-of wire all left (Some x) h is =
    h (length left) x (ap (λ (l : List Watch). slice_get l (length left)) is ∙ last-there left x)
