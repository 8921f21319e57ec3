-- A program that holds nothing.
use Rattle.std.proofs.Common.{◌≡◌, ◌++◌, ◌∙◌, true, is_none, List, [], ◌∷◌, length, map, Option, None, Some, refl, ap, arith}
use Rattle.std.proofs.lemmas.List.{append-nil}
use Rattle.std.specs.List.{list_all}
use Rattle.ids.specs.declared.names.Ref.{Ref}
use Rattle.model.specs.Shading.{filled, reference_of, roots}
use Rattle.model.specs.State.{Heap}
use Rattle.model.specs.declared.event.Letter.{Letter}

none-filled : (os : List (Option Ref)) → list_all is_none os ≡ true → filled os ≡ []
none-filled [] none = refl
none-filled (None ∷ os) none = none-filled os none
none-filled (Some r ∷ os) none = absurd cc

pub nothing_held : (h : Heap) → length h.letters ≡ 0 → list_all is_none h.registers ≡ true
    → filled (roots h) ≡ []
nothing_held h no_letters none = by h.letters no_letters
  where
    by : (ls : List Letter) → length ls ≡ 0 → filled (h.registers ++ map reference_of ls) ≡ []
    by [] empty = ap filled (append-nil h.registers) ∙ none-filled h.registers none
    by (l ∷ ls) empty = absurd (omega (arith, empty))
