-- Registers that are written a few at once.
use Rattle.std.proofs.Common.{◌≡◌, ℕ, true, List, [], ◌∷◌, length, replicate, Option, Some, None, refl, sym, ap, ◌∙◌, subst}
use Rattle.std.specs.Prelude.{is_none}
use Rattle.std.specs.List.{flat_map, list_all, AllByRecursion}
use Rattle.std.proofs.lemmas.List.Concat.{flat_map-cons}
use Rattle.ids.specs.declared.names.Ref.{Ref}
use Rattle.codec.specs.declared.writer.Writer.{Writer}
use Rattle.codec.proofs.Writing.{so}
use Rattle.codec.specs.Writing.{Writes, PutsAll}
use Rattle.std.specs.Prelude.{⊤}
use Rattle.frames.specs.Formats.{optional}
use Rattle.frames.specs.declared.version.Version.TheVariants.{Second}

-- each empty register is spelled as one byte
empty_spelled : (xs : List (Option Ref)) → list_all is_none xs ≡ true
    → (flat_map (optional Second).spell xs ≡ replicate (length xs) 0)
    × AllByRecursion (optional Second).IsWide xs
unfolding optional
empty_spelled [] all = (refl, tt)
empty_spelled (None ∷ xs) all =
    let others = empty_spelled xs all in (
      flat_map-cons (optional Second).spell None xs ∙ ap (λ (t : List ℕ). 0 ∷ t) others.0,
      (tt, others.1),
    )
empty_spelled (Some r ∷ xs) all = absurd cc

-- that many zeros spell these registers, if all are empty
pub empty_written : (n : ℕ) (xs : List (Option Ref)) (a b : Writer) → length xs ≡ n
    → list_all is_none xs ≡ true → Writes a b (replicate n 0) ⊤ → PutsAll (optional Second) a b xs
empty_written n xs a b count all wrote =
    let empty = empty_spelled xs all in
    let text : replicate n 0 ≡ flat_map (optional Second).spell xs =
    sym (empty.0 ∙ ap (λ (m : ℕ). replicate m 0) count) in
    subst (λ (t : List ℕ). Writes a b t (AllByRecursion (optional Second).IsWide xs)) text
    (so (λ _. empty.1) wrote)
