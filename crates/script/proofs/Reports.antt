-- The lines of a report, one after another.
use Rattle.std.proofs.Common.{◌≡◌, ◌∙◌, ℕ, ◌+◌, ◌<◌, List, [], ◌∷◌, ◌++◌, length, get_or, take, Option, sym, ap, subst, arith, append_assoc, append-nil}
use Rattle.std.specs.Io.KnownBytes.{Appends}
use Rattle.std.proofs.KnownBytes.{Appends-trans}
use Rattle.std.proofs.lemmas.List.{length-take, take_more}
use Rattle.script.specs.Text.{cycle_line, cycle_lines}

-- one more
cycle_lines-push : (n : ℕ) (sums : List ℕ) (freed : ℕ)
    → cycle_lines n (sums ++ freed ∷ []) ≡ cycle_lines n sums ++ cycle_line (n + length sums) freed
cycle_lines-push n [] freed = append-nil _ ∙ ap (λ k. cycle_line k freed) (omega arith)
cycle_lines-push n (x ∷ sums) freed =
    let place : n + 1 + length sums ≡ n + length (x ∷ sums) = omega arith in
    ap (λ bs. cycle_line n x ++ bs)
    (cycle_lines-push (n + 1) sums freed
    ∙ ap (λ k. cycle_lines (n + 1) sums ++ cycle_line k freed) place)
    ∙ sym (append_assoc (cycle_line n x) (cycle_lines (n + 1) sums) _)

-- the line of a cycle follows the lines of the cycles before it
pub next_line : (start mid new : Option (List ℕ)) (sums : List ℕ) (place : ℕ)
    → place < length sums → Appends start mid (cycle_lines 1 (take place sums))
    → Appends mid new (cycle_line (place + 1) (get_or sums place 0))
    → Appends start new (cycle_lines 1 (take (place + 1) sums))
next_line start mid new sums place there before line =
    let count : 1 + length (take place sums) ≡ place + 1 = omega (arith, length-take place sums) in
    let more : cycle_lines 1 (take place sums) ++ cycle_line (place + 1) (get_or sums place 0)
    ≡ cycle_lines 1 (take (place + 1) sums) =
    ap (λ k. cycle_lines 1 (take place sums) ++ cycle_line k (get_or sums place 0)) (sym count)
    ∙ sym (cycle_lines-push 1 (take place sums) (get_or sums place 0))
    ∙ ap (cycle_lines 1) (sym (take_more sums place 0 there)) in
    subst (Appends start new) more
    (Appends-trans start mid new (cycle_lines 1 (take place sums))
    (cycle_line (place + 1) (get_or sums place 0)) before line)
