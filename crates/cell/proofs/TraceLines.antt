-- One line more at the end of those already formatted.
use Rattle.std.proofs.Common.{◌≡◌, ℕ, suc, ◌+◌, List, [], ◌∷◌, ◌++◌, length, map, take, slice_get, Some, None, ◌<◌, ap, ◌∙◌, sym, arith}
use Rattle.std.proofs.Math.Seq.{take-suc}
use Rattle.std.proofs.lemmas.List.{map-append}
use Rattle.std.proofs.lemmas.Option.{get_or_from_slice_get, slice_get_within}
use Rattle.circular_buffer.proofs.Places.{slice_get-some}
use Rattle.cell.specs.declared.trace.TraceLine.{TraceLine}
use Rattle.cell.specs.Lines.{line_text}

pub next_line : (lines : List TraceLine) (k : ℕ) (l : TraceLine) → slice_get lines k ≡ Some l
    → map line_text (take (k + 1) lines) ≡ map line_text (take k lines) ++ line_text l ∷ []
next_line lines k l there =
    let grown = take-suc lines k l (slice_get_within lines k l there) in
    let one : suc k ≡ k + 1 = search (arith) in
    ap (λ n. map line_text (take n lines)) (sym one)
    ∙ ap (map line_text) grown
    ∙ map-append line_text (take k lines) _
    ∙ ap (λ z. map line_text (take k lines) ++ line_text z ∷ [])
    (get_or_from_slice_get lines k l l there)

-- there is a line at every place that is read
pub never_past : (lines : List TraceLine) (k : ℕ) → k < length lines → slice_get lines k ≡ None → ⊥
never_past lines k below past =
    let there = slice_get-some lines k below in
    let both = sym past ∙ there.1 in
    absurd cc
