-- Images that a log follows say what they would say without one.
use Rattle.std.proofs.Common.{◌≡◌, ℕ, ◌-◌, List, [], ◌∷◌, length, Option, Some, None, refl, ap}
use Rattle.std.proofs.Common.{true, ◌==◌, ◌∙◌, ⊎_elim, sym}
use Rattle.std.specs.Prelude.{if◌then◌else◌}
use Rattle.std.proofs.lemmas.Bool.{and_parts, eqb-true, false≢true, or_cases}
use Rattle.codec.specs.Formats.{behind, whole_at, ◌>>=◌}
use Rattle.image_parts.specs.Grammar.{Stored, behind_format, image_format, start_format, rest_format}
use Rattle.image_parts.specs.Grammar.{Start, is_start, layout_format, layouts}
use Rattle.image_parts.specs.Layouts.{says_wide}
use Rattle.image_parts.specs.declared.layout.Layout.{Layout}
use Rattle.image_parts.specs.Logs.{begins_logged, logged_at, unlogged}
use Rattle.image_parts.proofs.Readings.{read}

-- the start, and behind it the rest
read_start : (number : ℕ) (rest : List ℕ)
    → image_format.read (0x4D ∷ 0x52 ∷ number ∷ rest) ≡ (behind_format number).read rest
unfolding image_format start_format layout_format behind_format
read_start number rest = by (behind layouts number rest)
  where
    both : Layout × List ℕ → Option ((Layout × Stored) × List ℕ)
    both l = (rest_format l.0).read l.1 >>= λ s. Some ((l.0, s.0), s.1)

    second : Layout × List ℕ → Option ((ℕ × Layout) × List ℕ)
    second l = Some ((0x52, l.0), l.1)

    first : (ℕ × Layout) × List ℕ → Option (Start × List ℕ)
    first x = Some ((0x4D, x.0), x.1)

    tested : Start × List ℕ → Option (Start × List ℕ)
    tested x = if is_start x.0 then Some x else None

    layout_in : Start × List ℕ → Option (Layout × List ℕ)
    layout_in x = Some (x.0.1.1, x.1)

    by : (found : Option (Layout × List ℕ))
        → (((((found >>= second) >>= first) >>= tested) >>= layout_in) >>= both)
        ≡ (found >>= both)
    by None = refl
    by (Some l) = refl

read_behind : (number : ℕ) (rest : List ℕ)
    → read (0x4D ∷ 0x52 ∷ number ∷ rest) ≡ whole_at (behind_format number).read rest
unfolding whole_at
read_behind number rest =
    ap (λ (found : Option ((Layout × Stored) × List ℕ)).
    found >>= λ x. if length x.1 == 0 then Some x.0 else None) (read_start number rest)

-- the number says of which kind the space is, with a log and without
pub unlogged_wide : (bytes : List ℕ) → begins_logged bytes ≡ true
    → says_wide (unlogged bytes) ≡ says_wide bytes
unlogged_wide [] is = absurd (false≢true is)
unlogged_wide (a ∷ []) is = absurd (false≢true is)
unlogged_wide (a ∷ b ∷ []) is = absurd (false≢true is)
unlogged_wide (a ∷ b ∷ v ∷ rest) is =
    ⊎_elim
    (λ (three : (v == 3) ≡ true).
    ap (λ n. says_wide (a ∷ b ∷ (n - 1) ∷ rest)) (eqb-true v 3 three)
    ∙ sym (ap (λ n. says_wide (a ∷ b ∷ n ∷ rest)) (eqb-true v 3 three)))
    (λ (five : (v == 5) ≡ true).
    ap (λ n. says_wide (a ∷ b ∷ (n - 1) ∷ rest)) (eqb-true v 5 five)
    ∙ sym (ap (λ n. says_wide (a ∷ b ∷ n ∷ rest)) (eqb-true v 5 five)))
    (or_cases _ _ (and_parts _ _ (and_parts _ _ is).1).1)

-- what an image says that a log follows, it says without the log too
pub read_unlogged : (bytes : List ℕ) → begins_logged bytes ≡ true
    → read (unlogged bytes) ≡ logged_at bytes
unfolding logged_at
read_unlogged [] is = absurd (false≢true is)
read_unlogged (a ∷ []) is = absurd (false≢true is)
read_unlogged (a ∷ b ∷ []) is = absurd (false≢true is)
read_unlogged (a ∷ b ∷ v ∷ rest) is =
    let p = and_parts _ _ is in
    let q = and_parts _ _ p.1 in
    rw is (rw (eqb-true a 0x4D p.0, eqb-true b 0x52 q.0) (read_behind (v - 1) rest))
