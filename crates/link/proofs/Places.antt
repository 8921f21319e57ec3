-- Reads and writes of a place that may be past the end.
use Rattle.std.proofs.Common.{◌≡◌, ℕ, zero, suc, ◌+◌, ◌-◌, ◌<◌, List, [], ◌∷◌, ◌++◌, length, drop, replicate, Option, Some, None, get_or, set, slice_get, refl, ap, ◌∙◌, arith}
use Rattle.std.proofs.lemmas.List.{length-append, length-replicate, replicate_more}
use Rattle.std.specs.Prelude.{true, is_none}
use Rattle.std.specs.List.{list_all}
use Rattle.circular_buffer.specs.Buffer.{keep_last}
use Rattle.msg.specs.declared.frame.Data.{Data}

pub read_there : (xs : List (Option Data)) (i : ℕ) (o : Option Data) → slice_get xs i ≡ Some o
    → o ≡ get_or xs i None
read_there [] i o is = absurd cc
read_there (x ∷ xs) zero o is = cc
read_there (x ∷ xs) (suc i) o is = read_there xs i o is

pub read_past : (xs : List (Option Data)) (i : ℕ) → slice_get xs i ≡ None → get_or xs i None ≡ None
read_past [] i past = refl
read_past (x ∷ xs) zero past = absurd cc
read_past (x ∷ xs) (suc i) past = read_past xs i past

pub set_none : (xs : List (Option Data)) (i : ℕ) (x : Option Data) → slice_get xs i ≡ None
    → set xs i x ≡ xs
set_none [] i x none = refl
set_none (y ∷ xs) zero x none = absurd cc
set_none (y ∷ xs) (suc i) x none = ap (λ (z : List (Option Data)). y ∷ z) (set_none xs i x none)

-- what has no frame anywhere
pub all-none : (xs : List (Option Data)) → list_all is_none xs ≡ true
    → xs ≡ replicate (length xs) None
all-none [] all = refl
all-none (None ∷ xs) all = ap (λ (z : List (Option Data)). None ∷ z) (all-none xs all)
all-none (Some d ∷ xs) all = absurd cc

-- a place is pushed while there is room
pub pushed : (n k : ℕ) (xs : List (Option Data)) → xs ≡ replicate k None → k < n
    → keep_last n (xs ++ None ∷ []) ≡ replicate (k + 1) None
pushed n k xs is room =
    let more = xs ++ None ∷ [] in
    let long : length xs ≡ k = ap (λ (l : List (Option Data)). length l) is
    ∙ length-replicate k None in
    let all : length more - n ≡ 0 = omega (arith, long, room, length-append xs (None ∷ [])) in
    ap (λ (m : ℕ). drop m more) all
    ∙ ap (λ (l : List (Option Data)). l ++ None ∷ []) is
    ∙ replicate_more k None
