-- Bytes that are read are those that were written, and vice versa.
use Rattle.std.proofs.Common.{◌≡◌, ℕ, ◌≤◌, false, ltb, List, ◌++◌, length, take, drop, Some, refl}
use Rattle.std.proofs.Common.{sym, subst, arith}
use Rattle.std.proofs.lemmas.Bool.{ltb-false, le-ltb}
use Rattle.std.proofs.lemmas.List.{drop_at, take_at, take-append-drop, length-append, length-take}
use Rattle.codec.specs.Formats.{Fits, number4, run, run_at, joined, bytes4}
use Rattle.codec.specs.Reading.{IsBytes, Took, IsSound}
use Rattle.codec.proofs.Laws.{mapped_sound, joined_sound}
use Rattle.codec.proofs.Numbers.{IsBytes-drop, none_else, number4_sound}

run_takes : (n : ℕ) (bytes : List ℕ) (x : List ℕ × List ℕ) → IsBytes bytes
    → run_at n bytes ≡ Some x → Took (run n) bytes x
run_takes n bytes x are e =
    let made : List ℕ × List ℕ = (take n bytes, drop n bytes) in
    let g = none_else (ltb (length bytes) n) made x e in
    let long : n ≤ length bytes = ltb-false _ _ g.0 in
    subst (Took (run n) bytes) {x = made} g.1 (record {
      parts = sym (take-append-drop n bytes);
      rest = IsBytes-drop n bytes are;
      fits = record { wide = tt; within = omega (arith, length-take n bytes, long) };
    })

run_again : (n : ℕ) (bytes rest : List ℕ) → Fits (run n) bytes
    → run_at n (bytes ++ rest) ≡ Some (bytes, rest)
run_again n bytes rest fits =
    let count = fits.within in
    let long : ltb (length (bytes ++ rest)) n ≡ false =
    le-ltb _ _ (omega (arith, length-append bytes rest, count)) in
    rw (long, drop_at bytes rest n count, take_at bytes rest n count) refl

pub run_sound : (n : ℕ) → IsSound (run n)
run_sound n = record { takes = run_takes n; again = run_again n }

pub bytes4_sound : IsSound bytes4
unfolding bytes4
bytes4_sound =
    mapped_sound (joined number4 run) (λ x. x.1) (λ bytes. (length bytes, bytes))
    (joined_sound number4 run number4_sound run_sound)
    (λ x fits. subst (λ (n : ℕ). ◌≡◌ {A = ℕ × List ℕ} (n, x.1) x) (sym fits.within.1) refl)
    (λ bytes. refl)
