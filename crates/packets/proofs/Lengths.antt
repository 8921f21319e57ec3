-- The length of a frame in a packet.
use Rattle.std.proofs.Common.{◌≡◌, ◌≢◌, ℕ, ◌+◌, ◌≤◌, ◌<◌, ◌^◌, Bool, true, false, cond, eqb}
use Rattle.std.proofs.Common.{List, length, Option, Some, None, refl, sym, ap, ◌∙◌, subst, arith, inl, inr}
use Rattle.std.specs.Prelude.{nat_le, min, ◌==◌}
use Rattle.std.proofs.Math.Nat.{min-eq_left, min-eq_right}
use Rattle.std.proofs.lemmas.Bool.{cases_lt, eqb-true, eqb-false, leb-true, ne_eqb, false≢true}
use Rattle.std.proofs.lemmas.List.{length-append}
use Rattle.std.proofs.lemmas.Option.{same_Some}
use Rattle.codec.specs.Formats.{Fits, number2, number4, kept}
use Rattle.codec.specs.Reading.{IsBytes, IsSound, Took}
use Rattle.codec.proofs.Laws.{joined_sound, kept_sound, mapped_sound}
use Rattle.codec.proofs.Numbers.{number2_sound, number4_sound}
use Rattle.packets.specs.declared.frames.TheConstants.{LONG}
use Rattle.codec.specs.Readers.{open_of, with_rest}
use Rattle.packets.specs.Formats.{behind_short, given, length_format}
use Rattle.packets.specs.Laying.{HasNoFrame, IsFramed}

given_takes : (n : ℕ) (bytes : List ℕ) (x : ℕ × List ℕ) → IsBytes bytes
    → (given n).read bytes ≡ Some x → Took (given n) bytes x
given_takes n bytes x are e =
    let same : ◌≡◌ {A = ℕ × List ℕ} (n, bytes) x = cc in
    subst (Took (given n) bytes) {x = (n, bytes)} same
    (record { parts = refl; rest = are; fits = record { wide = tt; within = refl } })

given_sound : (n : ℕ) → IsSound (given n)
given_sound n = record {
  takes = given_takes n;
  again = λ m rest fits. ap (λ (k : ℕ). Some (k, rest)) (sym fits.within);
}

behind_sound : (n : ℕ) → IsSound (behind_short n)
behind_sound n = by (n == LONG) where
  by : (b : Bool) → IsSound (cond b (kept number4 (nat_le LONG)) (given n))
  by true = kept_sound number4 (nat_le LONG) number4_sound
  by false = given_sound n

-- what the two bytes say
short_of : (s n : ℕ) → s < 2 ^ 16 → Fits (behind_short s) n → min n LONG ≡ s
short_of s n wide = by (s == LONG) refl where
  by : (b : Bool) → (s == LONG) ≡ b → Fits (cond b (kept number4 (nat_le LONG)) (given s)) n
      → min n LONG ≡ s
  by true is fits = min-eq_right (leb-true _ _ fits.within.1) ∙ sym (eqb-true _ _ is)
  by false is fits =
      let other : s ≢ LONG = eqb-false _ _ is in
      let same : n ≡ s = fits.within in
      min-eq_left (omega (arith, same, wide, other)) ∙ same

pub length_sound : IsSound length_format
unfolding length_format number2
length_sound =
    mapped_sound _ _ _ (joined_sound number2 behind_short number2_sound behind_sound)
    (λ a fits.
    ap (λ (s : ℕ). (s, a.1))
    (short_of a.0 a.1 fits.wide.0 (record { wide = fits.wide.1; within = fits.within.1 })))
    (λ n. refl)

-- how many bytes are behind it
pub behind_length : (bytes : List ℕ) (n : ℕ) (rest : List ℕ) → IsBytes bytes
    → length_format.read bytes ≡ Some (n, rest)
    → length (length_format.spell n) + length rest ≡ length bytes
behind_length bytes n rest are e =
    let took = length_sound.takes bytes (n, rest) are e in
    sym (ap length took.parts ∙ length-append (length_format.spell n) rest)

-- how many bytes it has
pub short_size : (n : ℕ) → n < LONG → 2 ≡ length (length_format.spell n)
unfolding length_format number2
short_size n lt =
    let small : min n LONG ≡ n = min-eq_left (omega arith) in
    let other : eqb n LONG ≡ false = ne_eqb n LONG (λ e. omega (arith, e, lt)) in
    rw (small, other) refl

pub long_size : (n : ℕ) → LONG ≤ n → 6 ≡ length (length_format.spell n)
unfolding length_format number2 number4
long_size n le =
    let great : min n LONG ≡ LONG = min-eq_right le in
    rw great refl

some_size : (n : ℕ) → 2 ≤ length (length_format.spell n)
some_size n =
    elim (cases_lt n LONG) [
      | inl lt ↦ omega (arith, short_size n lt)
      | inr le ↦ omega (arith, long_size n le)
    ]

-- ---- what was found

-- the same length, and the same behind it
same_told : (bytes : List ℕ) (n size : ℕ) (rest r : List ℕ)
    → length_format.read bytes ≡ Some (n, rest) → length_format.read bytes ≡ Some (size, r)
    → (n ≡ size) × (rest ≡ r)
same_told bytes n size rest r told e =
    let same : ◌≡◌ {A = ℕ × List ℕ} (n, rest) (size, r) =
    same_Some (n, rest) (size, r) (sym told ∙ e) in
    (ap (λ (x : ℕ × List ℕ). x.0) same, ap (λ (x : ℕ × List ℕ). x.1) same)

module _ (bytes : List ℕ) (size : ℕ) (are : IsBytes bytes) where
  pub closed : (o : Option (List ℕ)) → length_format.read bytes ≡ with_rest size o
      → open_of o ≡ false → HasNoFrame bytes
  closed None e is n rest told = absurd cc
  closed (Some r) e is n rest told = absurd cc

  pub too_few : (o : Option (List ℕ)) → length_format.read bytes ≡ with_rest size o
      → length bytes < length (length_format.spell size) + size → HasNoFrame bytes
  too_few None e few n rest told = absurd cc
  too_few (Some r) e few n rest told =
      let same = same_told bytes n size rest r told e in
      let all = behind_length bytes size r are e in
      rw (same.0, same.1) (omega (arith, all, few))

  pub found : (o : Option (List ℕ)) → length_format.read bytes ≡ with_rest size o
      → open_of o ≡ true → length (length_format.spell size) + size ≤ length bytes
      → IsFramed bytes (length (length_format.spell size))
      (length (length_format.spell size) + size)
  found None e is enough = absurd (false≢true is)
  found (Some r) e is enough = record {
    rest = r;
    told = e ∙ ap (λ (n : ℕ). Some (n, r)) (omega arith);
    behind = behind_length bytes size r are e;
    first = some_size size;
    ordered = omega arith;
    within = enough;
  }
