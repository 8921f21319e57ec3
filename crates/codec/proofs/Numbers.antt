-- Numbers that are read are those that were written, and vice versa.
use Rattle.std.proofs.Common.{◌≡◌, ℕ, suc, ◌+◌, ◌^◌, ◌<◌, ◌≤◌, false, true, ltb, List, [], ◌∷◌, ◌++◌}
use Rattle.std.proofs.Common.{length, take, drop, Some, cond, None, Bool, refl, sym, ap, subst, ◌∙◌}
use Rattle.std.proofs.Common.{arith, inl, inr}
use Rattle.std.specs.Prelude.{ℤ}
use Rattle.std.specs.Int.{Width, w16, w32, w64, byte_len, to_be_bytes, cast_signed, cast_unsigned}
use Rattle.std.proofs.Math.Facts.{sfits_to_z, Fits-of_z, Fits-lt-pow}
use Rattle.std.proofs.lemmas.Bool.{cases_lt, ltb-false, le-ltb}
use Rattle.std.proofs.lemmas.Int.{of_z-to_z, to_z-of_z}
use Rattle.std.proofs.lemmas.List.{drop_at, take-append-drop, length-append, length-take}
use Rattle.std.proofs.lemmas.List.{get_or-drop, get_or-take, get_or_past}
use Rattle.std.proofs.lemmas.Nat.{be_bytes_2, be_bytes_4, be_bytes_8}
use Rattle.byteorder.specs.Endian.{big_number}
use Rattle.byteorder.specs.Numbers.{big_from-lt, big_from-take, big_number-reads_back}
use Rattle.codec.specs.Formats.{Fits, byte, byte_at, number, number_at, number2, number4, number8}
use Rattle.codec.specs.Formats.{signed8, made_at}
use Rattle.codec.specs.Reading.{IsBytes, Took, IsSound}
use Rattle.codec.proofs.Laws.{made_takes, made_again}

pub IsBytes-drop : (n : ℕ) (bytes : List ℕ) → IsBytes bytes → IsBytes (drop n bytes)
IsBytes-drop n bytes h i = rw get_or-drop (h (n + i))

pub IsBytes-take : (n : ℕ) (bytes : List ℕ) → IsBytes bytes → IsBytes (take n bytes)
IsBytes-take n bytes h i =
    elim (cases_lt i n) [
      | inl lt ↦ rw (get_or-take n bytes i 0 lt) (h i)
      | inr le ↦
          rw (get_or_past (take n bytes) i 0 (omega (arith, length-take n bytes))) (omega arith)
    ]

-- if a choice between `None` and a value gives a value, the test was false
pub none_else : {A : Type 0} (b : Bool) (x y : A) → cond b None (Some x) ≡ Some y
    → (b ≡ false) × (x ≡ y)
none_else true x y e = absurd cc
none_else false x y e = (refl, cc)

-- ---- bytes

byte_takes : (bytes : List ℕ) (x : ℕ × List ℕ) → IsBytes bytes → byte_at bytes ≡ Some x
    → Took byte bytes x
byte_takes [] x are e = absurd cc
byte_takes (b ∷ bytes) x are e =
    let same : ◌≡◌ {A = ℕ × List ℕ} (b, bytes) x = cc in
    subst (Took byte (b ∷ bytes)) {x = (b, bytes)} same (record {
      parts = refl;
      rest = λ i. are (suc i);
      fits = record { wide = are 0; within = tt };
    })

pub byte_sound : IsSound byte
byte_sound = record { takes = byte_takes; again = λ b rest fits. refl }

-- ---- numbers

record HasWidth (w : Width) : Type 0 where
  back : (bytes : List ℕ) → length bytes ≡ byte_len w → IsBytes bytes
      → to_be_bytes w (big_number (byte_len w) bytes) ≡ bytes
  len : (n : ℕ) → length (to_be_bytes w n) ≡ byte_len w

number_takes : (w : Width) (wide : HasWidth w) (bytes : List ℕ) (x : ℕ × List ℕ) → IsBytes bytes
    → number_at (byte_len w) bytes ≡ Some x → Took (number w) bytes x
number_takes w wide bytes x are e =
    let k = byte_len w in
    let made : ℕ × List ℕ = (big_number k bytes, drop k bytes) in
    let g = none_else (ltb (length bytes) k) made x e in
    let long : k ≤ length bytes = ltb-false _ _ g.0 in
    let same = big_from-take 0 k k bytes (omega arith) in
    let front : to_be_bytes w (big_number k bytes) ≡ take k bytes =
    ap (to_be_bytes w) (sym same)
    ∙ wide.back (take k bytes) (omega (arith, length-take k bytes)) (IsBytes-take k bytes are) in
    subst (Took (number w) bytes) {x = made} g.1 (record {
      parts = sym (take-append-drop k bytes)
          ∙ ap (λ (t : List ℕ). t ++ drop k bytes) (sym front);
      rest = IsBytes-drop k bytes are;
      fits = record { wide = big_from-lt 0 k bytes are; within = tt };
    })

number_again : (w : Width) (wide : HasWidth w) (n : ℕ) (rest : List ℕ) → n < 256 ^ byte_len w
    → number_at (byte_len w) (to_be_bytes w n ++ rest) ≡ Some (n, rest)
number_again w wide n rest lt =
    let k = byte_len w in
    let len = wide.len n in
    let long : ltb (length (to_be_bytes w n ++ rest)) k ≡ false =
    le-ltb _ _ (omega (arith, length-append (to_be_bytes w n) rest)) in
    let number : big_number k (to_be_bytes w n ++ rest) ≡ n = big_number-reads_back k n rest lt in
    rw (long, drop_at (to_be_bytes w n) rest k len, number) refl

number_sound : (w : Width) → HasWidth w → IsSound (number w)
number_sound w wide = record {
  takes = number_takes w wide;
  again = λ n rest fits. number_again w wide n rest fits.wide;
}

wide64 : HasWidth w64
wide64 = record {
  back = λ bytes len are. be_bytes_8 bytes _ len are (omega arith);
  len = λ n. refl;
}

pub number2_sound : IsSound number2
unfolding number2
number2_sound =
    number_sound w16 (record {
      back = λ bytes len are. be_bytes_2 bytes _ len are (omega arith);
      len = λ n. refl;
    })

pub number4_sound : IsSound number4
unfolding number4
number4_sound =
    number_sound w32 (record {
      back = λ bytes len are. be_bytes_4 bytes _ len are (omega arith);
      len = λ n. refl;
    })

pub number8_sound : IsSound number8
unfolding number8
number8_sound = number_sound w64 wide64

-- ---- numbers in two's complement

signed_takes : (bytes : List ℕ) (x : ℤ × List ℕ) → IsBytes bytes
    → made_at (number w64) (cast_signed w64) bytes ≡ Some x → Took signed8 bytes x
unfolding signed8
signed_takes =
    made_takes [] (cast_signed w64) (number_sound w64 wide64) (λ n fits. (
      ap (to_be_bytes w64) (of_z-to_z w64 n fits.wide),
      record { wide = sfits_to_z (record { fits = fits.wide }); within = tt },
    ))

signed_again : (q : ℤ) (rest : List ℕ) → Fits signed8 q
    → signed8.read (signed8.spell q ++ rest) ≡ Some (q, rest)
unfolding signed8
signed_again q rest fits =
    made_again (number w64) (cast_signed w64) (number_sound w64 wide64) (cast_unsigned w64 q) rest
    (Fits-lt-pow (Fits-of_z fits.wide)) tt
    ∙ ap (λ (z : ℤ). Some (z, rest)) (to_z-of_z w64 q fits.wide)

pub signed8_sound : IsSound signed8
unfolding signed8
signed8_sound = record { takes = signed_takes; again = signed_again }
