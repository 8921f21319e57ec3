-- Frames one after another in one buffer.
use Rattle.std.proofs.Common.{◌≡◌, ℕ, zero, suc, ◌<◌, ◌≤◌, List, [], ◌∷◌, ◌++◌, length, take, drop, get_or, slice_get, Some, refl, ap, sym, ◌∙◌, subst, arith}
use Rattle.std.specs.List.{slice_range}
use Rattle.std.proofs.lemmas.List.{take-append-le, take-append-drop, drop_at, length-take-le, take_all}
use Rattle.std.proofs.lemmas.Slice.{between_is, between_to_end}
use Rattle.world.specs.InsideFrames.{cut_at, AreEnds}

pub cut_length : (bytes : List ℕ) (from : ℕ) (ends : List ℕ)
    → length (cut_at bytes from ends) ≡ length ends
cut_length bytes from [] = refl
cut_length bytes from (end ∷ ends) = ap suc (cut_length bytes end ends)

cut-take : (bytes : List ℕ) (from n : ℕ) (ends : List ℕ)
    → take n (cut_at bytes from ends) ≡ cut_at bytes from (take n ends)
cut-take bytes from zero ends = refl
cut-take bytes from (suc n) [] = refl
cut-take bytes from (suc n) (end ∷ ends) =
    ap (λ zs. slice_range bytes from end ∷ zs) (cut-take bytes end n ends)

-- no part begins past the bytes
starts-within : (from all k : ℕ) (ends : List ℕ) → AreEnds from all ends → k ≤ length ends
    → get_or (from ∷ ends) k 0 ≤ all
starts-within from all zero [] h less = omega arith
starts-within from all zero (end ∷ ends) h less =
    omega (arith, h.0, starts-within end all zero ends h.1 (omega arith))
starts-within from all (suc k) [] h less = absurd (omega arith)
starts-within from all (suc k) (end ∷ ends) h less = starts-within end all k ends h.1 (omega arith)

-- a part with this end, as it is read
pub record IsPart (bytes : List ℕ) (from k end : ℕ) (ends : List ℕ) : Type 0 where
  pub ordered : get_or (from ∷ ends) k 0 ≤ end
  pub within : end ≤ length bytes
  pub is : slice_get (cut_at bytes from ends) k ≡ Some
      (slice_range bytes (get_or (from ∷ ends) k 0) end)

pub part : (bytes : List ℕ) (from k end : ℕ) (ends : List ℕ) → AreEnds from (length bytes) ends
    → k < length (cut_at bytes from ends) → end ≡ get_or ends k end → IsPart bytes from k end ends
part bytes from k end [] h less is = absurd (omega arith)
part bytes from zero end (first ∷ ends) h less is = record {
  ordered = omega (arith, h.0, is);
  within = omega (arith, is, starts-within first (length bytes) zero ends h.1 (omega arith));
  is = ap (λ z. Some (slice_range bytes from z)) (sym is);
}
part bytes from (suc k) end (first ∷ ends) h less is =
    let rest = part bytes first k end ends h.1 (omega arith) is in
    record { ordered = rest.ordered; within = rest.within; is = rest.is }

-- bytes past all ends don't matter
range-left : (xs ys : List ℕ) (from end : ℕ) → end ≤ length xs
    → slice_range (xs ++ ys) from end ≡ slice_range xs from end
range-left xs ys from end less =
    between_is (xs ++ ys) from end ∙ ap (drop from) (take-append-le end xs ys less)
    ∙ sym (between_is xs from end)

cut-left : (xs ys : List ℕ) (from all : ℕ) (ends : List ℕ) → AreEnds from all ends → all ≤ length xs
    → cut_at (xs ++ ys) from ends ≡ cut_at xs from ends
cut-left xs ys from all [] h less = refl
cut-left xs ys from all (end ∷ ends) h less =
    let first = range-left xs ys from end
    (omega (arith, less, starts-within end all zero ends h.1 (omega arith))) in
    let others = cut-left xs ys end all ends h.1 less in
    cc

-- one more frame
pub cut_push : (xs ys : List ℕ) (from : ℕ) (ends : List ℕ) → AreEnds from (length xs) ends
    → cut_at (xs ++ ys) from (ends ++ length (xs ++ ys) ∷ []) ≡ cut_at xs from ends ++ ys ∷ []
cut_push xs ys from [] h =
    ap (λ zs. zs ∷ []) (between_to_end (xs ++ ys) from (length (xs ++ ys)) (omega arith)
    ∙ drop_at xs ys from (sym h))
cut_push xs ys from (end ∷ ends) h =
    let first = range-left xs ys from end
    (starts-within end (length xs) zero ends h.1 (omega arith)) in
    let others = cut_push xs ys end ends h.1 in
    cc

pub ends_push : (from all end : ℕ) (ends : List ℕ) → AreEnds from all ends → all ≤ end
    → AreEnds from end (ends ++ end ∷ [])
ends_push from all end [] h more = (omega arith, refl)
ends_push from all end (first ∷ ends) h more = (h.0, ends_push first all end ends h.1 more)

-- only the first frames
ends-take : (from all n : ℕ) (ends : List ℕ) → AreEnds from all ends → n ≤ length ends
    → AreEnds from (get_or (from ∷ ends) n 0) (take n ends)
ends-take from all zero ends h less = refl
ends-take from all (suc n) [] h less = absurd (omega arith)
ends-take from all (suc n) (end ∷ ends) h less = (h.0, ends-take end all n ends h.1 (omega arith))

front-within : (bytes : List ℕ) (n : ℕ) (ends : List ℕ) → AreEnds 0 (length bytes) ends
    → n ≤ length ends → length (take (get_or (0 ∷ ends) n 0) bytes) ≡ get_or (0 ∷ ends) n 0
front-within bytes n ends h less =
    length-take-le (get_or (0 ∷ ends) n 0) bytes (starts-within 0 (length bytes) n ends h less)

pub ends_front : (bytes : List ℕ) (n : ℕ) (ends : List ℕ) → AreEnds 0 (length bytes) ends
    → n ≤ length ends → AreEnds 0 (length (take (get_or (0 ∷ ends) n 0) bytes)) (take n ends)
ends_front bytes n ends h less =
    subst (λ all. AreEnds 0 all (take n ends)) (sym (front-within bytes n ends h less))
    (ends-take 0 (length bytes) n ends h less)

pub cut_front : (bytes : List ℕ) (n : ℕ) (ends : List ℕ) → AreEnds 0 (length bytes) ends
    → n ≤ length ends → cut_at (take (get_or (0 ∷ ends) n 0) bytes) 0 (take n ends)
    ≡ take n (cut_at bytes 0 ends)
cut_front bytes n ends h less =
    let end : ℕ = get_or (0 ∷ ends) n 0 in
    sym (cut-left (take end bytes) (drop end bytes) 0 end (take n ends)
    (ends-take 0 (length bytes) n ends h less)
    (omega (arith, front-within bytes n ends h less)))
    ∙ ap (λ zs. cut_at zs 0 (take n ends)) (take-append-drop end bytes)
    ∙ sym (cut-take bytes 0 n ends)

-- the rules for dropping the last frames
pub ruleset fronts = (cut_length, ends_front, cut_front)

-- all parts are kept
pub all_kept : (n : ℕ) (bytes : List ℕ) (from : ℕ) (ends : List ℕ) → length ends ≤ n →
    cut_at bytes from ends ≡ take n (cut_at bytes from ends)
all_kept n bytes from ends le =
    sym (take_all n (cut_at bytes from ends) (omega (arith, cut_length bytes from ends, le)))
