-- How the places of a block are taken apart and put together. Assumes `Logic`.
use mathlib.Core.Path.{◌≡◌, ◌∙◌, ap, refl, sym}
use mathlib.Core.List.{List, [], ◌∷◌, ◌++◌}
use Prim.Native.Nat.{ℕ, zero, suc, ◌+◌, ◌*◌, ◌<◌, ◌^◌}
use native.Mathlib.Nat.{zero-mul}
use native.Mathlib.Omega.{arith}
use lib.ListN.{length, get_or}
use seplogic.Ra.Ura.{Ura}
use base.Fraction.{full_share}
use base.Fml.{Lft, Fml, froom}
use base.Logic.{ent, sep}
use mir.Syntax.{Ty, ty_array}
use types.Kit.{‵, ◌⊛◌, ◌$◌, ◌∵◌, !, qed, by, move, keep, use1, use2, split, fsplit, fjoin}
use types.Kit.{rewrite, done}
use types.Logic.{Logic, sem}
use denote.Index.{place, place_is, row}
use denote.Memory.{part_at, shared_of}
use denote.Steps.{nothing}
use Rattle.core.proofs.ptr.Rows.{El, R, el_x, elτ, sz, add_times, one_more, row_glue}
use Rattle.core.proofs.ptr.Rows.{glued, one_below, room_snoc, times_below}
use Rattle.std_alloc.proofs.RawLayout.{as_raw, as_written}
use Rattle.arena.specs.Block.{room_of, values_lent}

-- the place i places behind the k-th
pub behind : (k i s o : ℕ) → (k + i) * s + o ≡ i * s + (k * s + o)
behind k i s o = omega (arith, add_times k i s)

pub first-place : (s o : ℕ) → 0 * s + o ≡ o
first-place s o = omega (arith, zero-mul s)

module _ (E : El) {M : Type 1} {𝓤 : Ura M} (𝓛 : Logic 𝓤) (b : ℕ) where
  abbrev s : ℕ
  s = sz E

  abbrev τ : Ty
  τ = elτ E

  abbrev Room : ℕ → ℕ → Fml
  Room n o = room_of (R E) n b o

  abbrev Row : List (el_x E) → ℕ → Fml
  Row xs o = row (R E) full_share xs b o

  -- the first of these places of room
  pub room-first : {at next-at : ℕ} (n o : ℕ) → at ≡ o → next-at ≡ o + s
      → ent 𝓤 (sem 𝓛 (Room (suc n) o)) (sep 𝓤 (sem 𝓛 (froom τ b at)) (sem 𝓛 (Room n next-at)))
  room-first {at} {next-at} n o e f =
      qed 𝓛 (‵ (Room (suc n) o) ∷ []) ∵ as_written ! (ty_array τ (suc n)) b o $
      use1 𝓛 (‵ (froom τ b o) ⊛ ‵ (froom (ty_array τ n) b (o + s))) (𝓛.laws.room_uncons τ n b o) $
      split ! $
      rewrite ! 0 (λ (k : ℕ). ‵ (froom τ b k)) (sym e) refl $
      rewrite ! 1 (λ (k : ℕ). ‵ (froom (ty_array τ n) b k)) (sym f) refl $
      move ! (1 ∷ []) $ as_raw ! (ty_array τ n) b next-at $ move ! (1 ∷ 0 ∷ []) $ done !

  -- another place of room
  pub room-last : (k o : ℕ)
      → ent 𝓤 (sep 𝓤 (sem 𝓛 (Room k o)) (sem 𝓛 (froom τ b (k * s + o)))) (sem 𝓛 (Room (k + 1) o))
  room-last k o =
      qed 𝓛 (‵ (Room k o) ∷ ‵ (froom τ b (k * s + o)) ∷ []) ∵ as_written ! (ty_array τ k) b o $
      use2 𝓛 (‵ (froom (ty_array τ (suc k)) b o)) (room_snoc E 𝓛 b o k) $
      as_raw ! (ty_array τ (suc k)) b o $
      rewrite ! 0 (λ (n : ℕ). ‵ (Room n o)) (sym (one_more k)) refl $ done !

  -- all places, when none holds a value
  pub room-whole : (k n o : ℕ)
      → ent 𝓤 (sep 𝓤 (sem 𝓛 (Room k o)) (sem 𝓛 (Room n (k * s + o)))) (sem 𝓛 (Room (k + n) o))
  room-whole k n o =
      qed 𝓛 (‵ (Room k o) ∷ ‵ (Room n (k * s + o)) ∷ []) ∵ as_written ! (ty_array τ k) b o $
      move ! (1 ∷ []) $
      as_written ! (ty_array τ n) b (k * s + o) $
      rewrite ! 0 (λ (p : ℕ). ‵ (froom (ty_array τ n) b p)) {x = o + k * s} (omega arith) refl $
      move ! (1 ∷ 0 ∷ []) $
      use2 𝓛 (‵ (froom (ty_array τ (k + n)) b o)) (glued E 𝓛 k n (k + n) b o refl) $
      as_raw ! (ty_array τ (k + n)) b o $ done !

  -- a value behind others
  pub row-last : (xs : List (el_x E)) (x : el_x E) (o : ℕ)
      → ent 𝓤 (sep 𝓤 (sem 𝓛 (Row xs o)) (sem 𝓛 (part_at (R E) full_share x b (length xs * s + o))))
      (sem 𝓛 (Row (xs ++ x ∷ []) o))
  row-last xs x o =
      qed 𝓛 (‵ (Row xs o) ∷ ‵ (part_at (R E) full_share x b (length xs * s + o)) ∷ []) ∵
      move ! (1 ∷ []) $
      rewrite ! 0 (λ (p : ℕ). ‵ (part_at (R E) full_share x b p))
      (sym (place_is s o (length xs))) refl $ nothing ! $ move ! (1 ∷ 0 ∷ []) $ fjoin ! $
      move ! (1 ∷ 0 ∷ []) $
      by ! (row_glue E 𝓛 full_share xs (x ∷ []) b o)

  pub lent-place : (κ : Lft) (xs : List (el_x E)) {i : ℕ} (d : el_x E) (o : ℕ) → i < length xs
      → ent 𝓤 (sem 𝓛 (values_lent (R E) b o xs κ))
      (sem 𝓛 (shared_of (R E) (get_or xs i d) b (place s o i) κ))
  lent-place κ [] d o lt = absurd (omega arith)
  lent-place κ (x ∷ xs) {i = zero} d o lt =
      qed 𝓛 (‵ (values_lent (R E) b o (x ∷ xs) κ) ∷ []) ∵ fsplit ! $ keep ! (0 ∷ []) $ done !
  lent-place κ (x ∷ xs) {i = suc i} d o lt =
      qed 𝓛 (‵ (values_lent (R E) b o (x ∷ xs) κ) ∷ []) ∵ fsplit ! $ keep ! (1 ∷ []) $
      by ! (lent-place κ xs d (o + s) (omega arith))

pub not-empty : {X : Type 0} (xs : List X) → 0 < length xs
    → (x : X) × ((ys : List X) × (xs ≡ x ∷ ys))
not-empty [] more = absurd (omega arith)
not-empty (x ∷ xs) more = (x, (xs, refl))

-- a read within the list is the same whatever value is read past its end
pub same-read : {X : Type 0} (xs : List X) (i : ℕ) (d e : X) → i < length xs
    → get_or xs i d ≡ get_or xs i e
same-read [] i d e lt = absurd (omega arith)
same-read (x ∷ xs) zero d e lt = refl
same-read (x ∷ xs) (suc i) d e lt = same-read xs i d e (omega arith)

-- the value of this number is in a block of which nothing was emptied
pub record Inside (E : El) (emptied unused : ℕ) (xs : List (el_x E)) (index o : ℕ) : Type 0 where
  pub lt : index < length xs
  pub some_value : el_x E
  pub here : index * sz E + o ≡ place (sz E) (emptied * sz E + o) index
  pub tiny : sz E < 2 ^ 64
  pub far : index * sz E < 2 ^ 64

pub inside : (E : El) (emptied unused : ℕ) (xs : List (el_x E)) (index o : ℕ)
    → (emptied ≡ 0) × (index < length xs) → (emptied + length xs + unused) * sz E < 2 ^ 63
    → Inside E emptied unused xs index o
inside E emptied unused xs index o asked small =
    let size = sz E in
    let all = emptied + length xs + unused in
    record {
      lt = asked.1;
      some_value = (not-empty xs (omega (arith, asked.1))).0;
      here = ap (λ (j : ℕ). index * size + j)
          (sym (ap (λ (j : ℕ). j * size + o) asked.0 ∙ first-place size o))
          ∙ sym (place_is size (emptied * size + o) index);
      tiny = omega (arith, one_below all size (2 ^ 63) (omega (arith, asked.1)) small);
      far = omega (arith, times_below index all size (2 ^ 63) (omega (arith, asked.1)) small);
    }
