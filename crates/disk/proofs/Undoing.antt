-- Writes that are undone.
use Rattle.std.proofs.Common.{◌≡◌, ◌⊎◌, inl, inr, ⊎_elim, leb, ℕ, ◌+◌, ◌-◌, ◌≤◌, ◌<◌, List, []}
use Rattle.std.proofs.Common.{◌∷◌, ◌++◌, length, take, drop, Bool, true, false, cond, refl, sym}
use Rattle.std.proofs.Common.{◌∙◌, ap, subst, arith, get_or, append_assoc}
use Rattle.std.proofs.Common.{length-drop}
use Rattle.std.proofs.lemmas.List.{drop-drop, length-take-le, take-append-drop, take_all, take_at}
use Rattle.std.proofs.lemmas.List.{take_more}
use Rattle.std.proofs.lemmas.Bool.Decides.{leb_tells}
use Rattle.disk.specs.Areas.{Areas, part, with_part, pasted, Changes, Torn}
use Rattle.disk.specs.Undo.{IsUndo, IsUndone, undone, undone_by, undone_in}
use Rattle.disk.specs.declared.device.Area.{Area}
use Rattle.disk.specs.declared.device.Area.TheVariants.{Select, A, B}
use Rattle.disk.specs.declared.undo.Undo.{Undo}
use Rattle.disk.proofs.Torn.{torn_same, unchanged}

-- the bytes are put back that were in a range before it was written
put_back : (at n : ℕ) (old new : List ℕ) → at ≤ length old → Torn at n old new →
    take (length old) (pasted at (take n (drop at old)) new) ≡ old
put_back at n old new le torn = ⊎_elim (λ inside. within inside) (λ past. over past)
    (decides n (length old))
  where
    decides : (k m : ℕ) → (at + k ≤ m) ⊎ (m < at + k)
    decides k m = ⊎_elim (λ le. inl le.1) (λ lt. inr lt.1) (leb_tells (at + k) m)

    rest : List ℕ
    rest = take n (drop at old)

    front : take at new ++ rest ≡ take at old ++ rest
    front = ap (λ l. l ++ rest) torn.before

    within : at + n ≤ length old → take (length old) (pasted at rest new) ≡ old
    within inside =
        let long : length rest ≡ n =
        length-take-le n (drop at old) (omega (arith, inside, length-drop at old)) in
        let tail : drop (at + length rest) new ≡ drop n (drop at old) =
        ap (λ k. drop (at + k) new) long ∙ torn.after ∙ sym (drop-drop n at old) in
        let whole : pasted at rest new ≡ old =
        ap (λ l. l ++ drop (at + length rest) new) front
        ∙ ap (λ l. (take at old ++ rest) ++ l) tail
        ∙ append_assoc (take at old) rest (drop n (drop at old))
        ∙ ap (λ l. take at old ++ l) (take-append-drop n (drop at old))
        ∙ take-append-drop at old in
        ap (take (length old)) whole ∙ take_all (length old) old (omega arith)

    over : length old < at + n → take (length old) (pasted at rest new) ≡ old
    over past =
        let all : rest ≡ drop at old =
        take_all n (drop at old) (omega (arith, past, le, length-drop at old)) in
        let tail = drop (at + length rest) new in
        let whole : pasted at rest new ≡ old ++ tail =
        ap (λ l. l ++ tail) (front ∙ ap (λ l. take at old ++ l) all ∙ take-append-drop at old) in
        ap (take (length old)) whole ∙ take_at old tail (length old) refl

areas_same : {a b c x y z : List ℕ} → a ≡ x → b ≡ y → c ≡ z →
    ◌≡◌ {A = Areas} (record { select = a; a = b; b = c }) (record { select = x; a = y; b = z })
areas_same first second third = cc (first, second, third)

-- an area gets back the bytes that it had before a step
with_old : (area : Area) (step : List ℕ → List ℕ → Type 0) (d d' : Areas) (back : List ℕ) →
    Changes area step d d' → back ≡ part area d → with_part area back d' ≡ d
with_old Select step d d' back ch is = areas_same is ch.1 ch.2
with_old A step d d' back ch is = areas_same ch.1 is ch.2
with_old B step d d' back ch is = areas_same ch.1 ch.2 is

changed_in : (area : Area) (step : List ℕ → List ℕ → Type 0) (d d' : Areas) →
    Changes area step d d' → step (part area d) (part area d')
changed_in Select step d d' ch = ch.0
changed_in A step d d' ch = ch.0
changed_in B step d d' ch = ch.0

-- a write is undone
one_undone : {area : Area} {at n : ℕ} {d : Areas} {u : Undo} (d' : Areas) →
    at ≤ length (part area d) →
    IsUndo area at n d u → Changes area (Torn at n) d d' → undone_by u d' ≡ d
one_undone {area} {at} {n} {d} {u} d' le is ch =
    let torn = changed_in area (Torn at n) d d' ch in
    let back : undone_in u (part area d') ≡ part area d =
    ap (λ k. take k (pasted u.at u.old.items (part area d'))) is.len
    ∙ ap (λ k. take (length (part area d)) (pasted k u.old.items (part area d'))) is.from
    ∙ ap (λ l. take (length (part area d)) (pasted at l (part area d'))) is.old
    ∙ put_back at n (part area d) (part area d') le torn in
    let before = with_part area (undone_in u (part area d')) d' in
    let here : cond (leb u.at (length (part area d'))) before d' ≡ d =
    ⊎_elim
    (λ fits. ap (λ b. cond b before d') fits.0 ∙ with_old area (Torn at n) d d' _ ch back)
    (λ past. absurd (omega (arith, past.1, le, is.from, torn.no_shorter)))
    (leb_tells u.at (length (part area d'))) in
    let P : Area → Type 0 =
    λ a. cond (leb u.at (length (part a d'))) (with_part a (undone_in u (part a d')) d') d' ≡ d in
    subst P (sym is.same) here

-- the last one is undone first
last_first : (undo : List Undo) (u : Undo) (d : Areas) →
    undone (undo ++ u ∷ []) d ≡ undone undo (undone_by u d)
last_first [] u d = refl
last_first (x ∷ rest) u d = ap (undone_by x) (last_first rest u d)

-- what a write replaces is kept
pub kept_undone : {area : Area} {at n : ℕ} {d last : Areas} {next : List Undo} {u : Undo}
    (undo : List Undo) → at ≤ length (part area d) → IsUndo area at n d u → undone undo d ≡ last →
    next ≡ undo ++ u ∷ [] → IsUndone area at n next d last
kept_undone {u = u} undo le is so_far made d' ch =
    ap (λ l. undone l d') made ∙ last_first undo u d'
    ∙ ap (undone undo) (one_undone d' le is ch) ∙ so_far

-- nothing is written then
still_undone : (area : Area) (at n : ℕ) (d last : Areas) (undo : List Undo) →
    IsUndone area at n undo d last → undone undo d ≡ last
still_undone area at n d last undo all =
    all d (unchanged area (Torn at n) d (torn_same at n (part area d)))

-- also if there was no memory to keep it
pub either_undone : {area : Area} {at n : ℕ} {d last : Areas} {next : List Undo} {u : Undo}
    (undo : List Undo) (kept : Bool) → at ≤ length (part area d) → IsUndo area at n d u →
    undone undo d ≡ last →
    next ≡ cond kept (undo ++ u ∷ []) undo → undone next d ≡ last
either_undone {area} {at} {n} {d} {last} {next} undo true le is so_far made =
    still_undone area at n d last next
    (kept_undone undo le is so_far made)
either_undone {d = d} undo false le is so_far made =
    ap (λ l. undone l d) made ∙ so_far

-- the last one of those that are left is undone
pub undone_next : {u : Undo} {d' last : Areas} (left : ℕ) (undo : List Undo) (d : Areas) →
    0 < left → left ≤ length undo → u ≡ get_or undo (left - 1) u → d' ≡ undone_by u d →
    undone (take left undo) d ≡ last → undone (take (left - 1) undo) d' ≡ last
undone_next {u} left undo d more within is next so_far =
    let k = left - 1 in
    let one : left ≡ k + 1 = omega (arith, more) in
    let split : take left undo ≡ take k undo ++ u ∷ [] =
    ap (λ n. take n undo) one ∙ take_more undo k u (omega (arith, one, within))
    ∙ ap (λ x. take k undo ++ x ∷ []) (sym is) in
    ap (undone (take k undo)) next ∙ sym (last_first (take k undo) u d)
    ∙ sym (ap (λ l. undone l d) split) ∙ so_far
