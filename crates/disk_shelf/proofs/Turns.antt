-- An image that is written into the area that isn't selected, or into both, with no batch behind
-- it. `logged` says whether a log is to follow it.
use Rattle.std.proofs.Common.{◌≡◌, inl, inr, ⊎_elim, ℕ, ◌+◌, ◌≤◌, ◌%◌, ◌==◌, Bool, true, false}
use Rattle.std.proofs.Common.{cond, not, List, [], ◌∷◌, ◌++◌, length, drop, Some}
use Rattle.std.proofs.Common.{refl, sym, ◌∙◌, ap, subst, arith, append_assoc}
use Rattle.std.proofs.lemmas.List.{drop_at}
use Rattle.disk_shelf.specs.declared.persist.TheConstants.{GREATEST_SAVED}
use Rattle.disk.specs.Areas.{Areas, part, Changes, Holds, Torn}
use Rattle.disk_shelf.specs.Logs.{EndsAt, IsLogged, IsLoggedIf, IsShut, IsSpelled}
use Rattle.disk_shelf.specs.Logs.{NoneOrWhole, OldOrWhole, OpensIf}
use Rattle.disk_shelf.specs.Seals.{behind, IsIntact, IsSealed, log_mark_of, mark_of}
use Rattle.disk_shelf.specs.Shelf.{recorded, record_of, side, half}
use Rattle.disk.specs.declared.device.Area.{Area}
use Rattle.disk.specs.declared.device.Area.TheVariants.{Select}
use Rattle.disk_shelf.proofs.Logs.{selected_if, side_some}
use Rattle.disk_shelf.proofs.Records.{recorded_front, recorded_holds, record_length}
use Rattle.disk_shelf.proofs.Seals.{intact_written, sealed_if}
use Rattle.disk_shelf.proofs.Sides.{some_length, written_selector}

-- a step on the other area
other_same : (in_b : Bool) (step : List ℕ → List ℕ → Type 0) (s c : Areas) →
    Changes (half (not in_b)) step s c →
    (c.select ≡ s.select) × (part (half in_b) c ≡ part (half in_b) s)
other_same true step s c ch = (ch.1, ch.2)
other_same false step s c ch = (ch.1, ch.2)

changed_other : (in_b : Bool) (step : List ℕ → List ℕ → Type 0) (s c : Areas) →
    Changes (half (not in_b)) step s c →
    step (part (half (not in_b)) s) (part (half (not in_b)) c)
changed_other true step s c ch = ch.0
changed_other false step s c ch = ch.0

opens_by : {logged : Bool} {image : List ℕ} {batches : List (List ℕ)} (in_b : Bool)
    (s c : Areas) → side c.select ≡ Some in_b → part (half in_b) c ≡ part (half in_b) s →
    IsLoggedIf logged image batches (part (half in_b) s) → OpensIf logged image batches c
opens_by {logged} {image} {batches} in_b s c selected same holds = record {
  in_b = in_b;
  selected = selected;
  holds = subst (IsLoggedIf logged image batches) (sym same) holds;
}

-- an image was laid at the start of an area, and an even gate behind it
pub image_laid : (image bytes old new : List ℕ) → length image ≤ GREATEST_SAVED →
    IsShut image bytes → Holds 0 bytes old new → IsLogged image [] new
image_laid image bytes old new fits spelled is =
    let more = drop (9 + length image) bytes in
    let tail = more ++ drop (0 + length bytes) old in
    let whole : new ≡ record_of image ++ (0 ∷ tail) =
    is ∙ ap (λ l. l ++ drop (0 + length bytes) old) spelled
    ∙ append_assoc (record_of image) (0 ∷ more) (drop (0 + length bytes) old) in
    let behind : drop (8 + length image) new ≡ 0 ∷ tail =
    ap (drop (8 + length image)) whole
    ∙ drop_at (record_of image) (0 ∷ tail) (8 + length image) (record_length image) in
    (ap recorded whole ∙ recorded_front image (0 ∷ tail) fits, ap side behind)

pub ends_first : (image held : List ℕ) → IsLogged image [] held → EndsAt (8 + length image) held
ends_first image held logged = record {
  image = image;
  batches = [];
  logged = logged;
  offset = omega arith;
}

-- the selector was changed, and nothing else
selector_only : (step : List ℕ → List ℕ → Type 0) (b : Bool) (s c : Areas) →
    Changes Select step s c → part (half b) c ≡ part (half b) s
selector_only step true s c ch = ch.2
selector_only step false s c ch = ch.1

-- an image, as these bytes
pub record Image (logged seals : Bool) (image bytes : List ℕ) : Type 0 where
  pub spelled : IsSpelled logged seals image bytes
  pub fits : length image ≤ GREATEST_SAVED

module _ {logged seals : Bool} {image bytes : List ℕ} (it : Image logged seals image bytes) where
  -- it was laid at the start of an area
  pub laid : (old new : List ℕ) → Holds 0 bytes old new → IsLoggedIf logged image [] new
  laid = by logged it.spelled
    where
      by : (b : Bool) → IsSpelled b seals image bytes → (old new : List ℕ) → Holds 0 bytes old new →
          IsLoggedIf b image [] new
      by true spelled old new is = image_laid image bytes old new it.fits spelled is
      by false spelled old new is = (
        recorded_holds image (behind seals image) old new it.fits
            (subst (λ l. Holds 0 l old new) spelled is),
        refl,
      )

  -- and then selected; if no log is to follow it, the disk is intact
  pub laid_intact : (in_b : Bool) {v : ℕ} (old : List ℕ) (t c : Areas) → logged ≡ false →
      v ≡ cond logged (log_mark_of seals in_b) (mark_of seals in_b) →
      Holds 0 bytes old (part (half in_b) t) → Changes Select (Holds 0 (v ∷ [])) t c → IsIntact c
  laid_intact in_b {v} old t c plain says is set =
      let here = part (half in_b) t in
      let spelled : bytes ≡ record_of image ++ behind seals image =
      subst (λ b. IsSpelled b seals image bytes) plain it.spelled in
      intact_written seals in_b v t c
      (says ∙ ap (λ b. cond b (log_mark_of seals in_b) (mark_of seals in_b)) plain)
      (sealed_if seals image old here it.fits (subst (λ l. Holds 0 l old here) spelled is)) set

-- an image is to be written into the area that isn't selected
pub record Turning (in_b : Bool) (area : Area) (logged seals : Bool) (image bytes : List ℕ)
    (s : Areas) : Type 0 where
  pub other : area ≡ half (not in_b)
  pub selected : side s.select ≡ Some in_b
  pub it : Image logged seals image bytes

module _ {in_b : Bool} {area : Area} {logged seals : Bool} {image bytes : List ℕ} {s : Areas}
    (turning : Turning in_b area logged seals image bytes s) where
  -- the disk opens to the same, even if that write is torn
  pub aside_kept : (step : List ℕ → List ℕ → Type 0) (was : Bool) (old : List ℕ)
      (batches : List (List ℕ)) → OpensIf was old batches s → (c : Areas) →
      Changes area step s c → OpensIf was old batches c
  aside_kept step was old batches opens c ch =
      let same = other_same in_b step s c (subst (λ a. Changes a step s c) turning.other ch) in
      opens_by in_b s c (ap side same.0 ∙ turning.selected) same.1
      (selected_if in_b s turning.selected opens)

  module _ (t : Areas) (written : Changes area (Holds 0 bytes) s t) where
    on_other : Holds 0 bytes (part (half (not in_b)) s) (part (half (not in_b)) t)
    on_other =
        changed_other in_b (Holds 0 bytes) s t
        (subst (λ a. Changes a (Holds 0 bytes) s t) turning.other written)

    new_laid : IsLoggedIf logged image [] (part (half (not in_b)) t)
    new_laid = laid turning.it (part (half (not in_b)) s) (part (half (not in_b)) t) on_other

    still_selected : side t.select ≡ Some in_b
    still_selected =
        let same = other_same in_b (Holds 0 bytes) s t
        (subst (λ a. Changes a (Holds 0 bytes) s t) turning.other written) in
        ap side same.0 ∙ turning.selected

    -- then the selector may be torn
    pub turn_torn : {was : Bool} {old : List ℕ} {batches : List (List ℕ)} →
        OpensIf was old batches s → (c : Areas) → Changes Select (Torn 0 1) t c →
        OldOrWhole was old batches logged image c
    turn_torn {was} {old} {batches} opens c ch =
        let before = selected_if in_b t still_selected
        (aside_kept (Holds 0 bytes) was old batches opens t written) in
        let long = some_length t.select in_b still_selected in
        ⊎_elim (λ even. choose in_b false before new_laid even)
        (λ odd. choose in_b true before new_laid odd)
        (side_some c.select (omega (arith, long, ch.0.no_shorter)))
      where
        choose : (b x : Bool) → IsLoggedIf was old batches (part (half b) t) →
            IsLoggedIf logged image [] (part (half (not b)) t) → side c.select ≡ Some x →
            OldOrWhole was old batches logged image c
        choose true true before is selects =
            inl (opens_by true t c selects (selector_only (Torn 0 1) true t c ch) before)
        choose true false before is selects =
            inr (opens_by false t c selects (selector_only (Torn 0 1) false t c ch) is)
        choose false false before is selects =
            inl (opens_by false t c selects (selector_only (Torn 0 1) false t c ch) before)
        choose false true before is selects =
            inr (opens_by true t c selects (selector_only (Torn 0 1) true t c ch) is)

    -- and once it is written, the new image counts
    pub turned : (v : ℕ) → (v % 2 == 1) ≡ not in_b → (c : Areas) →
        Changes Select (Holds 0 (v ∷ [])) t c →
        (side c.select ≡ Some (not in_b))
        × IsLoggedIf logged image [] (part (half (not in_b)) c)
    turned v says c ch = (
      written_selector (not in_b) v t c says ch,
      subst (IsLoggedIf logged image [])
          (sym (selector_only (Holds 0 (v ∷ [])) (not in_b) t c ch)) new_laid,
    )

    pub turned_intact : {v : ℕ} (c : Areas) → logged ≡ false →
        v ≡ cond logged (log_mark_of seals (not in_b)) (mark_of seals (not in_b)) →
        Changes Select (Holds 0 (v ∷ [])) t c → IsIntact c
    turned_intact c plain says ch =
        laid_intact turning.it (not in_b) (part (half (not in_b)) s) t c plain says on_other ch

-- both areas hold the image, and the selector may be torn
pub begin_torn : {logged : Bool} {image : List ℕ} (t : Areas) → IsLoggedIf logged image [] t.a →
    IsLoggedIf logged image [] t.b → (c : Areas) → Changes Select (Torn 0 1) t c →
    NoneOrWhole logged image c
begin_torn {logged} {image} t a b c ch = by_side c.select refl
  where
    by_side : (select : List ℕ) → c.select ≡ select → NoneOrWhole logged image c
    by_side [] is = inl is
    by_side (x ∷ rest) is = inr (opens (x % 2 == 1) (ap side is))
      where
        opens : (odd : Bool) → side c.select ≡ Some odd → OpensIf logged image [] c
        opens true selects = opens_by true t c selects (selector_only (Torn 0 1) true t c ch) b
        opens false selects = opens_by false t c selects (selector_only (Torn 0 1) false t c ch) a

pub begun : (logged : Bool) (image : List ℕ) (v : ℕ) (t : Areas) →
    IsLoggedIf logged image [] t.a → (v % 2 == 1) ≡ false → (c : Areas) →
    Changes Select (Holds 0 (v ∷ [])) t c →
    (side c.select ≡ Some false) × IsLoggedIf logged image [] (part (half false) c)
begun logged image v t a says c ch = (
  written_selector false v t c says ch,
  subst (IsLoggedIf logged image []) (sym (selector_only (Holds 0 (v ∷ [])) false t c ch)) a,
)
