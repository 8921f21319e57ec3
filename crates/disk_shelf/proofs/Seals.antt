-- What is written with a seal is intact.
use Rattle.std.proofs.Common.{◌≡◌, ◌∙◌, ℕ, ◌+◌, ◌≤◌, ◌++◌, ◌∷◌, [], Bool, true, false, List}
use Rattle.std.proofs.Common.{ap, arith, drop, inl, inr, length, length-append, refl, subst, sym, take}
use Rattle.std.proofs.lemmas.Bool.{false≢true}
use Rattle.std.proofs.lemmas.List.{append_assoc, drop_at, take_at}
use Rattle.disk_shelf.specs.declared.persist.TheConstants.{GREATEST_SAVED}
use Rattle.md5.specs.Md5.{md5}
use Rattle.md5.proofs.StandardFacts.{length-md5}
use Rattle.disk.specs.Areas.{Areas, Changes, Holds, part}
use Rattle.disk.specs.declared.device.Area.TheVariants.{Select}
use Rattle.disk_shelf.specs.Seals.{behind, first_of, IsIntact, IsMarked, IsSealed, mark_of, seal_head, seal_of}
use Rattle.disk_shelf.specs.Shelf.{half, record_of}
use Rattle.disk_shelf.proofs.Quiet.{same_some}
use Rattle.disk_shelf.proofs.Records.{record_length, recorded_holds}

pub seal_length : (image : List ℕ) → length (seal_of image) ≡ 32
seal_length image =
    length-append seal_head (md5 (record_of image))
    ∙ ap (λ n. 16 + n) (length-md5 (record_of image))

-- an image was written with its seal
pub sealed_holds : (image old new : List ℕ) → length image ≤ GREATEST_SAVED →
    Holds 0 (record_of image ++ seal_of image) old new → IsSealed new
sealed_holds image old new fits is =
    let seal = seal_of image in
    let tail = drop (0 + length (record_of image ++ seal)) old in
    let whole : new ≡ record_of image ++ (seal ++ tail) =
    is ∙ append_assoc (record_of image) seal tail in
    let rest : drop (8 + length image) new ≡ seal ++ tail =
    ap (drop (8 + length image)) whole
    ∙ drop_at (record_of image) (seal ++ tail) (8 + length image) (record_length image) in
    record {
      image = image;
      holds = recorded_holds image seal old new fits is;
      seal = ap (take 32) rest ∙ take_at seal tail 32 (seal_length image);
    }

-- the same for each kind of save
pub sealed_if : (seals : Bool) (image old new : List ℕ) → length image ≤ GREATEST_SAVED →
    Holds 0 (record_of image ++ behind seals image) old new → seals ≡ true → IsSealed new
sealed_if true image old new fits is held = sealed_holds image old new fits is
sealed_if false image old new fits is held = absurd (false≢true held)

selected_same : (in_b : Bool) (step : List ℕ → List ℕ → Type 0) (s c : Areas) →
    Changes Select step s c → part (half in_b) c ≡ part (half in_b) s
selected_same true step s c ch = ch.2
selected_same false step s c ch = ch.1

-- then the selector was written
pub intact_written : (seals in_b : Bool) (mark : ℕ) (s c : Areas) → mark ≡ mark_of seals in_b →
    (seals ≡ true → IsSealed (part (half in_b) s)) → Changes Select (Holds 0 (mark ∷ [])) s c →
    IsIntact c
intact_written seals in_b mark s c says held ch first is =
    let same : first ≡ mark_of seals in_b =
    same_some (sym is ∙ ap first_of ch.0) ∙ says in
    by seals in_b held same
  where
    by : (seals in_b : Bool) → (seals ≡ true → IsSealed (part (half in_b) s)) →
        first ≡ mark_of seals in_b → IsMarked first c
    by false false held same = inl (omega (arith, same))
    by false true held same = inl (omega (arith, same))
    by true in_b held same = inr (inl (
      in_b,
      same,
      subst IsSealed (sym (selected_same in_b (Holds 0 (mark ∷ [])) s c ch)) (held refl),
    ))
