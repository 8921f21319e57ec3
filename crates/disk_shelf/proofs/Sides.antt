-- How a step on one area affects what a disk opens to.
use Rattle.std.proofs.Common.{◌≡◌, ℕ, ◌≤◌, ◌%◌, ◌==◌, Bool, true, false}
use Rattle.std.proofs.Common.{List, [], ◌∷◌, length, Option, Some, None, refl, ◌∙◌, ap, arith}
use Rattle.disk.specs.Areas.{Areas, part, Changes, Holds}
use Rattle.disk.specs.Crashes.{Follows, StaysBlank}
use Rattle.disk_shelf.specs.Shelf.{recorded, side, half, image_at, opened}
use Rattle.disk.specs.declared.device.Area.TheVariants.{Select}

-- if nothing is selected, the disk opens to nothing
pub unselected : (s : Areas) → side s.select ≡ None → opened s ≡ None
unselected s is = ap (λ (o : Option Bool). image_at o s) is

-- a step on a side leaves an empty selector empty
pub still_blank : (in_b : Bool) (step : List ℕ → List ℕ → Type 0) (old new : Areas → Type 0) →
    Follows (Changes (half in_b) step) old new → StaysBlank old → StaysBlank new
still_blank true step old new crash blank c left =
    let from = crash c left in from.2.1 ∙ blank from.0 from.1
still_blank false step old new crash blank c left =
    let from = crash c left in from.2.1 ∙ blank from.0 from.1

-- the image on a side
pub image_on : (in_b : Bool) (d : Areas) → image_at (Some in_b) d ≡ recorded (part (half in_b) d)
image_on true d = refl
image_on false d = refl

-- a side is selected only by some byte
pub some_length : (select : List ℕ) (in_b : Bool) → side select ≡ Some in_b → 1 ≤ length select
some_length [] in_b is = absurd cc
some_length (x ∷ rest) in_b is = omega arith

-- the selector was written
pub written_selector : (in_b : Bool) (v : ℕ) (s c : Areas) → (v % 2 == 1) ≡ in_b →
    Changes Select (Holds 0 (v ∷ [])) s c → side c.select ≡ Some in_b
written_selector in_b v s c says ch = ap side ch.0 ∙ ap Some says
