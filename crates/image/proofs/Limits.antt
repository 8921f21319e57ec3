-- The limit of the writer that an image is written into.
use Rattle.std.proofs.Common.{◌≡◌, ◌+◌, ◌++◌, ℕ, List, Bool, true, false, Option, None, Some, cond, arith}
use Rattle.std.proofs.Common.{length, length-append, refl, subst, sym}
use Rattle.std.proofs.lemmas.Bool.{false≢true}
use Rattle.ids.specs.declared.limits.TheConstants.{GREATEST_IMAGE}
use Rattle.codec.specs.Writing.{IsOver, IsUpTo}
use Rattle.image_parts.specs.Layouts.{IsTooLong}

-- what is within the limit, with what is in front of it, isn't too long
pub not_long : (wide : Bool) (front image : List ℕ) {limit : Option ℕ}
    → limit ≡ cond wide None (Some (GREATEST_IMAGE + length front))
    → IsUpTo limit (length (front ++ image)) → IsTooLong wide (length image) → ⊥
not_long true front image is within too = false≢true (sym too.0)
not_long false front image is within too =
    let most = subst (λ l. IsUpTo l (length (front ++ image))) is within in
    omega (arith, most, length-append front image, too.1)

-- what is over the limit is too long
pub over_long : (wide : Bool) (front image : List ℕ) {limit : Option ℕ}
    → limit ≡ cond wide None (Some (GREATEST_IMAGE + length front))
    → IsOver limit (length (front ++ image)) → IsTooLong wide (length image)
over_long true front image is over =
    absurd (subst (λ l. IsOver l (length (front ++ image))) is over)
over_long false front image is over =
    let more = subst (λ l. IsOver l (length (front ++ image))) is over in
    (refl, omega (arith, more, length-append front image))
