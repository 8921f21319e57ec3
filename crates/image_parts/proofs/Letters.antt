-- What is written of a letter.
use Rattle.std.proofs.Common.{ℕ, Bool, List, ◌∷◌, append_assoc, subst}
use Rattle.codec.specs.declared.writer.Writer.{Writer}
use Rattle.codec.specs.Formats.{number4}
use Rattle.codec.specs.Writing.{Puts, Writes}
use Rattle.codec.proofs.Writing.{both, so}
use Rattle.frames.specs.Formats.{optional}
use Rattle.frames.specs.declared.version.Version.TheVariants.{Second}
use Rattle.model.specs.declared.event.Letter.{Letter}
use Rattle.image_parts.specs.Grammar.{letter_format, letter_front, more_format}

-- what every letter has, and what only letters of wide spaces have
pub letter_written : (wide : Bool) (l : Letter) {a b c : Writer}
    → Puts letter_front a b (l.from, (l.label, l.reference))
    → Puts (more_format wide) b c (l.more, l.bytes) → Puts (letter_format wide Second) a c l
unfolding letter_format
letter_written wide l {a} {b} {c} front more =
    let label : List ℕ = number4.spell l.label in
    let reference : List ℕ = (optional Second).spell l.reference in
    let last : List ℕ = (more_format wide).spell (l.more, l.bytes) in
    let known : Type 0 = (letter_format wide Second).IsWide l in
    subst (λ (t : List ℕ). Writes a c (l.from ∷ t) known)
    (append_assoc label reference last)
    (so (λ k. (k.0.0, (k.0.1.0, (k.0.1.1, k.1)))) (both front more))
