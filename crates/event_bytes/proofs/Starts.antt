-- An event's spelling is what is added to a piece, and the event's own bytes.
use Rattle.std.proofs.Common.{◌≡◌, ◌≤◌, ◌<◌, ◌^◌, ℕ, List, ◌∷◌, ◌++◌, length, ap, subst, ◌∙◌}
use Rattle.std.proofs.Common.{append_assoc, arith}
use Rattle.std.proofs.lemmas.List.{append-nil, length-append}
use Rattle.codec.specs.Formats.{number2, number4, bytes4}
use Rattle.codec.specs.Pieces.{Gains}
use Rattle.model.specs.declared.event.Event.{Event}
use Rattle.model.specs.declared.event.Event.TheVariants as event
use Rattle.event_bytes.specs.Entries.{entry}
use Rattle.event_bytes.specs.Events.{AddsStart, count_of, entry_of, start_of, tail_of}

counted : (bytes : List ℕ) → length bytes < 2 ^ 32 → count_of bytes ≡ length bytes
counted bytes short = grind (arith, short)

-- what was added, if the event's own bytes follow
gained_start : {old new text : List ℕ} {k : ℕ} {P : Type 0} (e : Event) → Gains old new text k P
    → text ++ tail_of e ≡ entry.spell (entry_of e) → (P → entry.IsWide (entry_of e))
    → AddsStart old new e
gained_start {old} {new} {text} e gained is known = record {
  is = ap (λ (t : List ℕ). t ++ tail_of e) gained.is ∙ append_assoc old text (tail_of e)
      ∙ ap (λ (t : List ℕ). old ++ t) is;
  known = known gained.known;
}

pub started : {old new : List ℕ} (e : Event) → length (tail_of e) < 2 ^ 32
    → Gains old new (start_of e).bytes 48 (start_of e).is_wide → AddsStart old new e
unfolding entry bytes4
started (event.SetBytes object bytes) short gained =
    let count = counted bytes.now short in
    gained_start (event.SetBytes object bytes) gained
    (ap (λ (t : List ℕ). 18 ∷ t)
    (append_assoc (number2.spell object) (number4.spell (count_of bytes.now)) bytes.now
    ∙ ap (λ (n : ℕ). number2.spell object ++ (number4.spell n ++ bytes.now)) count))
    (λ wide. (wide.0, (subst number4.IsWide count wide.1, tt)))
started (event.Patch object offset bytes) short gained =
    let count = counted bytes.now short in
    let front : List ℕ = number2.spell object in
    let middle : List ℕ = number4.spell offset in
    gained_start (event.Patch object offset bytes) gained
    (ap (λ (t : List ℕ). 19 ∷ t)
    (append_assoc front (middle ++ number4.spell (count_of bytes.now)) bytes.now
    ∙ ap (λ (t : List ℕ). front ++ t)
    (append_assoc middle (number4.spell (count_of bytes.now)) bytes.now
    ∙ ap (λ (n : ℕ). middle ++ (number4.spell n ++ bytes.now)) count)))
    (λ wide. (wide.0, (wide.1.0, (subst number4.IsWide count wide.1.1, tt))))
started (event.Post to label first count bytes) short gained =
    let few = counted bytes.now short in
    let middle : List ℕ = number4.spell label in
    let last : List ℕ = number2.spell first in
    gained_start (event.Post to label first count bytes) gained
    (ap (λ (t : List ℕ). 22 ∷ to ∷ t)
    (append_assoc middle (last ++ (count ∷ number4.spell (count_of bytes.now))) bytes.now
    ∙ ap (λ (t : List ℕ). middle ++ t)
    (append_assoc last (count ∷ number4.spell (count_of bytes.now)) bytes.now
    ∙ ap (λ (n : ℕ). last ++ (count ∷ (number4.spell n ++ bytes.now))) few)))
    (λ wide. (
      wide.0,
      (wide.1.0, (wide.1.1.0, (wide.1.1.1.0, (subst number4.IsWide few wide.1.1.1.1, tt)))),
    ))
started e short gained =
    gained_start e gained (append-nil (entry.spell (entry_of e))) (λ wide. wide)

-- the event's own bytes are no longer than its spelling
pub tail_shorter : (e : Event) → length (tail_of e) ≤ length (entry.spell (entry_of e))
unfolding entry bytes4
tail_shorter (event.SetBytes object bytes) =
    let behind : List ℕ = number4.spell (length bytes.now) ++ bytes.now in
    omega (
      arith,
      length-append (number4.spell (length bytes.now)) bytes.now,
      length-append (number2.spell object) behind,
    )
tail_shorter (event.Patch object offset bytes) =
    let behind : List ℕ = number4.spell (length bytes.now) ++ bytes.now in
    omega (
      arith,
      length-append (number4.spell (length bytes.now)) bytes.now,
      length-append (number4.spell offset) behind,
      length-append (number2.spell object) (number4.spell offset ++ behind),
    )
tail_shorter (event.Post to label first count bytes) =
    let behind : List ℕ = number4.spell (length bytes.now) ++ bytes.now in
    omega (
      arith,
      length-append (number4.spell (length bytes.now)) bytes.now,
      length-append (number2.spell first) (count ∷ behind),
      length-append (number4.spell label) (number2.spell first ++ (count ∷ behind)),
    )
tail_shorter e = omega arith
