-- What becomes of a log.
use Rattle.std.proofs.Common.{◌≡◌, ◌≤◌, ◌<◌, ◌+◌, ◌-◌, ◌^◌, ◌++◌, ℕ, List, [], length, Option, Some}
use Rattle.std.proofs.Common.{ap, sym, ◌∙◌, arith}
use Rattle.std.specs.Prelude.{min, false, Result, Ok, Err, OnOk}
use Rattle.std.specs.Result.{is_err}
use Rattle.std.proofs.lemmas.Bool.{true≢false}
use Rattle.std.proofs.lemmas.List.{length-append}
use Rattle.codec.specs.Formats.{Fits}
use Rattle.model.specs.declared.event.Event.{Event}
use Rattle.event_bytes.specs.Entries.{entry}
use Rattle.event_bytes.specs.Events.{AddsStart, entry_of, tail_of}
use Rattle.event_bytes.proofs.Starts.{tail_shorter}
use Rattle.event_bytes.proofs.Within.{event_fits}
use Rattle.node_log.specs.Noted.{Noted}

pub some_one : {x y : List ℕ} → ◌≡◌ {A = Option (List ℕ)} (Some x) (Some y) → x ≡ y
some_one both = cc both

pub when_ok : {A E P : Type 0} (r : Result A E) → is_err r ≡ false → OnOk r P → P
when_ok (Ok x) is known = known
when_ok (Err e) is known = absurd (true≢false is)

-- the two parts of the spelling of an event, as `add_event` and `tail` return them
pub record Parts (start tail : List ℕ) (e : Event) : Type 0 where
  pub old : List ℕ
  pub empty : old ≡ []
  pub adds : length (tail_of e) < 2 ^ 32 → AddsStart old start e
  pub behind : tail ≡ tail_of e

module _ {start tail : List ℕ} {e : Event} (parts : Parts start tail e) where
  spelling : (length (tail_of e) < 2 ^ 32) → start ++ tail ≡ entry.spell (entry_of e)
  spelling short =
      ap (λ (t : List ℕ). start ++ t) parts.behind ∙ (parts.adds short).is
      ∙ ap (λ (t : List ℕ). t ++ entry.spell (entry_of e)) parts.empty

  -- they fit into what is left of a log
  pub within : (room : ℕ) → length start + length tail ≤ room → room < 2 ^ 32
      → Fits entry (entry_of e) × (start ++ tail ≡ entry.spell (entry_of e))
  within room fits few =
      let short : length (tail_of e) < 2 ^ 32 = omega (arith, fits, few, ap length parts.behind) in
      (event_fits e (parts.adds short).known, spelling short)

  -- or they don't
  pub beyond : (used most : ℕ) → most < 2 ^ 32 → most - min used most < length start + length tail
      → used + length (entry.spell (entry_of e)) ≤ most → ⊥
  beyond used most few full fits =
      let short : length (tail_of e) < 2 ^ 32 = omega (arith, fits, few, tail_shorter e) in
      absurd (omega (arith, fits, full, length-append start tail, ap length (spelling short)))

pub added : (old : Option (List ℕ)) (e : Event) (before after : List ℕ) → Fits entry (entry_of e)
    → old ≡ Some before → after ≡ before ++ entry.spell (entry_of e) → Noted old (Some after) e
added old e before after fits was is = record {
  more = λ bytes same. (fits, (before, was, sym (some_one same) ∙ is));
}
