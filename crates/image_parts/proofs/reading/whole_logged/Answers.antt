use Rattle.std.proofs.Common.{Some, ap, refl, sym, ◌∙◌}
use Rattle.codec.proofs.Readers.{no_whole, whole_is}
use Rattle.image_parts.specs.Grammar.{behind_format}
use Rattle.image_parts.specs.Logs.{logged_at, version_in}
use Rattle.image_parts.proofs.Readings.{behind_read, rest_read}
use Rattle.image_parts.proofs.reading.whole_logged.Goals as goal

pub returns-then-not-begins_logged : goal.returns-then-not-begins_logged
unfolding logged_at
returns-then-not-begins_logged c = λ other.
    (refl, rw (sym c.begins_logged.ensures ∙ c.if-not-begins_logged.true) refl)

pub returns-then-not-finish : goal.returns-then-not-finish
unfolding logged_at
returns-then-not-finish c =
    let number = version_in c.args.bytes.now in
    let start = rw c.version_in.ensures at c.read_behind-layout.ensures in
    λ other. (
      refl,
      rw (sym c.begins_logged.ensures ∙ c.if-not-begins_logged.false)
          (no_whole (behind_format number) _ _ _ _
          (c.new-reader.ensures ∙ ap (λ b. Some b) c.behind_start.ensures)
          (behind_read number
          (rest_read c.read_behind-layout.result c.is_wide.ensures c.widths.ensures
          c.in_ok-parts.ensures.value) start)
          (sym c.finish.ensures ∙ c.if-not-finish.true)),
    )

pub returns : goal.returns
unfolding logged_at
returns c =
    let number = version_in c.args.bytes.now in
    let start = rw c.version_in.ensures at c.read_behind-layout.ensures in
    rw (sym c.begins_logged.ensures ∙ c.if-not-begins_logged.false)
    (whole_is (behind_format number) _ _ _ _
    (c.new-reader.ensures ∙ ap (λ b. Some b) c.behind_start.ensures)
    (behind_read number
    (rest_read c.read_behind-layout.result c.is_wide.ensures c.widths.ensures
    c.in_ok-parts.ensures.value) start)
    (sym c.finish.ensures ∙ c.if-not-finish.false))
