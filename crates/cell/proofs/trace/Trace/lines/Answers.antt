use Rattle.std.proofs.Common.{◌++◌, [], ◌∷◌, map, string_bytes, ap, ap₂, sym, ◌∙◌, slice_get, subst, length, ◌<◌}
use Rattle.std.proofs.lemmas.List.{map-append}
use Rattle.std.specs.Option.{option_copied}
use Rattle.cell.proofs.TraceLines.{never_past, next_line}
use Rattle.cell.proofs.trace.Trace.lines.Goals as goal
use Rattle.cell.proofs.trace.Trace.lines.Goals.{in-Some+in_ok-format+in_ok-push, in_default}

pub loop-place-preserved : goal.loop-place-preserved
loop-place-preserved c =
    elim c.match-get.branch [
      | in-Some+in_ok-format+in_ok-push w ↦
          ap (λ t. map string_bytes t.items) w.texts-is
          ∙ ap (map string_bytes) w.in_ok-push.ensures.items
          ∙ map-append string_bytes c.loop-place.texts.items _
          ∙ ap₂ (λ a b. a ++ b ∷ []) c.loop-place.invariant w.in_ok-format.ensures.ok
          ∙ sym (next_line c.args.self.now c.loop-place.place w.in-Some.line.now
          (ap (λ v. slice_get v c.loop-place.place) (sym c.self.view_is)
          ∙ sym c.get.ensures ∙ ap option_copied w.in-Some.is))
      | in_default w ↦
          absurd (never_past c.args.self.now c.loop-place.place
          (subst (λ n. c.loop-place.place < n)
          (c.len-place-end.ensures.len ∙ ap length c.self.view_is) c.loop-place-test.true)
          (ap (λ v. slice_get v c.loop-place.place) (sym c.self.view_is)
          ∙ sym c.get.ensures ∙ ap option_copied w.in_default.is))
    ]
