use Rattle.std.proofs.Common.{ap, false, refl, sym, Some, ◌∙◌}
use Rattle.msg.specs.declared.body.Body.{Body}
use Rattle.msg.specs.Frames.{data_frame}
use Rattle.frames.proofs.Wholes.{lacking_decodes, letter_parts, over_decodes, unfit_decodes, message_whole}
use Rattle.frames.proofs.reading.whole_letter.Goals as goal

pub returns-then-not-finish : goal.returns-then-not-finish
returns-then-not-finish c = λ start took.
    over_decodes false (letter_parts took c.read_letter-label.ensures.value)
    (sym c.finish.ensures ∙ c.if-not-finish.true)

pub returns-then-not-post_fits : goal.returns-then-not-post_fits
returns-then-not-post_fits c = λ start took.
    unfit_decodes false (letter_parts took c.read_letter-label.ensures.value)
    (rw (sym (c.post_fits.ensures c.read_letter-label.result.0) ∙ c.if-not-post_fits.true) refl)

pub returns-in-Err : goal.returns-in-Err
returns-in-Err c = λ start took.
    lacking_decodes (letter_parts took c.read_letter-label.ensures.value)
    (sym c.finish.ensures ∙ c.if-not-finish.false)
    (rw (sym (c.post_fits.ensures c.read_letter-label.result.0) ∙ c.if-not-post_fits.false) refl)
    refl c.in-Err.ensures.refused

pub returns : goal.returns
returns c = λ start took.
    message_whole false (letter_parts took c.read_letter-label.ensures.value)
    (sym c.finish.ensures ∙ c.if-not-finish.false)
    (rw (sym (c.post_fits.ensures c.read_letter-label.result.0) ∙ c.if-not-post_fits.false) refl)
    ∙ ap (λ (b : Body). Some (data_frame c.args.from c.args.to c.args.number c.args.stamp b))
    (sym c.in-Ok.ensures.made)

pub invariant_of-result : goal.invariant_of-result
invariant_of-result c =
    rw (
      c.in-Ok.ensures.made,
      sym (c.post_fits.ensures c.read_letter-label.result.0) ∙ c.if-not-post_fits.false,
    )
    (record { fits = refl })
