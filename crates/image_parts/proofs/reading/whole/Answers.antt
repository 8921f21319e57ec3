use Rattle.std.proofs.Common.{refl, sym, ◌∙◌}
use Rattle.codec.proofs.Readers.{no_whole, whole_is}
use Rattle.image_parts.specs.Grammar.{image_format}
use Rattle.image_parts.proofs.reading.whole.Goals as goal

pub returns-then-finish : goal.returns-then-finish
returns-then-finish c =
    whole_is image_format _ _ _ _ c.new-reader.ensures c.in_ok-image.ensures.value
    (sym c.finish.ensures ∙ c.if-finish.true)

pub returns-else-finish : goal.returns-else-finish
returns-else-finish c = λ other. (
  refl,
  no_whole image_format _ _ _ _ c.new-reader.ensures c.in_ok-image.ensures.value
      (sym c.finish.ensures ∙ c.if-finish.false),
)
