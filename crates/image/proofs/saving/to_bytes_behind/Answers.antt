use Rattle.std.proofs.Common.{◌≡◌, ◌+◌, [], ◌++◌, ◌∙◌, None, Some, cond, length}
use Rattle.std.proofs.lemmas.Result.{IfErr-weaker, on_ok_weaker}
use Rattle.ids.specs.declared.limits.TheConstants.{GREATEST_IMAGE}
use Rattle.codec.specs.Writing.{Says}
use Rattle.image_parts.specs.Grammar.{spelling, image_format}
use Rattle.image.specs.Images.{image_of}
use Rattle.image.proofs.Limits.{not_long, over_long}
use Rattle.image.proofs.Saved.{is_saved}
use Rattle.image.proofs.saving.to_bytes_behind.Goals as goal

pub returns : goal.returns
unfolding spelling image_format
returns c =
    let n = c.core-core.result.now in
    let front = c.args.front.now in
    let text = front ++ image_of n in
    let wide = n.local.shape.wide in
    let state = c.state.ensures in
    let said : Says c.put_node.new.out text =
    c.put_node.ensures.more front (c.append.ensures.more [] c.new-out.ensures.empty) in
    let limit : c.put_node.new.out.limit ≡ cond wide None (Some (GREATEST_IMAGE + length front)) =
    c.put_node.ensures.limit ∙ c.append.ensures.limit ∙ c.new-out.ensures.limit
    ∙ (rw c.state.ensures.value at c.limit_behind-limit.ensures) in
    let long = over_long wide front (image_of n) limit in
    let short = not_long wide front (image_of n) limit in
    rw (← c.core-core.ensures.value)
    (record {
      written = c.finish.ensures.written text said;
      image = is_saved n state.sound c.finish.result state.saved c.finish.ensures.within
          c.put_node.ensures.known
          (on_ok_weaker c.finish.result short (c.finish.ensures.fits text said));
      refused = IfErr-weaker c.finish.result _ _
          (λ e more other. let is = more other in (is.0, long is.1))
          (c.finish.ensures.refused text said);
      last = IfErr-weaker c.finish.result _ _ (λ e fits is. short (fits is))
          (c.finish.ensures.last text said);
    })
