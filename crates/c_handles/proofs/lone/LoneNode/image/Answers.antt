use Rattle.std.proofs.Common.{rules, ap, subst, ◌∙◌}
use Rattle.std.specs.Prelude.{Ok}
use Rattle.c_values.specs.Bytes.{Wrote}
use Rattle.c_handles.specs.Images.{counts_of, image_in}
use Rattle.c_handles.specs.contracts.lone.LoneNode.{the_view}
use Rattle.c_handles.proofs.Logs.{behind_zeros, took}
use Rattle.c_handles.proofs.lone.LoneNode.image.Goals as goal

pub returns : goal.returns
returns c =
    rw (← c.self.view_is) (
      took c.in_ok-counts.counts
          (c.in_ok-counts.ensures.counted ∙ ap counts_of c.core.ensures.value)
          c.state-summary.ensures.sound (rw (← c.self.view_is) at c.in_ok-bytes.ensures.read)
          (search rules) (search rules),
      subst (λ l. Wrote l (Ok tt) c.args.buffer.now c.put.new.buffer c.put.new.needed)
          (behind_zeros c.deref.result.now (image_in (the_view c.self.inside))
          (c.deref.ensures.value ∙ (rw (← c.self.view_is) at c.in_ok-bytes.ensures.bytes)))
          c.in_ok-put.ensures,
    )
