use Rattle.std.proofs.Common.{rules, ap, sym, ◌≡◌, ◌∙◌, Some}
use Rattle.std.specs.Option.{option_map}
use Rattle.c_handles.specs.Batches.{batch_of}
use Rattle.c_handles.specs.Images.{counts_of}
use Rattle.c_handles.proofs.Batches.{gave_batch}
use Rattle.c_handles.proofs.lone.LoneNode.batch.Goals as goal

pub returns : goal.returns
returns c =
    let found : batch_of c.args.self.now ≡ Some c.in-Some.events.now =
    sym c.events.ensures ∙ ap (option_map (λ b. b.now)) c.in-Some.is in
    rw (found, ← c.self.view_is) (
      gave_batch c.in_ok-counts.counts (rw (← c.self.view_is) at found)
          (c.in_ok-counts.ensures.counted ∙ ap counts_of c.core.ensures.value)
          c.state-summary.ensures.sound (search rules) (search rules),
      c.in_ok-put_batch.ensures,
    )
