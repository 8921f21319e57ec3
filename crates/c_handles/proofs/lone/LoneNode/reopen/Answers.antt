use Rattle.std.proofs.Common.{Ok, refl, subst, sym, true, ◌∙◌}
use Rattle.image_parts.specs.Logs.{begins_logged}
use Rattle.c_handles.specs.Batches.{Reopened}
use Rattle.c_handles.specs.declared.lone.LoneNode.{LoneNode}
use Rattle.c_handles.proofs.Logs.{fresh_led}
use Rattle.c_handles.proofs.lone.LoneNode.reopen.Goals as goal

pub returns : goal.returns
returns c =
    let image = c.args.image.now in
    rw c.has_log.ensures
    (subst (λ (n : LoneNode). Reopened image c.args.batches.now c.args.limit
    (Ok (record n { logs = true; is_kept = begins_logged image })))
    (sym (c.lone.view_is ∙ c.of-lone.ensures)) (
      c.in_ok-node.ensures.stored,
      refl,
      λ bytes is. fresh_led c.in_ok-node.node.core bytes is,
    ))
