use Rattle.std.proofs.Common.{sym, ap, ◌∙◌, set}
use Rattle.std.proofs.lemmas.List.Edits.{map_over_more}
use Rattle.world.specs.Outboxes.{all_released}
use Rattle.world.proofs.outbox.release_staged.Goals as goal

pub loop-outbox-preserved : goal.loop-outbox-preserved
loop-outbox-preserved c =
    let write = map_over_more all_released c.args.row.now c.loop-outbox.row
    c.loop-outbox.outbox-index c.outbox-item.result c.loop-outbox-test.true
    c.loop-outbox.invariant c.outbox-item.is in
    let same = c.release.ensures ∙ ap all_released (sym c.outbox-item.is) in
    ap (λ x. set c.loop-outbox.row c.loop-outbox.outbox-index x) same ∙ write
