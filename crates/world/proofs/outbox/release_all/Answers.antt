use Rattle.std.proofs.Common.{map, sym, ◌∙◌}
use Rattle.std.proofs.lemmas.List.{length-map}
use Rattle.world.specs.Outboxes.{released_frames}
use Rattle.world.proofs.OutboxLemmas.{row_releases}
use Rattle.world.proofs.outbox.release_all.Goals as goal

pub returns-clause-done : goal.returns-clause-done
returns-clause-done c =
    let wide = length-map c.args.row.now released_frames in
    rw c.release_staged.ensures
    (row_releases c.args.node.now (map released_frames c.args.row.now) c.stage_all.new.row
    (c.in_ok-stage_all.ensures.node.links.width ∙ sym c.requires.row ∙ sym wide)
    (c.stage_all.auto.row ∙ sym wide)
    (rw wide c.in_ok-stage_all.ensures.staged))
