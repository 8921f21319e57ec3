use Rattle.std.proofs.Common.{◌<◌, length, ap, sym, ◌∙◌, arith}
use Rattle.model.specs.declared.summary.Summary.{Summary}
use Rattle.model.proofs.Lookups.{map-set_same}
use Rattle.world.specs.Outboxes.{released_frames}
use Rattle.world.proofs.OutboxLemmas.{read_released, row_staged, row_own}
use Rattle.world.proofs.outbox.stage_all.Goals.{then-to-summary+in_ok-stage, else-to-summary}
use Rattle.world.proofs.outbox.stage_all.Goals as goal

pub stage-requires-clause-kept : goal.stage-requires-clause-kept
stage-requires-clause-kept c =
    let summary = c.state-summary.ensures.value in
    let less : c.from.result < length c.loop-to.row =
    omega (arith, ap (λ (s : Summary). s.shape.nodes) summary) in
    rw (
      read_released c.loop-to.row _ c.from.result _ less c.loop-to.invariant.released,
      c.from.ensures,
    )
    (c.requires.kept c.loop-to.to
    (λ e. c.if-to-summary.true (e ∙ sym (ap (λ (s : Summary). s.own) summary))))

pub returns-in_err-stage-clause-released : goal.returns-in_err-stage-clause-released
returns-in_err-stage-clause-released c =
    map-set_same released_frames _ _ _ _ c.stage.ensures.released ∙ c.loop-to.invariant.released

pub loop-to-preserved : goal.loop-to-preserved
loop-to-preserved c = elim c.if-to-summary.branch [
  | then-to-summary+in_ok-stage w ↦
      let less : w.from.result < length c.loop-to.row =
      omega (arith, ap (λ (s : Summary). s.shape.nodes) c.state-summary.ensures.value) in
      let read = read_released c.loop-to.row _ w.from.result w.index-row-from.result less
      c.loop-to.invariant.released in
      record {
        released = rw w.row-is (map-set_same released_frames _ _ _ _ w.stage.ensures.released
            ∙ c.loop-to.invariant.released);
        staged = rw (w.row-is, w.from.ensures)
            (row_staged _ _ _ _ _ (omega arith)
            (rw (read, w.from.ensures) at w.in_ok-stage.ensures.staged) c.loop-to.invariant.staged);
      }
  | else-to-summary w ↦
      let own = w.if-to-summary.false ∙ ap (λ (s : Summary). s.own) c.state-summary.ensures.value in
      record {
        released = rw w.row-is c.loop-to.invariant.released;
        staged = rw w.row-is (row_own _ _ _ _ own c.loop-to.invariant.staged);
      }
]
