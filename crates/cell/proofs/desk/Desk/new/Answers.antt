use Rattle.std.proofs.Common.{None, cond, ◌≡◌, sym, ap, ◌∙◌, subst}
use Rattle.model.specs.State.{LocalState, NodeState}
use Rattle.model.specs.View.{NodeView}
use Rattle.model.specs.declared.summary.Summary.{Summary}
use Rattle.wire.specs.Readers.{known}
use Rattle.wire.specs.Views.{Pair}
use Rattle.node.specs.Keeping.{WholeNode}
use Rattle.cell.specs.Desks.{AreTaken, IsSavedNode, StandsAt}
use Rattle.cell.specs.Events.{both_states}
use Rattle.cell.proofs.Found.{found-read}
use Rattle.cell.proofs.Waiting.{taken-none}
use Rattle.node_store.specs.Noted.{IsLogged}
use Rattle.node_store.proofs.Ends.{begun_log}
use Rattle.cell.proofs.desk.Desk.new.Goals as goal

pub invariant_of-result : goal.invariant_of-result
invariant_of-result c =
    let n = c.args.node.core in
    let pair = (known c.args.seat).pair in
    let own : n.local.own ≡ c.state-state.result.own =
    sym (ap (λ (s : Summary). s.own) c.state-state.ensures.value) in
    let nodes : n.local.shape.nodes ≡ c.nodes.result =
    sym (c.nodes.ensures.value ∙ ap (λ (s : Summary). s.shape.nodes) c.state-state.ensures.value) in
    let pair_is : pair ≡ both_states pair.current =
    ap (λ (s : NodeState). let p : Pair = record { current = pair.current; saved = s } in p)
    c.requires.seat.saved in
    let found = found-read c.state-state.result.own c.nodes.result pair.current n own nodes
    c.requires.seat.shows c.requires.kept in (
      record {
        own = sym c.requires.seat.own ∙ own;
        nodes = sym c.requires.seat.nodes ∙ nodes;
      },
      (
        subst (λ (p : Pair). StandsAt c.state-state.result.own c.nodes.result p n)
            (sym pair_is) found.stands,
        (
          subst
              (λ (m : NodeView). IsSavedNode c.state-state.result.own c.nodes.result pair.saved m)
              (sym (c.of.ensures ∙ c.core.ensures.value))
              (subst (λ (p : Pair). IsSavedNode c.state-state.result.own c.nodes.result p.saved n)
              (sym pair_is) found.saved),
          (
            c.ended_by.ensures
                ∙ ap (λ (l : LocalState). l.phases.ended) found.saved.shows.local
                ∙ sym (ap (λ (p : Pair). p.saved.local.phases.ended) pair_is),
            (
              λ _. sym c.requires.seat.saved,
              (
                subst (AreTaken (known c.args.seat).taken)
                    (sym (ap (λ (m : WholeNode). m.early) c.requires.alone))
                    (taken-none (known c.args.seat).taken n.local.shape.nodes),
                (
                  subst (λ (m : NodeView). ∥ IsLogged (cond c.args.logs c.new.result None) m n ∥₁)
                      (sym (c.of.ensures ∙ c.core.ensures.value))
                      ∣ begun_log c.args.logs c.new.result n c.new.ensures ∣₁,
                  tt,
                ),
              ),
            ),
          ),
        ),
      ),
    )
