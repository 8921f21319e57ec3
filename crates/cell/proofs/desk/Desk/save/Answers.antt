use Rattle.std.proofs.Common.{None, cond, ◌≡◌, List, sym, ap, ◌∙◌, subst}
use Rattle.model.specs.State.{LocalState}
use Rattle.model.specs.View.{NodeView, kept_view}
use Rattle.wire.specs.Readers.{known}
use Rattle.wire.specs.Views.{Known, Pair}
use Rattle.msg.specs.Frames.{Plain}
use Rattle.node.specs.Keeping.{WholeNode}
use Rattle.cell.specs.Desks.{AreTaken, IsSavedNode, StandsAt}
use Rattle.cell.specs.Events.{both_states}
use Rattle.cell.proofs.Found.{found-read}
use Rattle.laws.proofs.Carrying.{shows-kept}
use Rattle.node_store.proofs.Stores.{kept_twice}
use Rattle.node_store.specs.Noted.{IsLogged}
use Rattle.node_store.proofs.Ends.{begun_log}
use Rattle.cell.proofs.desk.Desk.save.Goals as goal

pub invariant_of-self-inside : goal.invariant_of-self-inside
invariant_of-self-inside c =
    let desk = c.self.inside in
    let pair = (known desk.seat).pair in
    let n = desk.logged.node.core in
    let pair_is : (known c.enter_save.new.seat).pair ≡ both_states pair.current =
    ap (λ (v : Known). v.pair) c.enter_save.ensures.ticked in
    let found = found-read desk.own desk.nodes pair.current (kept_view n) desk.stands.own
    desk.stands.nodes (shows-kept n pair.current desk.stands.shows)
    (kept_twice n) in (
      record {
        own = c.enter_save.ensures.same.2 ∙ desk.at.own;
        nodes = c.enter_save.ensures.same.3 ∙ desk.at.nodes;
      },
      (
        subst
            (λ (m : NodeView). StandsAt desk.own desk.nodes (known c.enter_save.new.seat).pair m)
            (sym (ap (λ (m : WholeNode). m.core) c.mark_saved.ensures))
            (subst (λ (p : Pair). StandsAt desk.own desk.nodes p (kept_view n)) (sym pair_is)
            found.stands),
        (
          subst
              (λ (m : NodeView).
              IsSavedNode desk.own desk.nodes (known c.enter_save.new.seat).pair.saved m)
              (sym (c.of.ensures ∙ c.core.ensures.value
              ∙ ap (λ (m : WholeNode). m.core) c.mark_saved.ensures))
              (subst (λ (p : Pair). IsSavedNode desk.own desk.nodes p.saved (kept_view n))
              (sym pair_is) found.saved),
          (
            c.ended_by-self-inside.ensures
                ∙ ap (λ (m : WholeNode). m.core.local.phases.ended) c.mark_saved.ensures
                ∙ ap (λ (l : LocalState). l.phases.ended) found.saved.shows.local
                ∙ sym (ap (λ (p : Pair). p.saved.local.phases.ended) pair_is),
            (
              λ _. ap (λ (p : Pair). p.current) pair_is
                  ∙ sym (ap (λ (p : Pair). p.saved) pair_is),
              (
                subst (λ (ts : List Plain). AreTaken ts c.mark_saved.new.self.early)
                    (sym (ap (λ (v : Known). v.taken) c.enter_save.ensures.ticked))
                    (subst (AreTaken (known desk.seat).taken)
                    (sym (ap (λ (m : WholeNode). m.early) c.mark_saved.ensures)) desk.taken),
                (
                  subst
                      (λ (m : NodeView).
                      ∥ IsLogged (cond desk.logged.logs c.clear.new.self None) m
                      c.mark_saved.new.self.core ∥₁)
                      (sym (c.of.ensures ∙ c.core.ensures.value))
                      ∣ begun_log desk.logged.logs c.clear.new.self c.mark_saved.new.self.core
                      c.clear.ensures ∣₁,
                  tt,
                ),
              ),
            ),
          ),
        ),
      ),
    )
