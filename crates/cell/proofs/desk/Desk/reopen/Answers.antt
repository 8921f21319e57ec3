use Rattle.std.proofs.Common.{None, cond, ◌≡◌, sym, ap, ◌∙◌, subst}
use Rattle.model.specs.State.{LocalState}
use Rattle.model.specs.View.{NodeView}
use Rattle.wire.specs.Readers.{known}
use Rattle.wire.specs.Views.{Known, Pair}
use Rattle.wire.specs.Plays.{Happens}
use Rattle.node.specs.Keeping.{WholeNode}
use Rattle.cell.specs.Desks.{AreTaken, IsSavedNode, StandsAt}
use Rattle.cell.specs.Disks.{is_same_node}
use Rattle.cell.specs.Events.{found_pair, found_step, reopened_by}
use Rattle.cell.proofs.Waiting.{taken-none}
use Rattle.cell.proofs.Found.{found-happens, is-found}
use Rattle.node_store.specs.Noted.{IsLogged}
use Rattle.node_store.proofs.Ends.{begun_log}
use Rattle.cell.proofs.desk.Desk.reopen.Goals as goal

pub enter_found-requires : goal.enter_found-requires
enter_found-requires c = (
  rw (← c.self.view_is) at c.requires.wire,
  subst (λ (m : NodeView).
      Happens (known c.self.inside.seat)
      (found_step (is_same_node m c.self.inside.saved.value) (known c.self.inside.seat).me)
      (found_pair (is_same_node m c.self.inside.saved.value)
      (known c.self.inside.seat).pair))
      (sym c.core.ensures.value)
      (found-happens (is_same_node c.args.found.core c.self.inside.saved.value)
      (known c.self.inside.seat)),
)

pub returns-clause-known : goal.returns-clause-known
returns-clause-known c =
    rw (← c.self.view_is)
    (c.enter_found.ensures.ticked
    ∙ ap (λ (m : NodeView).
    reopened_by (is_same_node m c.self.inside.saved.value) (known c.self.inside.seat))
    c.core.ensures.value)

pub invariant_of-self-inside : goal.invariant_of-self-inside
invariant_of-self-inside c =
    let desk = c.self.inside in
    let pair = (known desk.seat).pair in
    let found_core = c.args.found.core in
    let same = is_same_node found_core desk.saved.value in
    let pair_is : (known c.enter_found.new.seat).pair ≡ found_pair same pair =
    ap (λ (v : Known). v.pair) c.enter_found.ensures.ticked
    ∙ ap (λ (m : NodeView). found_pair (is_same_node m desk.saved.value) pair)
    c.core.ensures.value in
    let found = is-found found_core desk.stands desk.was c.requires.kept
    (rw (← c.self.view_is) at c.requires.which) in (
      record {
        own = c.enter_found.ensures.same.2 ∙ desk.at.own;
        nodes = c.enter_found.ensures.same.3 ∙ desk.at.nodes;
      },
      (
        subst (λ (p : Pair). StandsAt desk.own desk.nodes p found_core) (sym pair_is)
            found.stands,
        (
          subst
              (λ (m : NodeView).
              IsSavedNode desk.own desk.nodes (known c.enter_found.new.seat).pair.saved m)
              (sym (c.of.ensures ∙ c.core-2.ensures.value))
              (subst (λ (p : Pair). IsSavedNode desk.own desk.nodes p.saved found_core)
              (sym pair_is) found.saved),
          (
            c.ended_by-self-inside.ensures
                ∙ ap (λ (l : LocalState). l.phases.ended) found.saved.shows.local
                ∙ sym (ap (λ (p : Pair). p.saved.local.phases.ended) pair_is),
            (
              λ _. ap (λ (p : Pair). p.current) pair_is
                  ∙ sym (ap (λ (p : Pair). p.saved) pair_is),
              (
                subst (AreTaken (known c.enter_found.new.seat).taken)
                    (sym (ap (λ (m : WholeNode). m.early) c.requires.alone))
                    (taken-none (known c.enter_found.new.seat).taken found_core.local.shape.nodes),
                (
                  subst (λ (m : NodeView).
                      ∥ IsLogged (cond desk.logged.logs c.clear.new.self None) m found_core ∥₁)
                      (sym (c.of.ensures ∙ c.core-2.ensures.value))
                      ∣ begun_log desk.logged.logs c.clear.new.self found_core c.clear.ensures ∣₁,
                  tt,
                ),
              ),
            ),
          ),
        ),
      ),
    )
