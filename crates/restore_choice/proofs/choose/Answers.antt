use Rattle.std.proofs.Common.{rules, ◌≡◌, ◌<◌, length, ℕ, List, arith, get_or, subst, ◌∙◌}
use Rattle.std.proofs.lemmas.Grind.{get_or_default_zero}
use Rattle.restore_choice.specs.Choices.{IsAhead}
use Rattle.restore_choice.proofs.Going.{back-above, back-is, none-older}
use Rattle.restore_choice.proofs.choose.Goals as goal

pub returns-then-index-eq0 : goal.returns-then-index-eq0
returns-then-index-eq0 c =
    let ahead : IsAhead c.args.histories.now c.loop-node.choice.items c.in-Some.node =
    subst (λ (l : List ℕ). IsAhead c.args.histories.now l c.in-Some.node) c.as_slice.ensures.value
    c.in-Some.ensures in
    let first : get_or c.loop-node.choice.items c.in-Some.node 0 ≡ 0 = search rules in
    none-older c.requires c.loop-node.invariant.0 c.loop-node.invariant.1 ahead first

pub loop-node-preserved : goal.loop-node-preserved
loop-node-preserved c =
    let ahead : IsAhead c.args.histories.now c.loop-node.choice.items c.in-Some.node =
    subst (λ (l : List ℕ). IsAhead c.args.histories.now l c.in-Some.node) c.as_slice.ensures.value
    c.in-Some.ensures in
    let width = c.loop-node.invariant.0.width in
    let inside : c.in-Some.node < length c.loop-node.choice.items =
    omega (arith, width, ahead.inside) in
    let value : c.index_mut.result.now ≡ get_or c.loop-node.choice.items c.in-Some.node 0 =
    c.index_mut.ensures.value
    ∙ get_or_default_zero c.loop-node.choice.items c.in-Some.node c.index_mut.result.now inside in
    rw value (
      back-is c.in-Some.node c.loop-node.invariant.0,
      back-above c.requires c.loop-node.invariant.0 c.loop-node.invariant.1 ahead,
    )
