use Rattle.std.proofs.Common.{rules, ◌≡◌, ◌≢◌, ℕ, arith, subst, sym, ⊎_elim}
use Rattle.std.proofs.lemmas.Bool.{cases_eq, cases_lt}
use Rattle.restore_choice.specs.Choices.{AreInOrder, states_of}
use Rattle.restore_choice.proofs.Orders.{past-order, states-are}
use Rattle.restore_choice.proofs.find_disorder.Goals as goal

pub returns-then-not-are_in_order : goal.returns-then-not-are_in_order
returns-then-not-are_in_order c = λ order.
    let same =
    states-are c.args.histories.now c.loop-node.node c.index-histories-node.result
    c.as_slice.result.now c.loop-node-test.true c.index-histories-node.is
    c.as_slice.ensures.value in
    let yes = c.are_in_order.ensures.1 (subst AreInOrder same order) in
    search (rules, yes, c.if-not-are_in_order.true)

pub loop-node-preserved : goal.loop-node-preserved
loop-node-preserved c = λ i inside.
    ⊎_elim {C = AreInOrder (states_of c.args.histories.now i)}
    (λ (e : i ≡ c.loop-node.node).
    let same =
    states-are c.args.histories.now c.loop-node.node c.index-histories-node.result
    c.as_slice.result.now c.loop-node-test.true c.index-histories-node.is
    c.as_slice.ensures.value in
    subst (λ (k : ℕ). AreInOrder (states_of c.args.histories.now k)) (sym e)
    (subst AreInOrder (sym same) (c.are_in_order.ensures.0 (search c.if-not-are_in_order.false))))
    (λ (apart : i ≢ c.loop-node.node). c.loop-node.invariant i (omega (arith, inside, apart)))
    (cases_eq i c.loop-node.node)

pub returns : goal.returns
returns c = λ i.
    ⊎_elim {C = AreInOrder (states_of c.args.histories.now i)}
    (λ before. c.loop-node.invariant i before)
    (λ past. past-order c.args.histories.now i (omega (arith, past, c.loop-node-test.false)))
    (cases_lt i c.loop-node.node)
