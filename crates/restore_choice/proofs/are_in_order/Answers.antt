use Rattle.std.proofs.Common.{rules, ◌≡◌, ◌≢◌, ◌-◌, ℕ, Some, ◌+◌, arith, sym, ◌∙◌, slice_get, subst, subst₂, ⊎_elim}
use Rattle.std.proofs.lemmas.Bool.{cases_eq}
use Rattle.std.proofs.lemmas.Option.{slice_get_within}
use Rattle.restore_choice.specs.Choices.{IsAfter}
use Rattle.restore_choice.proofs.Orders.{is-there}
use Rattle.restore_choice.proofs.are_in_order.Goals as goal

pub loop-at-preserved : goal.loop-at-preserved
loop-at-preserved c = λ k first second inside at_first at_second.
    ⊎_elim {C = IsAfter first second}
    (λ (e : k + 1 ≡ c.loop-at.at).
    let before : k ≡ c.loop-at.at - 1 = omega (arith, e) in
    subst₂ IsAfter
    (c.index-states-at.is
    ∙ sym (is-there c.args.states.now (c.loop-at.at - 1) first c.index-states-at.result
    (subst (λ (n : ℕ). slice_get c.args.states.now n ≡ Some first) before at_first)))
    (c.index-states-at-in-loop-at.is
    ∙ sym (is-there c.args.states.now c.loop-at.at second c.index-states-at-in-loop-at.result
    (subst (λ (n : ℕ). slice_get c.args.states.now n ≡ Some second) e at_second)))
    (c.is_after.ensures.0 (search c.if-not-is_after.false)))
    (λ (apart : k + 1 ≢ c.loop-at.at).
    c.loop-at.invariant k first second (omega (arith, inside, apart)) at_first at_second)
    (cases_eq (k + 1) c.loop-at.at)

pub returns : goal.returns
returns c = (
  λ yes k first second at_first at_second.
      (let within = slice_get_within c.args.states.now (k + 1) second at_second in
      let end = c.loop-at-test.false in
      c.loop-at.invariant k first second (omega (arith, within, end)) at_first at_second),
  λ order. search rules,
)
