use Rattle.std.proofs.Common.{◌≡◌, true, false, Bool, ap, sym, ◌∙◌}
use Rattle.model.specs.View.{is_other}
use Rattle.cell.proofs.Refusing.{pumped-not-closed}
use Rattle.cell.proofs.cell.Cell.pump_in.Goals as goal

pub returns-then-is_some-clause-closed : goal.returns-then-is_some-clause-closed
returns-then-is_some-clause-closed g c = (
  λ closed. absurd (pumped-not-closed c.args.from c.next.result c.args.self.now c.next.new.self
      c.next.ensures.pumped closed),
  λ shut. (let never : ◌≡◌ {A = Bool} true false =
      sym c.if-not-is_ready.false ∙ c.is_ready.ensures.ready ∙ ap (λ v. v.is_open) c.self.view_is
      ∙ shut in absurd cc),
)

pub returns-clause-closed : goal.returns-clause-closed
returns-clause-closed g c = (
  λ closed. absurd (pumped-not-closed c.args.from c.receive.result c.args.self.now
      c.receive.new.self c.receive.ensures.pumped closed),
  λ shut. (let never : ◌≡◌ {A = Bool} true false =
      sym c.if-not-is_ready.false ∙ c.is_ready.ensures.ready ∙ ap (λ v. v.is_open) c.self.view_is
      ∙ shut in absurd cc),
)

pub returns-then-is_some-clause-pumped : goal.returns-then-is_some-clause-pumped
returns-then-is_some-clause-pumped g c = λ _ _. c.next.ensures.pumped

pub returns-then-is_some-clause-shut : goal.returns-then-is_some-clause-shut
returns-then-is_some-clause-shut g c = λ shut. (let never : ◌≡◌ {A = Bool} true false =
    sym c.if-not-is_ready.false ∙ c.is_ready.ensures.ready ∙ ap (λ v. v.is_open) c.self.view_is
    ∙ shut in
    absurd cc)

pub returns-then-is_some-clause-no_node : goal.returns-then-is_some-clause-no_node
returns-then-is_some-clause-no_node g c = λ _ none. (let never : ◌≡◌ {A = Bool} true false =
    sym c.if-not-is_other.false ∙ c.is_other.ensures
    ∙ ap (λ v. is_other v.node.core.local c.args.from) c.self.view_is ∙ none in absurd cc)

pub returns-clause-pumped : goal.returns-clause-pumped
returns-clause-pumped g c = λ _ _. c.receive.ensures.pumped

pub returns-clause-shut : goal.returns-clause-shut
returns-clause-shut g c = λ shut. (let never : ◌≡◌ {A = Bool} true false =
    sym c.if-not-is_ready.false ∙ c.is_ready.ensures.ready ∙ ap (λ v. v.is_open) c.self.view_is
    ∙ shut in
    absurd cc)

pub returns-clause-no_node : goal.returns-clause-no_node
returns-clause-no_node g c = λ _ none. (let never : ◌≡◌ {A = Bool} true false =
    sym c.if-not-is_other.false ∙ c.is_other.ensures
    ∙ ap (λ v. is_other v.node.core.local c.args.from) c.self.view_is ∙ none in absurd cc)
