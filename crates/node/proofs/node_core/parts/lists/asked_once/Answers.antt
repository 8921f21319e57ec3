use Rattle.std.proofs.Common.{refl, sym, ◌∙◌}
use Rattle.std.proofs.lemmas.List.{get_or_default}
use Rattle.node.proofs.Lists.{own-refused}
use Rattle.node.proofs.node_core.parts.lists.asked_once.Goals as goal

pub returns-then-not-is_foreign-clause-refused : goal.returns-then-not-is_foreign-clause-refused
returns-then-not-is_foreign-clause-refused c = λ other. (
  refl,
  own-refused c.loop-reference.reference-index _ c.loop-reference-test.true
      (get_or_default c.args.references.now _ _ _ c.loop-reference-test.true)
      (sym c.is_foreign.ensures ∙ c.if-not-is_foreign.true),
)
