use Rattle.std.proofs.Common.{◌∙◌, ap, sym, arith, eq-eqb}
use Rattle.std.proofs.lemmas.Bool.{eqb-true}
use Rattle.model.specs.State.{Phases}
use Rattle.model.specs.Collecting.{is_swept_everywhere}
use Rattle.world.proofs.Moves.{swept-shown, swept-found}
use Rattle.world.proofs.sim.Sim.is_swept.Goals as goal

pub returns : goal.returns
returns c = λ w shown. (
  λ same.
      swept-shown shown.world c.args.cycle
      (sym (ap (λ (p : Phases). p.cycle) c.phases-phases.ensures.value)
      ∙ sym c.cycle.ensures.value ∙ c.if-cycle.false)
      (sym (ap is_swept_everywhere c.phases-phases.ensures.value)
      ∙ sym c.is_swept_everywhere.ensures ∙ c.if-not-is_swept_everywhere.false)
      (omega (arith, eqb-true _ _ same, c.first.ensures, c.count.ensures.value)),
  λ swept.
      eq-eqb _ _
      (c.first.ensures ∙ (swept-found shown.world c.args.cycle swept).2
      ∙ sym c.count.ensures.value),
)
