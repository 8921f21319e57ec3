use Rattle.std.proofs.Common.{[], subst, sym}
use Rattle.model.specs.declared.step.Outcome.TheVariants as outcome
use Rattle.commands.specs.Freed.{KeepsSums, freed_in, freed_with}
use Rattle.commands.proofs.Replies.{outcome_shows, step_refused}
use Rattle.commands.proofs.simulation.act_in.Goals as goal

pub returns-in-Ok : goal.returns-in-Ok
returns-in-Ok c = λ f h shown.
    outcome_shows h f f shown c.in-Ok.ensures.stepped
    (λ w sums there kept. subst
    (λ s. KeepsSums f.sums (freed_with w s (freed_in (outcome.Answer c.in-Ok.answer)) sums))
    (sym c.requires.quiet) kept)

pub returns-in-Err : goal.returns-in-Err
returns-in-Err c = λ f. (step_refused {line = []} c.in-Err.ensures.stepped f).refused
