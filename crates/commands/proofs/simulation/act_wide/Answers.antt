use Rattle.std.proofs.Common.{◌∙◌, subst, sym}
use Rattle.commands.specs.Script.{ShowsHeld}
use Rattle.model.specs.declared.step.Step.TheVariants as step
use Rattle.commands.proofs.Replies.{wide_steps}
use Rattle.commands.proofs.simulation.act_wide.Goals as goal

pub returns-then-is_wide : goal.returns-then-is_wide
returns-then-is_wide c = λ h shown.
    wide_steps (step.Act c.args.node c.args.event.now) c.act_in.result c.in-Open.freed
    (λ w there. sym (c.is_wide.ensures w there) ∙ c.if-is_wide.true) c.act_in.ensures h
    (subst (λ s. ShowsHeld s h) c.in-Open.is shown)
