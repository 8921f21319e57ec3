use Rattle.std.proofs.Common.{◌∙◌, subst, sym}
use Rattle.commands.specs.Script.{ShowsHeld, writes}
use Rattle.model.specs.declared.step.Step.TheVariants as step
use Rattle.commands.proofs.Replies.{wide_writes}
use Rattle.commands.proofs.simulation.write.Goals as goal

pub returns-then-is_wide : goal.returns-then-is_wide
returns-then-is_wide c = λ h shown.
    wide_writes (λ b. step.Act c.args.node (writes c.args.writing b)) c.write_in.result
    c.args.word.now c.in-Open.freed
    (λ w there. sym (c.is_wide.ensures w there) ∙ c.if-is_wide.true) c.write_in.ensures h
    (subst (λ s. ShowsHeld s h) c.in-Open.is shown)
