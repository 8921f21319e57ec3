use Rattle.std.proofs.Common.{subst}
use Rattle.commands.specs.Script.{ShowsHeld}
use Rattle.commands.proofs.Replies.{made_shows}
use Rattle.commands.proofs.simulation.open.Goals as goal

pub returns-in-Ok : goal.returns-in-Ok
returns-in-Ok c =
    λ h shown. made_shows h c.args.shape c.in-Ok.space c.new-freed.result
    (subst (λ s. ShowsHeld s h) c.in-Unopened.is shown) c.in-Ok.ensures.made
    c.in-Ok.ensures.early c.new-freed.ensures
