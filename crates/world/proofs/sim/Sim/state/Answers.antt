use Rattle.std.proofs.Common.{Some, ap, ◌∙◌}
use Rattle.world.proofs.Steps.{state_here, state_shown}
use Rattle.world.proofs.sim.Sim.state.Goals as goal

pub returns-in-Some : goal.returns-in-Some
returns-in-Some c =
    let here = ap (λ s. Some s) c.state.ensures.value ∙ state_here _ c.in-Some.ensures.core in
    record { here = here; shown = λ w shown. here ∙ state_shown c.args.number shown }

pub returns-in-None : goal.returns-in-None
returns-in-None c =
    let here = state_here _ c.in-None.ensures.core in
    record { here = here; shown = λ w shown. here ∙ state_shown c.args.number shown }
