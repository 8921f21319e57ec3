use Rattle.std.proofs.Common.{◌∙◌}
use Rattle.model.specs.State.{LocalState}
use Rattle.model.specs.Heaps.{heap_letter}
use Rattle.world.proofs.Steps.{read_shown}
use Rattle.world.proofs.sim.Sim.letter.Goals as goal

pub returns-in-Some : goal.returns-in-Some
returns-in-Some c =
    let reads = λ (p : LocalState). heap_letter p.heap in
    λ w shown.
    c.letter.ensures ∙ read_shown reads c.args.number shown.world c.in-Some.ensures.core

pub returns-in-None : goal.returns-in-None
returns-in-None c =
    let reads = λ (p : LocalState). heap_letter p.heap in
    λ w shown. read_shown reads c.args.number shown.world c.in-None.ensures.core
