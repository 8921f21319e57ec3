use Rattle.std.proofs.Common.{ℕ, ◌+◌, ◌∙◌, ap, subst, Result}
use Rattle.ids.specs.declared.refusal.Refusal.{Refusal}
use Rattle.model.specs.State.{Phases}
use Rattle.model.specs.World.{World, new_world, run}
use Rattle.laws.specs.Progress.{current_cycle}
use Rattle.world.specs.Collected.{PlaysUntil}
use Rattle.world.specs.Spaces.{SpaceView}
use Rattle.world.proofs.Playing.{after-cycle, all-fit, collects, shape-width}
use Rattle.world.proofs.sim.Sim.collect.Goals as goal

pub returns-clause-plays : goal.returns-clause-plays
returns-clause-plays c =
    after-cycle c.play_until.result c.args.self.now c.play_until.new.self c.cycle-cycle.result
    (c.cycle-cycle.ensures.value ∙ ap (λ (p : Phases). p.cycle) c.phases.ensures.value)
    c.play_until.ensures.plays

pub returns-clause-ends : goal.returns-clause-ends
returns-clause-ends c =
    collects c.play_until.result c.play_until.new.self
    (after-cycle c.play_until.result c.args.self.now c.play_until.new.self c.cycle-cycle.result
    (c.cycle-cycle.ensures.value ∙ ap (λ (p : Phases). p.cycle) c.phases.ensures.value)
    c.play_until.ensures.plays)

pub returns-clause-fits : goal.returns-clause-fits
returns-clause-fits c = λ shape limits steps shown can fit.
    let w : World = run (new_world shape) steps in
    let result : Result ℕ Refusal = c.play_until.result in
    let new : SpaceView = c.play_until.new.self in
    let plays = after-cycle result c.args.self.now new c.cycle-cycle.result
    (c.cycle-cycle.ensures.value ∙ ap (λ (p : Phases). p.cycle) c.phases.ensures.value)
    c.play_until.ensures.plays in
    all-fit shape.nodes (current_cycle w + 1) result new
    (subst (λ (z : ℕ). PlaysUntil result z (current_cycle w + 1) w new)
    (shape-width shape steps shown) (plays w shown))
    (collects result new plays shape limits steps shown can).1 c.play_until.ensures.too_large fit
