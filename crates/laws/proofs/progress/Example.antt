-- Two nodes, of which node 0 has begun a cycle: the bounds, and how many moves it takes.
use Rattle.std.specs.Int.{int_wrap}
use Rattle.std.proofs.Common.{◌≡◌, ℕ, Bool, true, false, ◌==◌, ◌&&◌, [], ◌∷◌, refl}
use Rattle.ids.specs.Limits.{plain_shape}
use Rattle.model.specs.declared.event.Event.TheVariants as event
use Rattle.model.specs.declared.step.Step.TheVariants as step
use Rattle.model.specs.Counting.{append, announce}
use Rattle.model.specs.Shading.{see_to, enter, join}
use Rattle.model.specs.Collecting.{is_swept_everywhere, probe, begun, conclude, passed, free_one, swept_slots}
use Rattle.model.specs.Steps.{act, receive, count_in, take_body, settled, taken_in}
use Rattle.model.specs.World.{World, new_world, run, take_step}
use Rattle.laws.specs.Strategy.{now, play}
use Rattle.laws.specs.Bounds.{marking_moves, cycle_moves}

abbrev start : World
start =
    run (new_world (plain_shape 2 1 1)) (step.Act 0 event.Begin ∷ [])

-- after k moves, whether marking has ended
abbrev ended_after : ℕ → Bool
ended_after k = (now (play 2 k start) 0).local.phases.ended == 1

moves_bound : marking_moves 2 (now start) ≡ 60
unfolding take_step act append announce join enter see_to probe begun
moves_bound = refl

cycle_bound : cycle_moves 2 (now start) ≡ 72
unfolding take_step act append announce join enter see_to probe begun
cycle_bound = refl

ended_ninth : (ended_after 8 ≡ false) × (ended_after 9 ≡ true)
unfolding take_step act append announce join enter see_to probe begun receive count_in
    take_body settled taken_in passed conclude int_wrap
ended_ninth = (refl, refl)

-- whether both have swept, and node 0 knows it
abbrev swept_in : World → Bool
swept_in w = ((now w 1).local.phases.swept == 1) && is_swept_everywhere (now w 0).local.phases

-- computed once
twelve : World
unfolding take_step act append announce join enter see_to probe begun receive count_in take_body
    settled taken_in passed conclude swept_slots free_one int_wrap
twelve = play 2 12 start

swept_thirteenth : (swept_in twelve ≡ false) × (swept_in (play 2 1 twelve) ≡ true)
unfolding twelve take_step act append announce join enter see_to probe begun receive count_in
    take_body settled taken_in passed conclude swept_slots free_one int_wrap
swept_thirteenth = (refl, refl)
