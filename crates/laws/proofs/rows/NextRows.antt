-- Worked examples of one cycle after another, computed.
use Rattle.std.proofs.Common.{pos, false, List, [], ◌∷◌, ◌++◌, refl}
use Rattle.std.specs.Int.{int_wrap}
use Rattle.ids.specs.declared.refusal.Refusal.TheVariants.{NotDirector, CycleRunning}
use Rattle.msg.specs.declared.body.Colour.TheVariants.{White}
use Rattle.model.specs.Counting.{append, announce}
use Rattle.model.specs.Shading.{make_grey, see_to, enter, join}
use Rattle.model.specs.Collecting.{probe, begun, scan, scanned, conclude, passed, free_one, swept_slots}
use Rattle.model.specs.Steps.{act, receive, count_in, take_body, settled, taken_in}
use Rattle.model.specs.World.{take_step}
use Rattle.laws.proofs.rows.Rows.{object, space, alloc, drop_register, made, received, done, no_frame, refused}
use Rattle.laws.proofs.rows.Words.{begin_cycle, scan_grey, pass_token, sweep_slots, save, restart, deliver, ok, began, scanned_grey, ended, freed_done, state, Row, ◌gives◌, ◌shows◌, Prints, two_rounds}
use Rattle.laws.proofs.rows.CycleRows.{two_probes, swept_by_both}

-- What becomes garbage while a cycle runs stays in that cycle, and goes in the next.
abbrev next_cycle : List Row
next_cycle =
    alloc 0 0 0 gives made (object 0 0 1)
    ∷ begin_cycle 0 gives began 1
    ∷ drop_register 0 0 gives ok
    ∷ scan_grey 0 gives scanned_grey (object 0 0 1)
    ∷ two_probes 1 1 1
    ++ swept_by_both 4 3
    ++ two_probes 2 5 4
    ++ sweep_slots 0 16 gives freed_done 1
    ∷ []

pub next-cycle-prints : Prints (space 2 4 16) next_cycle
unfolding int_wrap take_step act receive append announce see_to make_grey enter join begun probe
    scan scanned conclude passed free_one swept_slots count_in take_body settled taken_in
next-cycle-prints = refl

-- The next cycle begins when node 0 has swept this one, and both others have reported their sweeps.
abbrev all_reported : List Row
all_reported =
    begin_cycle 1 gives refused NotDirector
    ∷ begin_cycle 0 gives began 1
    ∷ begin_cycle 0 gives refused CycleRunning
    ∷ two_rounds 0
    ++ pass_token 0 gives ended 1
    ∷ begin_cycle 0 gives refused CycleRunning
    ∷ save 0 gives done
    ∷ deliver 0 1 1 gives received
    ∷ deliver 0 1 2 gives received
    ∷ deliver 0 2 4 gives received
    ∷ sweep_slots 1 16 gives freed_done 0
    ∷ sweep_slots 2 16 gives freed_done 0
    ∷ save 1 gives done
    ∷ save 2 gives done
    ∷ deliver 1 0 3 gives received
    ∷ begin_cycle 0 gives refused CycleRunning
    ∷ sweep_slots 0 16 gives freed_done 0
    ∷ begin_cycle 0 gives refused CycleRunning
    ∷ deliver 2 0 1 gives received
    ∷ begin_cycle 0 gives began 2
    ∷ []

pub all-reported-prints : Prints (space 3 4 16) all_reported
unfolding int_wrap take_step act receive append announce see_to make_grey enter join begun probe
    conclude passed free_one swept_slots count_in take_body settled taken_in
all-reported-prints = refl

-- A restart takes back a cycle that wasn't saved, and the same cycle begins again.
abbrev cycle_taken_back : List Row
cycle_taken_back =
    alloc 0 0 0 gives made (object 0 0 1)
    ∷ save 0 gives done
    ∷ begin_cycle 0 gives began 1
    ∷ deliver 0 1 1 gives no_frame
    ∷ 0 shows state 1 0 0 White (pos 0) (pos 0) 1 1 false 0
    ∷ restart 0 gives done
    ∷ 0 shows state 0 0 0 White (pos 0) (pos 0) 0 1 false 0
    ∷ begin_cycle 0 gives began 1
    ∷ save 0 gives done
    ∷ deliver 0 1 1 gives received
    ∷ []

pub cycle-taken-back-prints : Prints (space 2 4 16) cycle_taken_back
unfolding take_step act receive append announce see_to make_grey enter join begun probe count_in
    take_body settled taken_in
cycle-taken-back-prints = refl
